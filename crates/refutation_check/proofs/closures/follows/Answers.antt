use Rattle.std.proofs.Common.{◌∙◌, ◌≡◌}
use Rattle.std.specs.Prelude.{map}
use Rattle.search_terms.specs.Closure.{negation}
use Rattle.refutation_check.proofs.Logs.{range_of}
use Rattle.refutation_check.proofs.closures.follows.Goals as goal

pub clashes-requires-clause-given : goal.clashes-requires-clause-given
clashes-requires-clause-given c = range_of c.deref.result.now c.args.entry.now c.args.classes (c.deref.ensures.value ∙ c.in_ok-given.ensures) c.requires.entry

pub returns : goal.returns
returns c =
    let e : c.deref.result.now ≡ map negation c.args.entry.now = c.deref.ensures.value ∙ c.in_ok-given.ensures in
    rw e at c.clashes.ensures
