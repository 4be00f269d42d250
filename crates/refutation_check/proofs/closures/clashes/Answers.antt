use Rattle.std.proofs.Common.{◌++◌}
use Rattle.search_terms.specs.Marks.{is_marked}
use Rattle.search_terms.proofs.Least.{clash_iff}
use Rattle.refutation_check.proofs.closures.clashes.Goals as goal

pub returns : goal.returns
returns c = clash_iff (c.args.first.now ++ c.args.second.now) c.args.given.now (is_marked c.in_ok-flags.flags.items) c.is_clash.result c.in_ok-flags.ensures.closure (rw c.deref.ensures.value at c.is_clash.ensures)
