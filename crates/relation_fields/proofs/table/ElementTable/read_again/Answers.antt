use Rattle.std.proofs.Common.{◌∙◌, ap, get_or, sym}
use Rattle.relation_fields.specs.Grammar.{alternatives_of}
use Rattle.relation_fields.proofs.Marked.{said_beside}
use Rattle.relation_fields.proofs.table.ElementTable.read_again.Goals as goal

pub returns-clause-said : goal.returns-clause-said
returns-clause-said c =
    said_beside alternatives_of c.self.inside.texts c.self.inside.read.distinct.items c.in-Some.place c.args.text.now c.in_ok-said.said c.self.invariant c.in-Some.ensures.some.0 c.in-Some.ensures.some.1
    (c.in_ok-said.ensures ∙ c.index.ensures ∙ ap (λ d. get_or c.self.inside.read.distinct.items c.in-Some.place d) (sym c.in_ok-said.ensures))
