use Rattle.std.proofs.Common.{◌&&◌, ◌∙◌, ap, ap₂, sym}
use Rattle.clause_families.specs.Inclusion.{some_inside}
use Rattle.clause_families.proofs.counting.is_united.Goals as goal

pub has_inside-requires-clause-tree : goal.has_inside-requires-clause-tree
has_inside-requires-clause-tree c = record { family = c.args.parts.now.first.clauses.items; tells = c.requires.parts.first }

pub returns-then-not-has_inside : goal.returns-then-not-has_inside
returns-then-not-has_inside c =
    sym (ap (λ b. b && some_inside c.args.parts.now.second.clauses.items c.args.clause.now)
    (sym (c.has_inside.ensures c.args.parts.now.first.clauses.items c.requires.parts.first) ∙ c.if-not-has_inside.true))

pub returns : goal.returns
returns c =
    c.has_inside-2.ensures c.args.parts.now.second.clauses.items c.requires.parts.second
    ∙ sym (ap (λ b. b && some_inside c.args.parts.now.second.clauses.items c.args.clause.now)
    (sym (c.has_inside.ensures c.args.parts.now.first.clauses.items c.requires.parts.first) ∙ c.if-not-has_inside.false))
