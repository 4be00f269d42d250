use Rattle.std.proofs.Common.{◌&&◌, ◌∙◌, ap, not, sym}
use Rattle.clause_families.specs.{Counting.{unites_less}, Inclusion.{some_inside}}
use Rattle.clause_families.proofs.counting.is_new.Goals as goal

pub has_shorter-requires-clause-tree : goal.has_shorter-requires-clause-tree
has_shorter-requires-clause-tree c = record { family = c.args.parts.now.kept.clauses.items; tells = c.requires.parts.kept }

pub returns-then-has_shorter : goal.returns-then-has_shorter
returns-then-has_shorter c rest t =
    sym (ap (λ b. not b && (not (some_inside rest c.args.union.now) && not (unites_less c.args.parts.now.first.clauses.items c.args.parts.now.second.clauses.items c.args.union.now)))
    (sym (c.has_shorter.ensures c.args.parts.now.kept.clauses.items c.requires.parts.kept) ∙ c.if-has_shorter.true))

pub returns-then-has_inside : goal.returns-then-has_inside
returns-then-has_inside c rest t =
    sym (ap (λ b. not b && (not (some_inside rest c.args.union.now) && not (unites_less c.args.parts.now.first.clauses.items c.args.parts.now.second.clauses.items c.args.union.now)))
    (sym (c.has_shorter.ensures c.args.parts.now.kept.clauses.items c.requires.parts.kept) ∙ c.if-has_shorter.false)
    ∙ ap (λ b. not b && not (unites_less c.args.parts.now.first.clauses.items c.args.parts.now.second.clauses.items c.args.union.now)) (sym (c.has_inside.ensures rest t) ∙ c.if-has_inside.true))

pub returns : goal.returns
returns c rest t =
    ap not c.in_ok-shorter.ensures
    ∙ sym (ap (λ b. not b && (not (some_inside rest c.args.union.now) && not (unites_less c.args.parts.now.first.clauses.items c.args.parts.now.second.clauses.items c.args.union.now)))
    (sym (c.has_shorter.ensures c.args.parts.now.kept.clauses.items c.requires.parts.kept) ∙ c.if-has_shorter.false)
    ∙ ap (λ b. not b && not (unites_less c.args.parts.now.first.clauses.items c.args.parts.now.second.clauses.items c.args.union.now)) (sym (c.has_inside.ensures rest t) ∙ c.if-has_inside.false))
