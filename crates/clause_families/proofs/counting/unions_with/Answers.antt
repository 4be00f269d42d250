use Rattle.std.proofs.Common.{◌++◌, ◌∙◌, ap, map, subst}
use Rattle.clause_families.specs.{Families.{SameClauses}, Unions.{clause_without, union_of}}
use Rattle.clause_families.proofs.UnionRows.{family_is}
use Rattle.clause_families.proofs.counting.unions_with.Goals as goal

pub returns : goal.returns
returns c =
    family_is c.put_in_order.new.family.items (map (union_of (clause_without c.args.spent c.args.clause.now)) c.args.others.now) c.put_in_order.ensures.in_order
    (subst (λ z. SameClauses z c.put_in_order.new.family.items)
    (c.in_ok-add_unions_with.ensures ∙ ap (λ z. z ++ map (union_of (clause_without c.args.spent c.args.clause.now)) c.args.others.now) c.in_ok-unions.ensures.items)
    c.put_in_order.ensures.same)
