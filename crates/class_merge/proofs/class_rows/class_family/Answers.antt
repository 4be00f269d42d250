use Rattle.std.proofs.Common.{◌≡◌, ◌∙◌, List, ℕ, ap, map, subst}
use Rattle.clause_pool.specs.{Clauses.{apart_from, in_row_order}, Interned.{clauses_at, row_at}}
use Rattle.clause_pool.proofs.Order.{order_same, ordered_has, ordered_order, ordered_parts}
use Rattle.clause_families.specs.Families.{SameClauses}
use Rattle.class_merge.specs.Classes.{image_in}
use Rattle.class_merge.proofs.class_rows.class_family.Goals as goal

pub returns : goal.returns
returns c =
    let f = image_in c.args.count c.args.class_of.now in
    let all : List (List ℕ) = apart_from c.args.class (map f (row_at c.args.pool.now c.args.row)) in
    let is : c.in_ok-family.family.items ≡ all = c.in_ok-family.ensures ∙ ap (λ ids. apart_from c.args.class (map f (clauses_at c.args.pool.now ids))) c.row.ensures.lent in
    let same : SameClauses all c.put_in_order.new.family.items = subst (λ z. SameClauses z c.put_in_order.new.family.items) is c.put_in_order.ensures.same in
    c.of.ensures ∙ order_same c.put_in_order.new.family.items (in_row_order all) c.put_in_order.ensures.in_order (ordered_order all)
    (λ d i. ordered_has all d (same.back d i)) (λ d i. same.there d (ordered_parts all d i))
