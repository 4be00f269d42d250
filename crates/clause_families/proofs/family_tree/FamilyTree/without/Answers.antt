use Rattle.std.proofs.{Common.{◌≡◌, ◌+◌, ◌-◌, ◌∙◌, ◌∷◌, List, ℕ, ap, arith, drop, length, refl, subst, sym}, lemmas.List.{drop_all}}
use Rattle.clause_pool.specs.{Interned.{clauses_at}, Clauses.{apart_from}}
use Rattle.listed.specs.Lists.{has}
use Rattle.listed.proofs.Lists.{item_in}
use Rattle.clause_families.specs.Branches.{BuiltOf}
use Rattle.clause_families.proofs.{Built.{built_none, without_less, without_more}, Families.{At, at_clause, clauses_length}}
use Rattle.clause_families.proofs.family_tree.FamilyTree.without.Goals as goal

pub loop-place-init : goal.loop-place-init
loop-place-init c =
    let cs : List (List ℕ) = clauses_at c.args.pool.now c.args.row.now in
    let size : length cs ≡ length c.args.row.now = clauses_length c.args.pool.now c.args.row.now in
    built_none _ (apart_from c.args.number (drop (length c.args.row.now) cs)) (ap (apart_from c.args.number) (drop_all (length c.args.row.now) cs (omega arith))) c.in_ok-with_capacity.ensures.items refl

pub slice-clause-requires : goal.slice-clause-requires
slice-clause-requires c = c.requires.row c.index-row-place.result (item_in c.args.row.now (c.loop-place.place - 1) c.index-row-place.result (omega arith) c.index-row-place.is)

pub loop-place-preserved-in_ok-put : goal.loop-place-preserved-in_ok-put
loop-place-preserved-in_ok-put c =
    let cs : List (List ℕ) = clauses_at c.args.pool.now c.args.row.now in
    let i : ℕ = c.loop-place.place - 1 in
    let at : At cs i c.slice-clause.result.now =
    at_clause c.args.pool.now c.args.row.now i c.index-row-place.result c.slice-clause.result.now (omega arith) c.index-row-place.is c.slice-clause.ensures.lent in
    let behind : BuiltOf c.loop-place.tree (apart_from c.args.number (drop (i + 1) cs)) = subst (λ k. BuiltOf c.loop-place.tree (apart_from c.args.number (drop k cs))) (omega arith) c.loop-place.invariant in
    subst (λ z. BuiltOf c.put.new.self z)
    (ap (λ x. x ∷ apart_from c.args.number (drop (i + 1) cs)) (sym at.is)
    ∙ sym (without_more c.args.number cs i at.below (ap (λ x. has x c.args.number) at.is ∙ sym c.holds_ascending.ensures ∙ c.if-not-holds_ascending.true)))
    (c.in_ok-put.ensures (apart_from c.args.number (drop (i + 1) cs)) behind)

pub loop-place-preserved : goal.loop-place-preserved
loop-place-preserved c =
    let cs : List (List ℕ) = clauses_at c.args.pool.now c.args.row.now in
    let i : ℕ = c.loop-place.place - 1 in
    let at : At cs i c.slice-clause.result.now =
    at_clause c.args.pool.now c.args.row.now i c.index-row-place.result c.slice-clause.result.now (omega arith) c.index-row-place.is c.slice-clause.ensures.lent in
    let behind : BuiltOf c.loop-place.tree (apart_from c.args.number (drop (i + 1) cs)) = subst (λ k. BuiltOf c.loop-place.tree (apart_from c.args.number (drop k cs))) (omega arith) c.loop-place.invariant in
    subst (λ z. BuiltOf c.loop-place.tree z)
    (sym (without_less c.args.number cs i at.below (ap (λ x. has x c.args.number) at.is ∙ sym c.holds_ascending.ensures ∙ c.if-not-holds_ascending.false)))
    behind
