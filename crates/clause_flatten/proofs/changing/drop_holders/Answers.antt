use Rattle.std.proofs.Common.{ap, ap₂, sym, ◌∙◌, ◌∷◌, ◌+◌, ◌<◌, ◌++◌, ◌≡◌, [], arith, drop, get_or, inl, inr, length, not, refl, slice_set, subst, take}
use Rattle.std.proofs.{lemmas.Bool.{not_from_false, not_from_true}, lemmas.List.{map-append}}
use Rattle.clause_pool.specs.Interned.{clause_at, clauses_at}
use Rattle.listed.specs.Lists.{In, has}
use Rattle.listed.proofs.Lists.{In_append_cases, In_cases, In_none, item_in}
use Rattle.clause_families.proofs.Families.{At, at_clause, filter_push, filter_skip, of_pool_item}
use Rattle.clause_flatten.proofs.InPlace.{below_old, item_old, left_after, left_behind, size_after, taken_after}
use Rattle.clause_flatten.proofs.changing.drop_holders.Goals as goal
use Rattle.clause_flatten.proofs.changing.drop_holders.Goals.{then-not-clause_holds, else-not-clause_holds}

pub clause_holds-requires : goal.clause_holds-requires
clause_holds-requires c =
    let inv = c.loop-place.invariant in
    let old = c.args.ids.now.items in
    let now = c.loop-place.ids.items in
    let below : c.loop-place.place < length now = let t = c.loop-place-test.true in let l = c.len-place-end.ensures in let s = inv.size in omega (arith, t, l, s) in
    of_pool_item c.args.pool.now old c.loop-place.place c.index-id.result.now c.requires.ids
    (below_old old now c.loop-place.kept c.loop-place.place c.index-id.result.now inv.few inv.size inv.left below)
    (item_old old now c.loop-place.kept c.loop-place.place c.index-id.result.now inv.few inv.size inv.left below c.index-id.ensures)

pub loop-place-preserved : goal.loop-place-preserved
loop-place-preserved c =
    let inv = c.loop-place.invariant in
    let pool = c.args.pool.now in
    let old = c.args.ids.now.items in
    let now = c.loop-place.ids.items in
    let kept = c.loop-place.kept in
    let place = c.loop-place.place in
    let id = c.index-id.result.now in
    let below : place < length now = let t = c.loop-place-test.true in let l = c.len-place-end.ensures in let s = inv.size in omega (arith, t, l, s) in
    let there : place < length old = below_old old now kept place id inv.few inv.size inv.left below in
    let is : id ≡ get_or old place id = item_old old now kept place id inv.few inv.size inv.left below c.index-id.ensures in
    let at : At (clauses_at pool old) place (clause_at pool id) = at_clause pool old place id (clause_at pool id) there is refl in
    let within : In id old = item_in old place id there is in
    let holds = c.clause_holds.ensures (c.requires.placed id within) in
    elim c.if-not-clause_holds.branch [
      | then-not-clause_holds w ↦
          let items : c.if-not-clause_holds.ids.items ≡ slice_set now kept id = ap (λ z. z.items) w.ids-is in
          let taken : take c.if-not-clause_holds.kept c.if-not-clause_holds.ids.items ≡ take kept now ++ id ∷ [] = ap₂ take w.kept-is items ∙ taken_after old now kept place id inv.few inv.size inv.left below in
          record {
            size = ap length items ∙ size_after old now kept place id inv.few inv.size inv.left below;
            few = let k = w.kept-is in let f = inv.few in omega (arith, k, f);
            left = ap (drop (place + 1)) items ∙ left_after old now kept place id inv.few inv.size inv.left below;
            made = filter_push (λ d. not (has d c.args.number)) (clauses_at pool old) place (clause_at pool id) (clause_at pool id)
                (clauses_at pool (take kept now)) (clauses_at pool (take c.if-not-clause_holds.kept c.if-not-clause_holds.ids.items))
                at (not_from_false (has (clause_at pool id) c.args.number) (sym holds ∙ w.if-not-clause_holds.true)) inv.made refl
                (ap (clauses_at pool) taken ∙ map-append (clause_at pool) (take kept now) (id ∷ []));
            part = λ n i. elim (In_append_cases (take kept now) (id ∷ []) n (subst (λ z. In n z) taken i)) [
              | inl j ↦ inv.part n j
              | inr j ↦ elim (In_cases j) [
                | inl e ↦ subst (λ z. In z old) (sym e) within
                | inr none ↦ absurd (In_none none)
              ]
            ];
          }
      | else-not-clause_holds w ↦
          record {
            size = ap (λ z. length z.items) w.ids-is ∙ inv.size;
            few = let k = w.kept-is in let f = inv.few in omega (arith, k, f);
            left = ap (λ z. drop (place + 1) z.items) w.ids-is ∙ left_behind old now kept place id inv.few inv.size inv.left below;
            made = filter_skip (λ d. not (has d c.args.number)) (clauses_at pool old) place (clause_at pool id)
                (clauses_at pool (take kept now)) (clauses_at pool (take c.if-not-clause_holds.kept c.if-not-clause_holds.ids.items))
                at (not_from_true (has (clause_at pool id) c.args.number) (sym holds ∙ w.if-not-clause_holds.false)) inv.made
                (ap₂ (λ k z. clauses_at pool (take k z.items)) w.kept-is w.ids-is);
            part = λ n i. inv.part n (subst (λ z. In n z) (ap₂ (λ k z. take k z.items) w.kept-is w.ids-is) i);
          }
    ]
