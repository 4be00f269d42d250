use Rattle.std.proofs.Common.{◌≡◌, ◌<◌, ◌≤◌, ◌+◌, ◌-◌, ◌∙◌, ◌∷◌, [], ℕ, ap, ap₂, arith, drop, drop-cons, get_or, length, subst, suc, sym}
use Rattle.std.proofs.lemmas.List.{drop_all}
use Rattle.clause_families.specs.{Branches.{BuiltOf, TreeOf}, Counting.{first_at, rest_of, slice_count, slices}}
use Rattle.clause_families.proofs.{Counted.{slices_from, slices_step}, CountedRows.{later_tree}}
use Rattle.clause_families.proofs.counting.count_backwards.Goals as goal

pub loop-place-init : goal.loop-place-init
loop-place-init c = record {
  count = ap (slices c.args.parts.now.kept.clauses.items c.args.parts.now.first.clauses.items c.args.parts.now.second.clauses.items) (sym (drop_all c.len-place.result c.args.parts.now.first.clauses.items (omega arith)));
  later = subst (BuiltOf c.args.later.now) (sym (drop_all c.len-place.result c.args.parts.now.first.clauses.items (omega arith))) c.requires.later.by;
  within = omega arith;
}

pub count_slice-requires-clause-later : goal.count_slice-requires-clause-later
count_slice-requires-clause-later c =
    subst (λ k. TreeOf c.loop-place.later (drop k c.args.parts.now.first.clauses.items)) (sym (let e : (c.loop-place.place - 1) + 1 ≡ c.loop-place.place = omega arith in e)) (later_tree c.args.parts.now c.requires.parts c.loop-place.later c.loop-place.place c.loop-place.invariant.later)

pub count_slice-requires-clause-few : goal.count_slice-requires-clause-few
count_slice-requires-clause-few c =
    let step : slices c.args.parts.now.kept.clauses.items c.args.parts.now.first.clauses.items c.args.parts.now.second.clauses.items (drop (c.loop-place.place - 1) c.args.parts.now.first.clauses.items)
    ≡ slices c.args.parts.now.kept.clauses.items c.args.parts.now.first.clauses.items c.args.parts.now.second.clauses.items (drop ((c.loop-place.place - 1) + 1) c.args.parts.now.first.clauses.items)
    + slice_count c.args.parts.now.kept.clauses.items c.args.parts.now.first.clauses.items c.args.parts.now.second.clauses.items (drop ((c.loop-place.place - 1) + 1) c.args.parts.now.first.clauses.items) (get_or c.args.parts.now.first.clauses.items (c.loop-place.place - 1) []) c.args.parts.now.second.clauses.items =
    slices_step c.args.parts.now.kept.clauses.items c.args.parts.now.first.clauses.items c.args.parts.now.second.clauses.items c.args.parts.now.first.clauses.items (c.loop-place.place - 1) (let l : c.loop-place.place - 1 < length c.args.parts.now.first.clauses.items = omega arith in l) in
    let most : slices c.args.parts.now.kept.clauses.items c.args.parts.now.first.clauses.items c.args.parts.now.second.clauses.items (drop (c.loop-place.place - 1) c.args.parts.now.first.clauses.items) ≤ slices c.args.parts.now.kept.clauses.items c.args.parts.now.first.clauses.items c.args.parts.now.second.clauses.items c.args.parts.now.first.clauses.items =
    slices_from c.args.parts.now.kept.clauses.items c.args.parts.now.first.clauses.items c.args.parts.now.second.clauses.items c.args.parts.now.first.clauses.items (c.loop-place.place - 1) in
    omega (arith, c.requires.few)

pub overflow_add-count : goal.overflow_add-count
overflow_add-count c =
    let step : slices c.args.parts.now.kept.clauses.items c.args.parts.now.first.clauses.items c.args.parts.now.second.clauses.items (drop (c.loop-place.place - 1) c.args.parts.now.first.clauses.items)
    ≡ slices c.args.parts.now.kept.clauses.items c.args.parts.now.first.clauses.items c.args.parts.now.second.clauses.items (drop ((c.loop-place.place - 1) + 1) c.args.parts.now.first.clauses.items)
    + slice_count c.args.parts.now.kept.clauses.items c.args.parts.now.first.clauses.items c.args.parts.now.second.clauses.items (drop ((c.loop-place.place - 1) + 1) c.args.parts.now.first.clauses.items) (get_or c.args.parts.now.first.clauses.items (c.loop-place.place - 1) []) c.args.parts.now.second.clauses.items =
    slices_step c.args.parts.now.kept.clauses.items c.args.parts.now.first.clauses.items c.args.parts.now.second.clauses.items c.args.parts.now.first.clauses.items (c.loop-place.place - 1) (let l : c.loop-place.place - 1 < length c.args.parts.now.first.clauses.items = omega arith in l) in
    let most : slices c.args.parts.now.kept.clauses.items c.args.parts.now.first.clauses.items c.args.parts.now.second.clauses.items (drop (c.loop-place.place - 1) c.args.parts.now.first.clauses.items) ≤ slices c.args.parts.now.kept.clauses.items c.args.parts.now.first.clauses.items c.args.parts.now.second.clauses.items c.args.parts.now.first.clauses.items =
    slices_from c.args.parts.now.kept.clauses.items c.args.parts.now.first.clauses.items c.args.parts.now.second.clauses.items c.args.parts.now.first.clauses.items (c.loop-place.place - 1) in
    let old : c.loop-place.count ≡ slices c.args.parts.now.kept.clauses.items c.args.parts.now.first.clauses.items c.args.parts.now.second.clauses.items (drop ((c.loop-place.place - 1) + 1) c.args.parts.now.first.clauses.items) =
    c.loop-place.invariant.count ∙ ap (λ k. slices c.args.parts.now.kept.clauses.items c.args.parts.now.first.clauses.items c.args.parts.now.second.clauses.items (drop k c.args.parts.now.first.clauses.items)) (sym (let e : (c.loop-place.place - 1) + 1 ≡ c.loop-place.place = omega arith in e)) in
    let more : c.in_ok-more.more ≡ slice_count c.args.parts.now.kept.clauses.items c.args.parts.now.first.clauses.items c.args.parts.now.second.clauses.items (drop ((c.loop-place.place - 1) + 1) c.args.parts.now.first.clauses.items) (get_or c.args.parts.now.first.clauses.items (c.loop-place.place - 1) []) c.args.parts.now.second.clauses.items = c.in_ok-more.ensures in
    omega (arith, c.requires.few)

pub loop-place-preserved : goal.loop-place-preserved
loop-place-preserved c = record {
  count = ap₂ (λ x y. x + y) (c.loop-place.invariant.count ∙ ap (λ k. slices c.args.parts.now.kept.clauses.items c.args.parts.now.first.clauses.items c.args.parts.now.second.clauses.items (drop k c.args.parts.now.first.clauses.items)) (sym (let e : (c.loop-place.place - 1) + 1 ≡ c.loop-place.place = omega arith in e))) c.in_ok-more.ensures
      ∙ sym (slices_step c.args.parts.now.kept.clauses.items c.args.parts.now.first.clauses.items c.args.parts.now.second.clauses.items c.args.parts.now.first.clauses.items (c.loop-place.place - 1) (let l : c.loop-place.place - 1 < length c.args.parts.now.first.clauses.items = omega arith in l));
  later = subst (BuiltOf c.put.new.self)
      (sym (drop-cons c.args.parts.now.first.clauses.items (c.loop-place.place - 1) [] (let l : c.loop-place.place - 1 < length c.args.parts.now.first.clauses.items = omega arith in l)
      ∙ ap₂ (λ x k. x ∷ drop k c.args.parts.now.first.clauses.items) (sym (c.clause_in.ensures ∙ ap (λ z. get_or z (c.loop-place.place - 1) []) c.as_slice.ensures.value)) (let e : suc (c.loop-place.place - 1) ≡ c.loop-place.place = omega arith in e)))
      (c.in_ok-put.ensures (drop c.loop-place.place c.args.parts.now.first.clauses.items) c.loop-place.invariant.later);
  within = omega (arith, c.loop-place.invariant.within);
}
