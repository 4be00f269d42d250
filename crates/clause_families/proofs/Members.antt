-- Members of lists in the words of the standard library, and lists that were sorted and rid of doubles.
use Rattle.std.proofs.{Common.{◌≡◌, ℕ, ◌<◌, nat_eq, List, [], ◌∷◌, inl, inr, refl, sym, ◌∙◌, ap, subst}, lemmas.Cmp.{ranked}, lemmas.List.Filters.{dedup_is}}
use Rattle.std.proofs.lemmas.List.Kept.{AllPairs-from_increasing, Contains-dedup, Contains-from_dedup, IsStrictlySortedBy-dedup}
use Rattle.std.proofs.lemmas.List.Sorted.{Contains-permutation, IsPermutation-sym}
use Rattle.std.specs.{List.{AllByRecursion, dedup}, List.Retain.{DiffersFromLast, IsFiltered}}
use Rattle.std.specs.List.Sorted.{IsPermutation, IsSorted, IsStrictlyIncreasing, IsStrictlySortedBy}
use Rattle.std.specs.Cmp.Lexicographic.{pointwise, slice_cmp, nat_list_cmp_total, nat_list_eq_equiv, texts_ties, same_text}
use Rattle.std.specs.{Ordering.{MatchOrdering, nat_cmp, ordering_then}, declared.cmp.Ordering.{Ordering}}
use Rattle.std.specs.declared.cmp.Ordering.TheVariants.{Less, Equal, Greater}
use Rattle.listed.proofs.{Lists.{contains_in, in_contains, In_cases, In_none}, Orders.{ascending_pairs}}
use Rattle.listed.specs.Lists.{In, Ascending}
use Rattle.clause_pool.specs.Lists.{Before, InOrder}
use Rattle.clause_families.specs.Families.{SameClauses}

pub increasing_ascending : (xs : List ℕ) → IsStrictlyIncreasing xs → Ascending xs
increasing_ascending xs f = ascending_pairs xs (AllPairs-from_increasing xs f)

-- a family sorted, each clause once
pub before_less : (c d : List ℕ) → slice_cmp nat_cmp c d ≡ Less → Before c d
before_less [] [] e = absurd (let f : ⊥ = cc in f)
before_less [] (y ∷ ys) e = tt
before_less (x ∷ xs) [] e = absurd (let f : ⊥ = cc in f)
before_less (x ∷ xs) (y ∷ ys) e = pick (before_less xs ys) (nat_cmp x y) (ranked x y (nat_cmp x y) refl) e
  where
    pick : (slice_cmp nat_cmp xs ys ≡ Less → Before xs ys) → (o : Ordering) → MatchOrdering o (x < y) (x ≡ y) (y < x) → ordering_then o (slice_cmp nat_cmp xs ys) ≡ Less → Before (x ∷ xs) (y ∷ ys)
    pick rest Less h f = inl h
    pick rest Equal h f = inr (h, rest f)
    pick rest Greater h f = absurd (let g : ⊥ = cc in g)

strict_order : (cs : List (List ℕ)) → IsStrictlySortedBy (slice_cmp nat_cmp) cs → InOrder cs
unfolding IsStrictlySortedBy
strict_order [] f = tt
strict_order (c ∷ cs) f = ((λ d i. before_less c d (each cs d f.0 i)), strict_order cs f.1)
  where
    each : (ds : List (List ℕ)) (d : List ℕ) → AllByRecursion (λ y. slice_cmp nat_cmp c y ≡ Less) ds → In d ds → slice_cmp nat_cmp c d ≡ Less
    each [] d a i = absurd (In_none i)
    each (e ∷ es) d a i = elim (In_cases i) [ inl s ↦ ap (slice_cmp nat_cmp c) s ∙ a.0 | inr j ↦ each es d a.1 j ]

module _ (old sorted new : List (List ℕ)) where
  pub sorted_order : IsSorted (slice_cmp nat_cmp) sorted → IsFiltered (DiffersFromLast (pointwise nat_eq)) [] sorted new → InOrder new
  sorted_order order once =
      subst InOrder (sym (dedup_is (pointwise nat_eq) sorted new once))
      (strict_order (dedup (pointwise nat_eq) sorted) (IsStrictlySortedBy-dedup nat_list_cmp_total texts_ties sorted order))

  pub sorted_same : IsPermutation old sorted → IsFiltered (DiffersFromLast (pointwise nat_eq)) [] sorted new → SameClauses old new
  sorted_same moved once =
      let is : new ≡ dedup (pointwise nat_eq) sorted = dedup_is (pointwise nat_eq) sorted new once in
      record {
        there = λ c i. subst (λ z. In c z) (sym is)
            (contains_in (dedup (pointwise nat_eq) sorted) c (Contains-dedup nat_list_eq_equiv (λ x y e. same_text x y (sym e)) sorted c (Contains-permutation old sorted c moved (in_contains old c i))));
        back = λ c i. contains_in old c (Contains-permutation sorted old c (IsPermutation-sym old sorted moved)
            (Contains-from_dedup (pointwise nat_eq) sorted c (in_contains (dedup (pointwise nat_eq) sorted) c (subst (λ z. In c z) is i))));
      }
