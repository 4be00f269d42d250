-- Unions by merging.
use Rattle.std.proofs.Common.{◌≡◌, ℕ, ◌<◌, List, ◌∷◌, inl, inr, sym, subst, arith}
use Rattle.listed.specs.Lists.{In, here, there, Ascending}
use Rattle.clause_families.specs.{Unions.{union_of}, Laws.{UnionMerges}}
use Rattle.listed.proofs.{Lists.{In_cases}, Orders.{ascending_same}}
use Rattle.clause_families.proofs.Unions.{joined_ascending, joined_cases, joined_left, joined_right}

first_below : (x : ℕ) (xs ys : List ℕ) → Ascending (x ∷ xs) → ((z : ℕ) → In z ys → x < z) → (z : ℕ) → In z (union_of xs ys) → x < z
first_below x xs ys a f z i = elim (joined_cases xs ys z i) [ inl l ↦ a.0 z l | inr r ↦ f z r ]

all_above : (x y : ℕ) (ys : List ℕ) → x < y → Ascending (y ∷ ys) → (z : ℕ) → In z (y ∷ ys) → x < z
all_above x y ys l a z i = elim (In_cases i) [ inl e ↦ omega (arith, e, l) | inr j ↦ let u : y < z = a.0 z j in omega arith ]

joined_less : (x y : ℕ) (xs ys : List ℕ) → x < y → Ascending (x ∷ xs) → Ascending (y ∷ ys) → union_of (x ∷ xs) (y ∷ ys) ≡ x ∷ union_of xs (y ∷ ys)
joined_less x y xs ys l a b =
    ascending_same (union_of (x ∷ xs) (y ∷ ys)) (x ∷ union_of xs (y ∷ ys)) (joined_ascending (x ∷ xs) (y ∷ ys) b)
    (first_below x xs (y ∷ ys) a (all_above x y ys l b), joined_ascending xs (y ∷ ys) b)
    (λ z i. elim (joined_cases (x ∷ xs) (y ∷ ys) z i) [
      | inl p ↦ elim (In_cases p) [ inl e ↦ subst (λ k. In z (k ∷ union_of xs (y ∷ ys))) e here | inr j ↦ there (joined_left xs (y ∷ ys) z j) ]
      | inr q ↦ there (joined_right xs (y ∷ ys) z q)
    ])
    (λ z i. elim (In_cases i) [
      | inl e ↦ joined_left (x ∷ xs) (y ∷ ys) z (subst (λ k. In z (k ∷ xs)) e here)
      | inr j ↦ elim (joined_cases xs (y ∷ ys) z j) [ inl p ↦ joined_left (x ∷ xs) (y ∷ ys) z (there p) | inr q ↦ joined_right (x ∷ xs) (y ∷ ys) z q ]
    ])

joined_same : (x y : ℕ) (xs ys : List ℕ) → x ≡ y → Ascending (x ∷ xs) → Ascending (y ∷ ys) → union_of (x ∷ xs) (y ∷ ys) ≡ x ∷ union_of xs ys
joined_same x y xs ys s a b =
    ascending_same (union_of (x ∷ xs) (y ∷ ys)) (x ∷ union_of xs ys) (joined_ascending (x ∷ xs) (y ∷ ys) b)
    (first_below x xs ys a (λ z i. let u : y < z = b.0 z i in omega arith), joined_ascending xs ys b.1)
    (λ z i. elim (joined_cases (x ∷ xs) (y ∷ ys) z i) [
      | inl p ↦ elim (In_cases p) [ inl e ↦ subst (λ k. In z (k ∷ union_of xs ys)) e here | inr j ↦ there (joined_left xs ys z j) ]
      | inr q ↦ elim (In_cases q) [ inl e ↦ subst (λ k. In z (k ∷ union_of xs ys)) (sym s) (subst (λ k. In z (k ∷ union_of xs ys)) e here) | inr j ↦ there (joined_right xs ys z j) ]
    ])
    (λ z i. elim (In_cases i) [
      | inl e ↦ joined_left (x ∷ xs) (y ∷ ys) z (subst (λ k. In z (k ∷ xs)) e here)
      | inr j ↦ elim (joined_cases xs ys z j) [ inl p ↦ joined_left (x ∷ xs) (y ∷ ys) z (there p) | inr q ↦ joined_right (x ∷ xs) (y ∷ ys) z (there q) ]
    ])

joined_more : (x y : ℕ) (xs ys : List ℕ) → y < x → Ascending (x ∷ xs) → Ascending (y ∷ ys) → union_of (x ∷ xs) (y ∷ ys) ≡ y ∷ union_of (x ∷ xs) ys
joined_more x y xs ys l a b =
    ascending_same (union_of (x ∷ xs) (y ∷ ys)) (y ∷ union_of (x ∷ xs) ys) (joined_ascending (x ∷ xs) (y ∷ ys) b)
    ((λ z i. elim (joined_cases (x ∷ xs) ys z i) [ inl p ↦ all_above y x xs l a z p | inr q ↦ b.0 z q ]), joined_ascending (x ∷ xs) ys b.1)
    (λ z i. elim (joined_cases (x ∷ xs) (y ∷ ys) z i) [
      | inl p ↦ there (joined_left (x ∷ xs) ys z p)
      | inr q ↦ elim (In_cases q) [ inl e ↦ subst (λ k. In z (k ∷ union_of (x ∷ xs) ys)) e here | inr j ↦ there (joined_right (x ∷ xs) ys z j) ]
    ])
    (λ z i. elim (In_cases i) [
      | inl e ↦ joined_right (x ∷ xs) (y ∷ ys) z (subst (λ k. In z (k ∷ ys)) e here)
      | inr j ↦ elim (joined_cases (x ∷ xs) ys z j) [ inl p ↦ joined_left (x ∷ xs) (y ∷ ys) z p | inr q ↦ joined_right (x ∷ xs) (y ∷ ys) z (there q) ]
    ])

pub union_merges_lem : UnionMerges
union_merges_lem x y xs ys a b = record {
  less = λ l. joined_less x y xs ys l a b;
  same = λ e. joined_same x y xs ys e a b;
  more = λ l. joined_more x y xs ys l a b;
}
