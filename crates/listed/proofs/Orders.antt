-- Ascending lists of numbers: their parts, how they are made, and searches in them.
use Rattle.std.proofs.Common.{◌≡◌, ℕ, zero, suc, ◌<◌, ◌≤◌, ◌↔◌, Bool, true, false, eqb, cond, List, [], ◌∷◌, ◌++◌, inl, inr, refl, sym, ◌∙◌, ap, subst, arith}
use Rattle.std.proofs.{Common.{filter, length, get_or, drop}, lemmas.List.Kept.{AllPairs-from_increasing, Contains-dedup_nat, Contains-from_dedup}}
use Rattle.std.proofs.{lemmas.List.Sorted.{searched, Contains-permutation, IsPermutation-sym}, lemmas.Map.Keys.{IsStrictlyIncreasing-dedup}}
use Rattle.std.specs.{Prelude.{Result, Ok, Err}, List.{dedup, AllPairs}, List.Sorted.{IsBinarySearchResult, IsNonDecreasing, IsPermutation, IsSorted}}
use Rattle.std.specs.{Ordering.{nat_cmp}, Result.{is_ok}}
use Rattle.listed.specs.Lists.{In, here, there, has, Ascending, Inside}
use Rattle.listed.proofs.Lists.{In_cases, In_none, In_at, In_place, In_has, has_not, In_append_cases, filter_cases, contains_in, in_contains}

-- ascending lists with the same elements are equal
pub ascending_same : (S T : List ℕ) → Ascending S → Ascending T → Inside S T → Inside T S → S ≡ T
ascending_same [] [] a b f g = refl
ascending_same [] (t ∷ ts) a b f g = absurd (In_none (g t here))
ascending_same (s ∷ ss) [] a b f g = absurd (In_none (f s here))
ascending_same (s ∷ ss) (t ∷ ts) a b f g =
    let same : s ≡ t =
    elim (In_cases (f s here)) [
      | inl e ↦ e
      | inr i ↦ elim (In_cases (g t here)) [
        | inl e ↦ sym e
        | inr j ↦ let h : t < s = b.0 s i in let k : s < t = a.0 t j in absurd (omega arith)
      ]
    ] in
    let f2 : Inside ss ts = λ n i. elim (In_cases (f n (there i))) [
      | inl e ↦ let h : s < n = a.0 n i in absurd (omega (arith, e, same))
      | inr j ↦ j
    ] in
    let g2 : Inside ts ss = λ n i. elim (In_cases (g n (there i))) [
      | inl e ↦ let h : t < n = b.0 n i in absurd (omega (arith, e, same))
      | inr j ↦ j
    ] in
    ap (λ x. x ∷ ss) same ∙ ap (λ xs. t ∷ xs) (ascending_same ss ts a.1 b.1 f2 g2)

-- parts of an ascending list
pub ascending_cond : (b : Bool) (x : ℕ) (xs : List ℕ) → ((y : ℕ) → In y xs → x < y) → Ascending xs → Ascending (cond b (x ∷ xs) xs)
ascending_cond true x xs f a = (f, a)
ascending_cond false x xs f a = a

pub ascending_filter : (p : ℕ → Bool) (xs : List ℕ) → Ascending xs → Ascending (filter p xs)
ascending_filter p [] a = tt
ascending_filter p (x ∷ xs) a =
    ascending_cond (p x) x (filter p xs) (λ y i. a.0 y (filter_cases p xs y i).0) (ascending_filter p xs a.1)

pub rest_ascends : (i : ℕ) (xs : List ℕ) → Ascending xs → Ascending (drop i xs)
rest_ascends zero xs a = a
rest_ascends (suc i) [] a = tt
rest_ascends (suc i) (x ∷ xs) a = rest_ascends i xs a.1

-- one more number at the end
pub ascending_push : (xs : List ℕ) (n : ℕ) → Ascending xs → ((q : ℕ) → In q xs → q < n) → Ascending (xs ++ n ∷ [])
ascending_push [] n a f = ((λ y i. absurd (In_none i)), tt)
ascending_push (x ∷ xs) n a f = (
  (λ y i. elim (In_append_cases xs (n ∷ []) y i) [
    | inl j ↦ a.0 y j
    | inr j ↦ elim (In_cases j) [ inl e ↦ let l : x < n = f x here in omega (arith, e) | inr k ↦ absurd (In_none k) ]
  ]),
  ascending_push xs n a.1 (λ q i. f q (there i)),
)

-- an ascending list ascends from place to place
pub ascending_places : (xs : List ℕ) → Ascending xs → (i j : ℕ) → i ≤ j → j < length xs → get_or xs i 0 ≤ get_or xs j 0
ascending_places [] a i j l u = absurd (omega arith)
ascending_places (x ∷ xs) a zero zero l u = omega arith
ascending_places (x ∷ xs) a zero (suc j) l u = let h : x < get_or xs j 0 = a.0 (get_or xs j 0) (In_at xs j 0 (omega arith)) in omega arith
ascending_places (x ∷ xs) a (suc i) zero l u = absurd (omega arith)
ascending_places (x ∷ xs) a (suc i) (suc j) l u = ascending_places xs a.1 i j (omega arith) (omega arith)

pub ascending_rises : (xs : List ℕ) → Ascending xs → IsNonDecreasing xs
ascending_rises [] a i j d l u = absurd (omega arith)
ascending_rises (x ∷ xs) a zero zero d l u = omega arith
ascending_rises (x ∷ xs) a zero (suc j) d l u = let h : x < get_or xs j d = a.0 (get_or xs j d) (In_at xs j d (omega arith)) in omega arith
ascending_rises (x ∷ xs) a (suc i) zero d l u = absurd (omega arith)
ascending_rises (x ∷ xs) a (suc i) (suc j) d l u = ascending_rises xs a.1 i j d (omega arith) (omega arith)

pub ascending_pairs : (xs : List ℕ) → AllPairs (λ x y. x < y) xs → Ascending xs
ascending_pairs [] f = tt
ascending_pairs (x ∷ xs) f = (
  (λ y i. let w : (k : ℕ) × (k < length xs) × (get_or xs k 0 ≡ y) = In_place xs y 0 i in subst (λ z. x < z) w.2 (f 0 (suc w.0) 0 (omega arith) (let l : w.0 < length xs = w.1 in omega arith))),
  ascending_pairs xs (λ i j d l m. f (suc i) (suc j) d (omega arith) (omega arith)),
)

-- a list that was sorted, and then each number once
pub once_ascending : (sorted new : List ℕ) → IsSorted nat_cmp sorted → new ≡ dedup eqb sorted → Ascending new
once_ascending sorted new s is = subst Ascending (sym is) (ascending_pairs (dedup eqb sorted) (AllPairs-from_increasing (dedup eqb sorted) (IsStrictlyIncreasing-dedup sorted s)))

pub once_same : (old sorted new : List ℕ) → IsPermutation old sorted → new ≡ dedup eqb sorted → (n : ℕ) → In n new ↔ In n old
once_same old sorted new moved is n = (
  (λ i. contains_in old n (Contains-permutation sorted old n (IsPermutation-sym old sorted moved) (Contains-from_dedup eqb sorted n (in_contains (dedup eqb sorted) n (subst (λ ns. In n ns) is i))))),
  (λ i. subst (λ ns. In n ns) (sym is) (contains_in (dedup eqb sorted) n (Contains-dedup_nat sorted n (Contains-permutation old sorted n moved (in_contains old n i))))),
)

-- a number between those below it and those above it is not there
pub missed_not_there : (xs : List ℕ) (p i : ℕ) → i ≤ length xs → ((k : ℕ) → k < i → get_or xs k 0 < p) → ((k : ℕ) → i ≤ k → k < length xs → p < get_or xs k 0) → In p xs → ⊥
missed_not_there [] p i l f g j = In_none j
missed_not_there (x ∷ xs) p zero l f g j =
    elim (In_cases j) [
      | inl e ↦ let h : p < x = g 0 (omega arith) (omega arith) in omega (arith, e)
      | inr r ↦ missed_not_there xs p zero (omega arith) (λ k u. absurd (omega arith)) (λ k u v. g (suc k) (omega arith) (omega arith)) r
    ]
missed_not_there (x ∷ xs) p (suc i) l f g j =
    elim (In_cases j) [
      | inl e ↦ let h : x < p = f 0 (omega arith) in omega (arith, e)
      | inr r ↦ missed_not_there xs p i (omega arith) (λ k u. f (suc k) (omega arith)) (λ k u v. g (suc k) (omega arith) (omega arith)) r
    ]

-- a search in a sorted list finds the number where the list has it
pub search_tells : (xs : List ℕ) (p : ℕ) (r : Result ℕ ℕ) → IsNonDecreasing xs → IsBinarySearchResult (λ y. nat_cmp y p) xs r → is_ok r ≡ has xs p
search_tells xs p (Ok i) up s =
    let w : (i < length xs) × (get_or xs i 0 ≡ p) = searched xs p (Ok i) s (λ j k l u. up j k 0 l u) in
    sym (In_has (subst (λ q. In q xs) w.1 (In_at xs i 0 w.0)))
search_tells xs p (Err i) up s =
    let w : (i ≤ length xs) × ((k : ℕ) → k < i → get_or xs k 0 < p) × ((k : ℕ) → i ≤ k → k < length xs → p < get_or xs k 0) = searched xs p (Err i) s (λ j k l u. up j k 0 l u) in
    sym (has_not xs p (missed_not_there xs p i w.0 w.1 w.2))
