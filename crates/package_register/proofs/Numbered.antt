-- The numbers of the items of a list that pass a test.
use Rattle.std.proofs.Common.{◌≡◌, ℕ, zero, suc, ◌+◌, ◌↔◌, Bool, true, false, cond, List, [], ◌∷◌, ◌++◌, filter, map, inl, inr, refl, sym, ap, subst, ◌∙◌}
use Rattle.std.proofs.{Common.{add-zero, zero-add, arith}, lemmas.Bool.{false≢true, or_cases, or_left, or_right}, lemmas.List.Elements.{filter-append}}
use Rattle.std.specs.List.{enumerate_from, list_any}
use Rattle.listed.specs.Lists.{In, here, has, Ascending, Inside}
use Rattle.listed.proofs.{Lists.{In_cases, In_none, In_append_right, any_cases, any_from, filter_cases, filter_from, has_In}, Bools.{same_bool}}
use Rattle.listed.proofs.Orders.{ascending_same}
use Rattle.package_register.specs.Numbers.{numbers_from, numbers_where, passes_at, if_so}

-- what passes of each of two lists is what passes of both together
pub passing_both : (test : ℕ → Bool) (xs ys kept more all : List ℕ) → all ≡ kept ++ more → kept ≡ filter test xs → more ≡ filter test ys → all ≡ filter test (xs ++ ys)
passing_both test xs ys kept more all e k m = let both : filter test (xs ++ ys) ≡ filter test xs ++ filter test ys = filter-append test xs ys in cc

module _ {X : Type 0} (test : X → Bool) where
  -- the first item, and the others
  pub numbers_from-cons : (n : ℕ) (x : X) (items : List X) → numbers_from n test (x ∷ items) ≡ if_so (test x) n ++ numbers_from (n + 1) test items
  numbers_from-cons n x items = by (test x)
    where
      by : (b : Bool) → map (λ e. e.0) (cond b ((n, x) ∷ filter (λ e. test e.1) (enumerate_from (n + 1) items)) (filter (λ e. test e.1) (enumerate_from (n + 1) items)))
          ≡ if_so b n ++ numbers_from (n + 1) test items
      by true = refl
      by false = refl

  -- at each of the numbers stands an item that passes
  pub numbered_pass : (n : ℕ) (items : List X) (k : ℕ) → In k (numbers_from n test items) → (i : ℕ) × (k ≡ n + i) × (passes_at test items i ≡ true)
  numbered_pass n [] k j = absurd (In_none j)
  numbered_pass n (x ∷ items) k j =
      by (test x) refl
      (λ r. let w : (i : ℕ) × (k ≡ n + 1 + i) × (passes_at test items i ≡ true) = numbered_pass (n + 1) items k r in (suc w.0, omega (arith, w.1), w.2))
      (subst (λ ns. In k ns) (numbers_from-cons n x items) j)
    where
      by : (b : Bool) → test x ≡ b → (In k (numbers_from (n + 1) test items) → (i : ℕ) × (k ≡ n + i) × (passes_at test (x ∷ items) i ≡ true))
          → In k (if_so b n ++ numbers_from (n + 1) test items) → (i : ℕ) × (k ≡ n + i) × (passes_at test (x ∷ items) i ≡ true)
      by true e onward r = elim (In_cases r) [ inl s ↦ (0, s ∙ sym (add-zero n), e) | inr q ↦ onward q ]
      by false e onward r = onward r

  -- and each item that passes has its number among them
  pub passing_numbered : (n : ℕ) (items : List X) (i : ℕ) → passes_at test items i ≡ true → In (n + i) (numbers_from n test items)
  passing_numbered n [] i e = absurd (false≢true e)
  passing_numbered n (x ∷ items) zero e = subst (λ ns. In (n + 0) ns) (sym (numbers_from-cons n x items)) (by (test x) e)
    where
      by : (b : Bool) → b ≡ true → In (n + 0) (if_so b n ++ numbers_from (n + 1) test items)
      by true h = subst (λ m. In m (n ∷ numbers_from (n + 1) test items)) (sym (add-zero n)) here
      by false h = absurd (false≢true h)
  passing_numbered n (x ∷ items) (suc i) e =
      let place : n + 1 + i ≡ n + suc i = omega arith in
      subst (λ ns. In (n + suc i) ns) (sym (numbers_from-cons n x items))
      (In_append_right (if_so (test x) n) (numbers_from (n + 1) test items) (n + suc i)
      (subst (λ m. In m (numbers_from (n + 1) test items)) place (passing_numbered (n + 1) items i e)))

  pub numbers_ascend : (n : ℕ) (items : List X) → Ascending (numbers_from n test items)
  numbers_ascend n [] = tt
  numbers_ascend n (x ∷ items) = subst Ascending (sym (numbers_from-cons n x items)) (by (test x) (numbers_ascend (n + 1) items))
    where
      by : (b : Bool) → Ascending (numbers_from (n + 1) test items) → Ascending (if_so b n ++ numbers_from (n + 1) test items)
      by true rest = ((λ y j. let w : (i : ℕ) × (y ≡ n + 1 + i) × (passes_at test items i ≡ true) = numbered_pass (n + 1) items y j in omega (arith, w.1)), rest)
      by false rest = rest

  -- ascending numbers that are those of some that pass, where none that passes is missing among these some
  pub found_where : (items : List X) (numbers found : List ℕ) → ((n : ℕ) → passes_at test items n ≡ true → has numbers n ≡ true) → Ascending found
      → ((n : ℕ) → In n found ↔ In n (filter (passes_at test items) numbers)) → found ≡ numbers_where test items
  found_where items numbers found all a same =
      let to : Inside found (numbers_where test items) = λ n j.
      let m : In n numbers × (passes_at test items n ≡ true) = filter_cases (passes_at test items) numbers n ((same n).0 j) in
      subst (λ k. In k (numbers_where test items)) (zero-add n) (passing_numbered 0 items n m.1) in
      let back : Inside (numbers_where test items) found = λ n j.
      let w : (i : ℕ) × (n ≡ 0 + i) × (passes_at test items i ≡ true) = numbered_pass 0 items n j in
      let p : passes_at test items n ≡ true = subst (λ k. passes_at test items k ≡ true) (sym (w.1 ∙ zero-add w.0)) w.2 in
      (same n).1 (filter_from (passes_at test items) numbers n (has_In numbers n (all n p)) p) in
      ascending_same found (numbers_where test items) a (numbers_ascend 0 items) to back

  -- the same of those that were kept, and then put in order
  pub found_among : (items : List X) (numbers kept found : List ℕ) → ((n : ℕ) → passes_at test items n ≡ true → has numbers n ≡ true) → kept ≡ filter (passes_at test items) numbers
      → Ascending found → ((n : ℕ) → In n found ↔ In n kept) → found ≡ numbers_where test items
  found_among items numbers kept found all is a same = found_where items numbers found all a (λ n. subst (λ ns. In n found ↔ In n ns) is (same n))

  -- where none is gone through, none is found
  pub found_none : (items : List X) (numbers found : List ℕ) → ((n : ℕ) → passes_at test items n ≡ true → has numbers n ≡ true) → numbers ≡ [] → found ≡ [] → found ≡ numbers_where test items
  found_none items numbers found all none is =
      found_among items numbers [] found all (sym (ap (filter (passes_at test items)) none)) (subst Ascending (sym is) tt) (λ n. subst (λ ns. In n ns ↔ In n []) (sym is) ((λ j. j), (λ j. j)))

  some_passes : (items : List X) (n : ℕ) → passes_at test items n ≡ true → list_any test items ≡ true
  some_passes [] n e = absurd (false≢true e)
  some_passes (x ∷ items) zero e = or_left (test x) (list_any test items) e
  some_passes (x ∷ items) (suc n) e = or_right (test x) (list_any test items) (some_passes items n e)

  some_place : (items : List X) → list_any test items ≡ true → (n : ℕ) × (passes_at test items n ≡ true)
  some_place [] e = absurd (false≢true e)
  some_place (x ∷ items) e =
      elim (or_cases (test x) (list_any test items) e) [
        | inl h ↦ (0, h)
        | inr h ↦ let w : (n : ℕ) × (passes_at test items n ≡ true) = some_place items h in (suc w.0, w.1)
      ]

  -- some item passes where one of the numbers does
  pub any_among : (items : List X) (numbers : List ℕ) → ((n : ℕ) → passes_at test items n ≡ true → has numbers n ≡ true) → list_any (passes_at test items) numbers ≡ list_any test items
  any_among items numbers all =
      same_bool (list_any (passes_at test items) numbers) (list_any test items)
      (λ h. let w : (n : ℕ) × In n numbers × (passes_at test items n ≡ true) = any_cases (passes_at test items) numbers h in some_passes items w.0 w.2)
      (λ h. let w : (n : ℕ) × (passes_at test items n ≡ true) = some_place items h in any_from (passes_at test items) numbers w.0 (has_In numbers w.0 (all w.0 w.1)) w.1)
