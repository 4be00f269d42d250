-- Numbers that are put behind others.
use Rattle.std.proofs.Common.{◌≡◌, ℕ, zero, suc, ◌-◌, Bool, true, false, eqb, List, [], ◌∷◌, ◌++◌, length, take, Option, Some, None, inl, inr, refl, sym, ap}
use Rattle.std.proofs.{Common.{subst, ◌∙◌, eq-eqb, arith}, lemmas.Bool.{false≢true}, lemmas.Bool.Decides.{nat_tests}, lemmas.List.{append-nil}}
use Rattle.std.specs.{Prelude.{◌==◌, slice_get, if◌then◌else◌}, Option.{option_map_or}}
use Rattle.listed.specs.Lists.{In, here, there, has}
use Rattle.listed.proofs.Lists.{In_cases, In_none, In_append_cases, In_append_left, In_append_right, In_has, has_In}
use Rattle.package_register.specs.{Hashed.{ends_in, numbers_under, with_number, Puts}, declared.hashed.NumbersByHash.{NumbersByHash}}

-- the first few of a list are among the first few of a longer one
front_in : (k : ℕ) (xs ys : List ℕ) (n : ℕ) → In n (take k xs) → In n (take k (xs ++ ys))
front_in zero [] ys n j = absurd (In_none j)
front_in (suc k) [] ys n j = absurd (In_none j)
front_in zero (x ∷ xs) ys n j = absurd (In_none j)
front_in (suc k) (x ∷ xs) ys n j = elim (In_cases j) [ inl e ↦ subst (λ y. In n (y ∷ take k (xs ++ ys))) e here | inr r ↦ there (front_in k xs ys n r) ]

got_in : (xs : List ℕ) (i x : ℕ) → slice_get xs i ≡ Some x → In x xs
got_in [] i x e = absurd (let f : ⊥ = cc in f)
got_in (y ∷ ys) zero x e = let same : x ≡ y = cc in subst (λ z. In x (z ∷ ys)) same here
got_in (y ∷ ys) (suc i) x e = there (got_in ys i x e)

ends_there : (n : ℕ) (xs : List ℕ) → ends_in n xs ≡ true → In n xs
ends_there n xs = by (slice_get xs (length xs - 1)) refl
  where
    by : (found : Option ℕ) → slice_get xs (length xs - 1) ≡ found → option_map_or (λ last. last == n) found false ≡ true → In n xs
    by None e h = absurd (false≢true h)
    by (Some last) e h = let same : last ≡ n = grind (arith, nat_tests) in subst (λ k. In k xs) same (got_in xs (length xs - 1) last e)

-- a number is there once it was put, and the list is longer by what was put
with_there : (n : ℕ) (xs : List ℕ) → In n (with_number n xs)
with_there n xs = by (ends_in n xs) refl
  where
    by : (b : Bool) → ends_in n xs ≡ b → In n (if b then xs else xs ++ n ∷ [])
    by true e = ends_there n xs e
    by false e = In_append_right xs (n ∷ []) n here

with_more : (n : ℕ) (xs : List ℕ) → (more : List ℕ) × (with_number n xs ≡ xs ++ more)
with_more n xs = by (ends_in n xs)
  where
    by : (b : Bool) → (more : List ℕ) × ((if b then xs else xs ++ n ∷ []) ≡ xs ++ more)
    by true = ([], sym (append-nil xs))
    by false = (n ∷ [], refl)

module _ (old new : NumbersByHash) (hash number : ℕ) (puts : Puts old new hash number) where
  grown : (other : ℕ) → (more : List ℕ) × (numbers_under new other ≡ numbers_under old other ++ more)
  grown other = by (eqb other hash) (puts other)
    where
      by : (b : Bool) → numbers_under new other ≡ (if b then with_number number (numbers_under old other) else numbers_under old other)
          → (more : List ℕ) × (numbers_under new other ≡ numbers_under old other ++ more)
      by true e = let w : (more : List ℕ) × (with_number number (numbers_under old other) ≡ numbers_under old other ++ more) = with_more number (numbers_under old other) in (w.0, e ∙ w.1)
      by false e = ([], e ∙ sym (append-nil (numbers_under old other)))

  pub puts_there : has (numbers_under new hash) number ≡ true
  puts_there =
      let here_now : numbers_under new hash ≡ with_number number (numbers_under old hash) =
      puts hash ∙ ap (λ (b : Bool). if b then with_number number (numbers_under old hash) else numbers_under old hash) (eq-eqb hash hash refl) in
      In_has (subst (λ ns. In number ns) (sym here_now) (with_there number (numbers_under old hash)))

  pub puts_keeps : (other n : ℕ) → has (numbers_under old other) n ≡ true → has (numbers_under new other) n ≡ true
  puts_keeps other n h =
      let w : (more : List ℕ) × (numbers_under new other ≡ numbers_under old other ++ more) = grown other in
      In_has (subst (λ ns. In n ns) (sym w.1) (In_append_left (numbers_under old other) w.0 n (has_In (numbers_under old other) n h)))

  pub puts_front : (k other n : ℕ) → has (take k (numbers_under old other)) n ≡ true → has (take k (numbers_under new other)) n ≡ true
  puts_front k other n h =
      let w : (more : List ℕ) × (numbers_under new other ≡ numbers_under old other ++ more) = grown other in
      In_has (subst (λ ns. In n (take k ns)) (sym w.1) (front_in k (numbers_under old other) w.0 n (has_In (take k (numbers_under old other)) n h)))

-- a number is in two lists together where it is in one of them
pub has_left : (xs ys : List ℕ) (n : ℕ) → has xs n ≡ true → has (xs ++ ys) n ≡ true
has_left xs ys n h = In_has (In_append_left xs ys n (has_In xs n h))

pub has_right : (xs ys : List ℕ) (n : ℕ) → has ys n ≡ true → has (xs ++ ys) n ≡ true
has_right xs ys n h = In_has (In_append_right xs ys n (has_In ys n h))

pub has_both : (xs ys more others : List ℕ) (n : ℕ) → (has xs n ≡ true → has more n ≡ true) → (has ys n ≡ true → has others n ≡ true)
    → has (xs ++ ys) n ≡ true → has (more ++ others) n ≡ true
has_both xs ys more others n f g h =
    elim (In_append_cases xs ys n (has_In (xs ++ ys) n h)) [
      | inl j ↦ has_left more others n (f (In_has j))
      | inr j ↦ has_right more others n (g (In_has j))
    ]
