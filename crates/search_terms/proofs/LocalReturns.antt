-- The way back: what stands in another repository has what it came from standing in the first one.
use Rattle.std.proofs.Common.{◌≡◌, ℕ, ◌<◌, Bool, true, ◌&&◌, eqb, List, [], ◌∷◌, inl, inr, length, refl, ap, ap₂, sym, ◌∙◌, subst, map, arith, zero-le, eq-eqb}
use Rattle.std.proofs.{Common.{eqb-true}, lemmas.Bool.{and_parts, and_from, cases_eq, cases_lt, both_ways}}
use Rattle.std.specs.{List.{find, list_any}, Option.{unwrap_or}}
use Rattle.listed.specs.Lists.{In, here, there}
use Rattle.listed.proofs.{Bools.{cases_Option}, Lists.{In_map_cases, any_cases, any_from, find_some, find_none}}
use Rattle.row_book.specs.{Sets.{NumSet}, Numbers.{numbers}, Repository.{Repository, clauses_of, against}}
use Rattle.row_book.proofs.Numbers.{numbers_from}
use Rattle.search_terms.specs.{declared.literals.Literal.{Literal}, Closure.{literal}, Local.{ReachStandsIn}}
use Rattle.search_terms.proofs.LocalClosures.{moved, AreIn}

-- numbers that are mapped to and fro
pub map_back : {A B : Type 0} (f : A → B) (g : B → A) (xs : List A) → ((x : A) → In x xs → g (f x) ≡ x) → map g (map f xs) ≡ xs
map_back f g [] h = refl
map_back f g (x ∷ xs) h = ap₂ (λ y ys. y ∷ ys) (h x here) (map_back f g xs (λ y i. h y (there i)))

module _ (R : Repository) (goals : List (List ℕ)) (U : NumSet) (to : ℕ → ℕ) (other : Repository) (is : ReachStandsIn R goals U to other) where
  -- no two classes of U have the same number there
  pub to_one : (m n : ℕ) → U m ≡ true → U n ≡ true → to m ≡ to n → m ≡ n
  to_one m n u v e = elim (cases_eq m n) [
    | inl same ↦ same
    | inr ne ↦ elim (cases_lt m n) [
      | inl l ↦ let up : to m < to n = is.rising m n u v l in absurd (omega (arith, e))
      | inr g ↦ let up : to n < to m = is.rising n m v u (omega (arith, ne)) in absurd (omega (arith, e))
    ]
  ]

  -- a class of U with this number there
  comes_to : ℕ → ℕ → Bool
  comes_to m n = U n && eqb (to n) m

  -- the numbers there of the classes of U
  pub image : NumSet
  image m = list_any (comes_to m) (numbers (length R.clauses) 0)

  -- the class that has the number there
  pub back : ℕ → ℕ
  back m = unwrap_or (find (comes_to m) (numbers (length R.clauses) 0)) 0

  listed_class : (n : ℕ) → U n ≡ true → In n (numbers (length R.clauses) 0)
  listed_class n u = numbers_from (length R.clauses) 0 n zero-le (let l : n < length R.clauses = is.classes n u in omega arith)

  comes : (n : ℕ) → U n ≡ true → comes_to (to n) n ≡ true
  unfolding comes_to
  comes n u = and_from (U n) (eqb (to n) (to n)) u (eq-eqb (to n) (to n) refl)

  pub image_from : (n : ℕ) → U n ≡ true → image (to n) ≡ true
  unfolding image
  image_from n u = any_from (comes_to (to n)) (numbers (length R.clauses) 0) n (listed_class n u) (comes n u)

  pub image_parts : (m : ℕ) → image m ≡ true → (n : ℕ) × (U n ≡ true) × (m ≡ to n)
  unfolding image comes_to
  image_parts m h =
      let w = any_cases (comes_to m) (numbers (length R.clauses) 0) h in
      let both : (U w.0 ≡ true) × (eqb (to w.0) m ≡ true) = and_parts (U w.0) (eqb (to w.0) m) w.2 in
      (w.0, both.0, sym (eqb-true (to w.0) m both.1))

  pub back_to : (n : ℕ) → U n ≡ true → back (to n) ≡ n
  unfolding back comes_to
  back_to n u = elim (cases_Option (find (comes_to (to n)) (numbers (length R.clauses) 0))) [
    | inl none ↦ absurd (both_ways (comes_to (to n) n) (find_none (comes_to (to n)) (numbers (length R.clauses) 0) none n (listed_class n u)) (comes n u))
    | inr some ↦
        let found = find_some (comes_to (to n)) (numbers (length R.clauses) 0) some.0 some.1 in
        let both : (U some.0 ≡ true) × (eqb (to some.0) (to n) ≡ true) = and_parts (U some.0) (eqb (to some.0) (to n)) found.1 in
        ap (λ o. unwrap_or o 0) some.1 ∙ to_one some.0 n both.0 u (eqb-true (to some.0) (to n) both.1)
  ]

  -- whatever is in U there
  at_image : (P : ℕ → Type 0) → ((n : ℕ) → U n ≡ true → P (to n)) → (m : ℕ) → image m ≡ true → P m
  at_image P h m i = let w = image_parts m i in subst P (sym w.2) (h w.0 w.1)

  clauses_back : (p : ℕ) → U p ≡ true → clauses_of R (back (to p)) ≡ map (map back) (clauses_of other (to p))
  clauses_back p u =
      ap (clauses_of R) (back_to p u)
      ∙ sym (map_back (map to) (map back) (clauses_of R p) (λ c i. map_back to back c (λ n j. back_to n (is.closed p u c i n j))))
      ∙ ap (map (map back)) (sym (is.clauses p u))

  rises_back : (m n : ℕ) → image m ≡ true → image n ≡ true → m < n → back m < back n
  rises_back m n i j lt =
      let a = image_parts m i in
      let b = image_parts n j in
      let ea : back m ≡ a.0 = ap back a.2 ∙ back_to a.0 a.1 in
      let eb : back n ≡ b.0 = ap back b.2 ∙ back_to b.0 b.1 in
      elim (cases_lt (back m) (back n)) [
        | inl l ↦ l
        | inr g ↦ elim (cases_eq a.0 b.0) [
          | inl same ↦ let e : m ≡ n = a.2 ∙ ap to same ∙ sym b.2 in absurd (omega (arith, e))
          | inr ne ↦
              let up : to b.0 < to a.0 = is.rising b.0 a.0 b.1 a.1 (omega (arith, ne, ea, eb)) in
              let over : n < m = subst (λ z. z < m) (sym b.2) (subst (λ z. to b.0 < z) (sym a.2) up) in
              absurd (omega arith)
        ]
      ]

  pub returns : ReachStandsIn other (map (map to) goals) image back R
  returns = record {
    classes = at_image (λ m. m < length other.clauses) is.within;
    wanted = λ goal i n j.
        let w = In_map_cases (map to) goals goal i in
        let v = In_map_cases to w.0 n (subst (λ z. In n z) w.2 j) in
        subst (λ z. image z ≡ true) (sym v.2) (image_from v.0 (is.wanted w.0 w.1 v.0 v.1));
    closed = at_image (λ m. (c : List ℕ) → In c (clauses_of other m) → (n : ℕ) → In n c → image n ≡ true) (λ p u c i n j.
        let w = In_map_cases (map to) (clauses_of R p) c (subst (λ z. In c z) (is.clauses p u) i) in
        let v = In_map_cases to w.0 n (subst (λ z. In n z) w.2 j) in
        subst (λ z. image z ≡ true) (sym v.2) (image_from v.0 (is.closed p u w.0 w.1 v.0 v.1)));
    within = at_image (λ m. back m < length R.clauses) (λ n u. subst (λ z. z < length R.clauses) (sym (back_to n u)) (is.classes n u));
    rising = rises_back;
    clauses = at_image (λ m. clauses_of R (back m) ≡ map (map back) (clauses_of other m)) clauses_back;
    conflicts = λ p q i j.
        at_image (λ m. against R (back m) (back q) ≡ against other m q) (λ n u.
        at_image (λ k. against R (back (to n)) (back k) ≡ against other (to n) k) (λ r v.
        ap₂ (against R) (back_to n u) (back_to r v) ∙ sym (is.conflicts n r u v)) q j) p i;
  }

  pub goals_back : map (map back) (map (map to) goals) ≡ goals
  goals_back = map_back (map to) (map back) goals (λ g i. map_back to back g (λ n j. back_to n (is.wanted g i n j)))

  pub literal_back : (l : Literal) → U l.class ≡ true → moved back (moved to l) ≡ l
  literal_back l u = ap (λ c. literal c l.positive) (back_to l.class u)

  pub sentence_back : (ls : List Literal) → AreIn U ls → map (moved back) (map (moved to) ls) ≡ ls
  sentence_back ls u = map_back (moved to) (moved back) ls (λ l i. literal_back l (u l i))

  pub in_image : (ls : List Literal) → AreIn U ls → AreIn image (map (moved to) ls)
  in_image ls u l i = let w = In_map_cases (moved to) ls l i in subst (λ z. image z.class ≡ true) (sym w.2) (image_from w.0.class (u w.0 w.1))
