-- The numbers of some packages among all, and among themselves.
use Rattle.std.proofs.Common.{◌≡◌, ℕ, zero, suc, ◌+◌, Bool, true, false, cond, eqb, List, [], ◌∷◌, length, map, filter, inl, inr, refl, sym, ap, subst, ◌∙◌}
use Rattle.std.proofs.{Common.{arith}, lemmas.Bool.{cases_eq, eq-eqb, ne_eqb}, lemmas.Simd.{map-map}}
use Rattle.std.specs.List.{items_where_true, range_with_len}
use Rattle.row_book.specs.{Flags.{flag}, Parts.{chosen_in, place_in}}
use Rattle.listed.proofs.Lists.{filter_cases, filter_same}
use Rattle.row_book.proofs.{Numbers.{map_same}, Placed.{place_same}}

filter_of_map : {A B : Type 0} (p : B → Bool) (f : A → B) (xs : List A) → filter p (map f xs) ≡ map f (filter (λ x. p (f x)) xs)
filter_of_map p f [] = refl
filter_of_map p f (x ∷ xs) = pick (p (f x)) (filter_of_map p f xs)
  where
    pick : (b : Bool) → filter p (map f xs) ≡ map f (filter (λ x. p (f x)) xs) →
        cond b (f x ∷ filter p (map f xs)) (filter p (map f xs)) ≡ map f (cond b (x ∷ filter (λ x. p (f x)) xs) (filter (λ x. p (f x)) xs))
    pick true e = ap (λ more. f x ∷ more) e
    pick false e = e

-- of two tests either may come first
filter_turned : {A : Type 0} (p q : A → Bool) (xs : List A) → filter p (filter q xs) ≡ filter q (filter p xs)
filter_turned p q [] = refl
filter_turned p q (x ∷ xs) = pick (p x) (q x) refl refl (filter_turned p q xs)
  where
    pick : (a b : Bool) → p x ≡ a → q x ≡ b → filter p (filter q xs) ≡ filter q (filter p xs) →
        filter p (cond b (x ∷ filter q xs) (filter q xs)) ≡ filter q (cond a (x ∷ filter p xs) (filter p xs))
    pick true true e f h =
        ap (λ c. cond c (x ∷ filter p (filter q xs)) (filter p (filter q xs))) e ∙ ap (λ more. x ∷ more) h
        ∙ sym (ap (λ c. cond c (x ∷ filter q (filter p xs)) (filter q (filter p xs))) f)
    pick true false e f h = h ∙ sym (ap (λ c. cond c (x ∷ filter q (filter p xs)) (filter q (filter p xs))) f)
    pick false true e f h = ap (λ c. cond c (x ∷ filter p (filter q xs)) (filter p (filter q xs))) e ∙ h
    pick false false e f h = h

-- the numbers from the next one on
range_next : (n k : ℕ) → range_with_len (suc k) n ≡ map suc (range_with_len k n)
range_next zero k = refl
range_next (suc n) k =
    let same : suc k + 1 ≡ suc (k + 1) = omega arith in
    ap (λ ns. suc k ∷ ns) (ap (λ m. range_with_len m n) same ∙ range_next n (k + 1))

-- packages behind one more
chosen_behind : (is_up : Bool) (flags : List Bool) (ns : List ℕ) → chosen_in (is_up ∷ flags) (map suc ns) ≡ map (λ n. place_in (is_up ∷ flags) (suc n)) (filter (flag flags) ns)
chosen_behind is_up flags ns =
    ap (map (place_in (is_up ∷ flags))) (filter_of_map (flag (is_up ∷ flags)) suc ns) ∙ map-map (place_in (is_up ∷ flags)) suc (filter (flag flags) ns)

chosen_next : (is_up : Bool) (flags : List Bool) (n : ℕ) → chosen_in (is_up ∷ flags) (range_with_len 1 n) ≡ map (λ n. place_in (is_up ∷ flags) (suc n)) (filter (flag flags) (range_with_len 0 n))
chosen_next is_up flags n = ap (chosen_in (is_up ∷ flags)) (range_next n 0) ∙ chosen_behind is_up flags (range_with_len 0 n)

-- the numbers of the chosen ones are those of all that are chosen
numbers_part : {A : Type 0} (flags : List Bool) (all : List A) → length flags ≡ length all →
    range_with_len 0 (length (items_where_true flags all)) ≡ chosen_in flags (range_with_len 0 (length all))
numbers_part [] [] e = refl
numbers_part [] (x ∷ all) e = absurd (omega (arith, e))
numbers_part (b ∷ flags) [] e = absurd (omega (arith, e))
numbers_part (true ∷ flags) (x ∷ all) e =
    let less : length flags ≡ length all = omega (arith, e) in
    ap (λ ns. 0 ∷ ns)
    (range_next (length (items_where_true flags all)) 0 ∙ ap (map suc) (numbers_part flags all less) ∙ map-map suc (place_in flags) (filter (flag flags) (range_with_len 0 (length all)))
    ∙ sym (chosen_next true flags (length all)))
numbers_part (false ∷ flags) (x ∷ all) e =
    let less : length flags ≡ length all = omega (arith, e) in
    numbers_part flags all less ∙ sym (chosen_next false flags (length all))

-- what is told of each number is told of those that are chosen
items_part : {A : Type 0} (g : ℕ → A) (flags : List Bool) → items_where_true flags (map g (range_with_len 0 (length flags))) ≡ map g (filter (flag flags) (range_with_len 0 (length flags)))
items_part g [] = refl
items_part g (b ∷ flags) = pick b (items_part (λ n. g (suc n)) flags)
  where
    rest : (is_up : Bool) → items_where_true flags (map (λ n. g (suc n)) (range_with_len 0 (length flags))) ≡ map (λ n. g (suc n)) (filter (flag flags) (range_with_len 0 (length flags))) →
        items_where_true flags (map g (range_with_len 1 (length flags))) ≡ map g (filter (flag (is_up ∷ flags)) (range_with_len 1 (length flags)))
    rest is_up fewer =
        ap (λ ns. items_where_true flags (map g ns)) (range_next (length flags) 0) ∙ ap (items_where_true flags) (map-map g suc (range_with_len 0 (length flags)))
        ∙ fewer ∙ sym (map-map g suc (filter (flag flags) (range_with_len 0 (length flags))))
        ∙ sym (ap (map g) (ap (filter (flag (is_up ∷ flags))) (range_next (length flags) 0) ∙ filter_of_map (flag (is_up ∷ flags)) suc (range_with_len 0 (length flags))))

    pick : (is_up : Bool) → items_where_true flags (map (λ n. g (suc n)) (range_with_len 0 (length flags))) ≡ map (λ n. g (suc n)) (filter (flag flags) (range_with_len 0 (length flags))) →
        items_where_true (is_up ∷ flags) (map g (range_with_len 0 (length (is_up ∷ flags)))) ≡ map g (filter (flag (is_up ∷ flags)) (range_with_len 0 (length (is_up ∷ flags))))
    pick true fewer = ap (λ more. g 0 ∷ more) (rest true fewer)
    pick false fewer = rest false fewer

pub place_apart : (flags : List Bool) (m n : ℕ) → flag flags m ≡ true → flag flags n ≡ true → eqb (place_in flags m) (place_in flags n) ≡ eqb m n
place_apart flags m n u v =
    elim (cases_eq m n) [
      | inl e ↦ eq-eqb (place_in flags m) (place_in flags n) (ap (place_in flags) e) ∙ sym (eq-eqb m n e)
      | inr ne ↦ ne_eqb (place_in flags m) (place_in flags n) (λ e. ne (place_same flags m n u v e)) ∙ sym (ne_eqb m n ne)
    ]

module _ {S : Type 0} (flags : List Bool) (all : List S) (sized : length flags ≡ length all) where
  -- the chosen ones that pass a test are those of all that pass it and are chosen
  pub tests_part : (p q : ℕ → Bool) → ((n : ℕ) → flag flags n ≡ true → p (place_in flags n) ≡ q n) →
      filter p (range_with_len 0 (length (items_where_true flags all))) ≡ chosen_in flags (filter q (range_with_len 0 (length all)))
  tests_part p q same =
      let numbers : List ℕ = range_with_len 0 (length all) in
      ap (filter p) (numbers_part flags all sized) ∙ filter_of_map p (place_in flags) (filter (flag flags) numbers)
      ∙ ap (map (place_in flags))
      (filter_same (λ n. p (place_in flags n)) q (filter (flag flags) numbers) (λ n i. same n (filter_cases (flag flags) numbers n i).1)
      ∙ filter_turned q (flag flags) numbers)

  -- a table of the chosen ones, by that of all
  pub table_part : {A B : Type 0} (f : ℕ → A) (g : ℕ → B) (h : B → A) → ((n : ℕ) → flag flags n ≡ true → f (place_in flags n) ≡ h (g n)) →
      map f (range_with_len 0 (length (items_where_true flags all))) ≡ map h (items_where_true flags (map g (range_with_len 0 (length all))))
  table_part f g h same =
      let numbers : List ℕ = range_with_len 0 (length all) in
      ap (map f) (numbers_part flags all sized) ∙ map-map f (place_in flags) (filter (flag flags) numbers)
      ∙ map_same (λ n. f (place_in flags n)) (λ n. h (g n)) (filter (flag flags) numbers) (λ n i. same n (filter_cases (flag flags) numbers n i).1)
      ∙ sym (map-map h g (filter (flag flags) numbers))
      ∙ sym (ap (map h) (subst (λ n. items_where_true flags (map g (range_with_len 0 n)) ≡ map g (filter (flag flags) (range_with_len 0 n))) sized (items_part g flags)))
