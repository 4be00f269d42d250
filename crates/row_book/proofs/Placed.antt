-- The places of chosen packages among the chosen ones, and the items of a list at them.
use Rattle.std.proofs.Common.{◌≡◌, ℕ, zero, suc, ◌<◌, ◌+◌, Bool, true, false, cond, List, [], ◌∷◌, ◌++◌, length, get_or, take, map, filter, inl, inr, refl, sym}
use Rattle.std.proofs.{Common.{◌∙◌, ap, ap₂, subst, arith, add-one, append-nil}, lemmas.Bool.{cases_eq, cases_lt, false≢true}, lemmas.List.{map-append}}
use Rattle.std.proofs.{lemmas.List.Elements.{filter_more}, lemmas.List.Filters.{length-filter_more}}
use Rattle.std.specs.List.{items_where_true}
use Rattle.listed.specs.Lists.{In, here, there, Ascending}
use Rattle.listed.proofs.{Lists.{In_map, In_map_cases, filter_cases, filter_from}, Orders.{ascending_filter}}
use Rattle.row_book.specs.{Flags.{flag}, Numbers.{numbers}, Parts.{chosen_in, place_in}}
use Rattle.row_book.proofs.Numbers.{at_numbers, length_numbers, numbers_more}

-- how many are chosen
abbrev pub count_in : List Bool → ℕ
count_in flags = length (filter (λ is_up. is_up) flags)

-- one more flag
pub place_more : (flags : List Bool) (n : ℕ) → n < length flags → place_in flags (n + 1) ≡ place_in flags n + cond (get_or flags n false) 1 0
place_more flags n l = length-filter_more (λ is_up. is_up) flags n false l

-- chosen packages have ascending places
pub place_rises : (flags : List Bool) (m n : ℕ) → flag flags m ≡ true → m < n → place_in flags m < place_in flags n
place_rises [] m n up l = absurd (false≢true up)
place_rises (b ∷ flags) m zero up l = absurd (omega arith)
place_rises (true ∷ flags) zero (suc n) up l = omega arith
place_rises (false ∷ flags) zero (suc n) up l = absurd (false≢true up)
place_rises (true ∷ flags) (suc m) (suc n) up l = let r : place_in flags m < place_in flags n = place_rises flags m n up (omega arith) in omega arith
place_rises (false ∷ flags) (suc m) (suc n) up l = place_rises flags m n up (omega arith)

pub place_same : (flags : List Bool) (m n : ℕ) → flag flags m ≡ true → flag flags n ≡ true → place_in flags m ≡ place_in flags n → m ≡ n
place_same flags m n one two e =
    elim (cases_eq m n) [
      | inl same ↦ same
      | inr other ↦ elim (cases_lt m n) [
        | inl l ↦ let r : place_in flags m < place_in flags n = place_rises flags m n one l in absurd (omega arith)
        | inr l ↦ let r : place_in flags n < place_in flags m = place_rises flags n m two (omega (arith, other)) in absurd (omega arith)
      ]
    ]

pub place_below : (flags : List Bool) (n : ℕ) → flag flags n ≡ true → place_in flags n < count_in flags
place_below [] n up = absurd (false≢true up)
place_below (true ∷ flags) zero up = omega arith
place_below (false ∷ flags) zero up = absurd (false≢true up)
place_below (true ∷ flags) (suc n) up = let r : place_in flags n < count_in flags = place_below flags n up in omega arith
place_below (false ∷ flags) (suc n) up = place_below flags n up

-- the chosen package of a place
pub record HasPlace (flags : List Bool) (p : ℕ) : Type 0 where
  pub number : ℕ
  pub up : flag flags number ≡ true
  pub is : place_in flags number ≡ p

pub at_place : (flags : List Bool) (p : ℕ) → p < count_in flags → HasPlace flags p
at_place [] p l = absurd (omega arith)
at_place (true ∷ flags) zero l = record { number = 0; up = refl; is = refl }
at_place (true ∷ flags) (suc p) l = let r : HasPlace flags p = at_place flags p (omega arith) in record { number = suc r.number; up = r.up; is = ap suc r.is }
at_place (false ∷ flags) p l = let r : HasPlace flags p = at_place flags p l in record { number = suc r.number; up = r.up; is = r.is }

-- the items of the chosen packages
pub chosen_item : {X : Type 0} (flags : List Bool) (xs : List X) (n : ℕ) (d : X) → length flags ≡ length xs → flag flags n ≡ true → get_or (items_where_true flags xs) (place_in flags n) d ≡ get_or xs n d
chosen_item [] xs n d size up = absurd (false≢true up)
chosen_item (b ∷ flags) [] n d size up = absurd (omega arith)
chosen_item (true ∷ flags) (x ∷ xs) zero d size up = refl
chosen_item (false ∷ flags) (x ∷ xs) zero d size up = absurd (false≢true up)
chosen_item (true ∷ flags) (x ∷ xs) (suc n) d size up = chosen_item flags xs n d (omega arith) up
chosen_item (false ∷ flags) (x ∷ xs) (suc n) d size up = chosen_item flags xs n d (omega arith) up

pub chosen_count : {X : Type 0} (flags : List Bool) (xs : List X) → length flags ≡ length xs → length (items_where_true flags xs) ≡ count_in flags
chosen_count [] xs size = refl
chosen_count (b ∷ flags) [] size = absurd (omega arith)
chosen_count (true ∷ flags) (x ∷ xs) size = ap suc (chosen_count flags xs (omega arith))
chosen_count (false ∷ flags) (x ∷ xs) size = chosen_count flags xs (omega arith)

items_next : {X : Type 0} (flags : List Bool) (xs : List X) (n : ℕ) (d : X) → n < length flags → n < length xs
    → items_where_true (take (suc n) flags) xs ≡ items_where_true (take n flags) xs ++ cond (get_or flags n false) (get_or xs n d ∷ []) []
items_next [] xs n d l k = absurd (omega arith)
items_next (b ∷ flags) [] n d l k = absurd (omega arith)
items_next (true ∷ flags) (x ∷ xs) zero d l k = refl
items_next (false ∷ flags) (x ∷ xs) zero d l k = refl
items_next (true ∷ flags) (x ∷ xs) (suc n) d l k = ap (λ ys. x ∷ ys) (items_next flags xs n d (omega arith) (omega arith))
items_next (false ∷ flags) (x ∷ xs) (suc n) d l k = items_next flags xs n d (omega arith) (omega arith)

-- what was made of the chosen items before a place, and with that place
module _ {X Y : Type 0} (f : X → Y) (flags : List Bool) (xs : List X) (n : ℕ) (d : X) (in_flags : n < length flags) (in_items : n < length xs) (made : List Y)
    (so_far : made ≡ map f (items_where_true (take n flags) xs)) where
  next : map f (items_where_true (take (n + 1) flags) xs) ≡ made ++ map f (cond (get_or flags n false) (get_or xs n d ∷ []) [])
  next =
      ap (λ k. map f (items_where_true (take k flags) xs)) (add-one n) ∙ ap (map f) (items_next flags xs n d in_flags in_items)
      ∙ map-append f (items_where_true (take n flags) xs) (cond (get_or flags n false) (get_or xs n d ∷ []) [])
      ∙ ap (λ ys. ys ++ map f (cond (get_or flags n false) (get_or xs n d ∷ []) [])) (sym so_far)

  pub made_more : (more : List Y) (y : Y) → get_or flags n false ≡ true → y ≡ f (get_or xs n d) → more ≡ made ++ y ∷ [] → more ≡ map f (items_where_true (take (n + 1) flags) xs)
  made_more more y up same pushed =
      pushed ∙ ap (λ z. made ++ z ∷ []) same ∙ ap (λ b. made ++ map f (cond b (get_or xs n d ∷ []) [])) (sym up) ∙ sym next

  pub made_less : get_or flags n false ≡ false → made ≡ map f (items_where_true (take (n + 1) flags) xs)
  made_less down =
      sym (append-nil made) ∙ ap (λ b. made ++ map f (cond b (get_or xs n d ∷ []) [])) (sym down) ∙ sym next

-- chosen ones of some packages
pub record IsChosen (flags : List Bool) (numbers : List ℕ) (place : ℕ) : Type 0 where
  pub number : ℕ
  pub listed : In number numbers
  pub up : flag flags number ≡ true
  pub is : place ≡ place_in flags number

pub chosen_cases : (flags : List Bool) (numbers : List ℕ) (place : ℕ) → In place (chosen_in flags numbers) → IsChosen flags numbers place
chosen_cases flags numbers place i =
    let w : (n : ℕ) × In n (filter (flag flags) numbers) × (place ≡ place_in flags n) = In_map_cases (place_in flags) (filter (flag flags) numbers) place i in
    let v : In w.0 numbers × (flag flags w.0 ≡ true) = filter_cases (flag flags) numbers w.0 w.1 in
    record { number = w.0; listed = v.0; up = v.1; is = w.2 }

pub chosen_from : (flags : List Bool) (numbers : List ℕ) (n : ℕ) → In n numbers → flag flags n ≡ true → In (place_in flags n) (chosen_in flags numbers)
chosen_from flags numbers n i up = In_map (place_in flags) (filter (flag flags) numbers) n (filter_from (flag flags) numbers n i up)

pub places_ascending : (flags : List Bool) (numbers : List ℕ) → Ascending numbers → ((n : ℕ) → In n numbers → flag flags n ≡ true) → Ascending (map (place_in flags) numbers)
places_ascending flags [] a up = tt
places_ascending flags (m ∷ numbers) a up = (
  (λ y i.
      let w : (n : ℕ) × In n numbers × (y ≡ place_in flags n) = In_map_cases (place_in flags) numbers y i in
      subst (λ z. place_in flags m < z) (sym w.2) (place_rises flags m w.0 (up m here) (a.0 w.0 w.1))),
  places_ascending flags numbers a.1 (λ n i. up n (there i)),
)

pub chosen_ascending : (flags : List Bool) (numbers : List ℕ) → Ascending numbers → Ascending (chosen_in flags numbers)
chosen_ascending flags numbers a =
    places_ascending flags (filter (flag flags) numbers) (ascending_filter (flag flags) numbers a) (λ n i. (filter_cases (flag flags) numbers n i).1)

-- one more number, chosen or not
module _ (flags : List Bool) (numbers : List ℕ) (i : ℕ) (within : i < length numbers) (made : List ℕ) (so_far : made ≡ chosen_in flags (take i numbers)) where
  next_number : chosen_in flags (take (i + 1) numbers) ≡ made ++ map (place_in flags) (cond (flag flags (get_or numbers i 0)) (get_or numbers i 0 ∷ []) [])
  next_number =
      ap (map (place_in flags)) (filter_more (flag flags) numbers i 0 within)
      ∙ map-append (place_in flags) (filter (flag flags) (take i numbers)) (cond (flag flags (get_or numbers i 0)) (get_or numbers i 0 ∷ []) [])
      ∙ ap (λ xs. xs ++ map (place_in flags) (cond (flag flags (get_or numbers i 0)) (get_or numbers i 0 ∷ []) [])) (sym so_far)

  pub among_more : (more : List ℕ) (place : ℕ) → flag flags (get_or numbers i 0) ≡ true → place ≡ place_in flags (get_or numbers i 0) → more ≡ made ++ place ∷ [] → more ≡ chosen_in flags (take (i + 1) numbers)
  among_more more place up same pushed =
      pushed ∙ ap (λ z. made ++ z ∷ []) same ∙ ap (λ b. made ++ map (place_in flags) (cond b (get_or numbers i 0 ∷ []) [])) (sym up) ∙ sym next_number

  pub among_less : flag flags (get_or numbers i 0) ≡ false → made ≡ chosen_in flags (take (i + 1) numbers)
  among_less down =
      sym (append-nil made) ∙ ap (λ b. made ++ map (place_in flags) (cond b (get_or numbers i 0 ∷ []) [])) (sym down) ∙ sym next_number

-- one more place
pub places_more : (flags : List Bool) (n : ℕ) (made more : List ℕ) (place : ℕ) → made ≡ map (place_in flags) (numbers n 0) → place ≡ place_in flags n → more ≡ made ++ place ∷ [] → more ≡ map (place_in flags) (numbers (n + 1) 0)
places_more flags n made more place so_far same pushed =
    pushed ∙ ap₂ (λ xs x. xs ++ x ∷ []) so_far same ∙ sym (ap (map (place_in flags)) (numbers_more n) ∙ map-append (place_in flags) (numbers n 0) (n ∷ []))

-- the place of a package in the list of all places
pub places_count : (flags : List Bool) (places : List ℕ) → places ≡ map (place_in flags) (numbers (length flags) 0) → length places ≡ length flags
places_count flags places is = ap length is ∙ length_numbers (place_in flags) (length flags) 0

pub place_told : (flags : List Bool) (places : List ℕ) → places ≡ map (place_in flags) (numbers (length flags) 0) → (n d : ℕ) → n < length flags → get_or places n d ≡ place_in flags n
place_told flags places is n d l = ap (λ xs. get_or xs n d) is ∙ at_numbers (place_in flags) d (length flags) 0 n l ∙ ap (place_in flags) (omega arith)
