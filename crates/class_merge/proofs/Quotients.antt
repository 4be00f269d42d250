-- The quotient of a part is the grouping of the packages of the mask, in the numbers of all packages.
use Rattle.std.proofs.Common.{◌≡◌, ℕ, ◌<◌, ◌≤◌, ◌+◌, Bool, true, ◌||◌, eqb, List, [], ◌∷◌, length, get_or, map, inl, inr, refl, sym, ◌∙◌, ap, ap₂, subst, arith}
use Rattle.std.proofs.{lemmas.Bool.{cases_eq, cases_lt, false_from_ne_true, not_from_false}, lemmas.List.{get_or-map, length-map}}
use Rattle.std.specs.List.{list_any}
use Rattle.class_merge.specs.Classes.{class_in, clauses_in as clauses_by, image_in}
use Rattle.class_merge.proofs.{Classes.{Alike, alike_from, alike_sym}, Groups.{class_unique, firsts_ascend}, Plain.{none_before}}
use Rattle.class_merge.proofs.MergedRows.{class_at, clauses_at_class, conflicts_at, merged_lists, merged_table}
use Rattle.clause_pool.specs.Clauses.{apart_from, in_row_order, minimal_of}
use Rattle.listed.specs.Lists.{In, here, there}
use Rattle.listed.proofs.{Lists.{In_at, In_map, In_map_cases, any_cases, filter_cases, filter_from, filter_same, map_alike}, Orders.{ascending_same}}
use Rattle.row_book.specs.{Flags.{flag}, Flattening.{packages}, Numbers.{numbers}, Repository.{Repository, clauses_of, conflicts_of}, Sound.{SoundRepository}}
use Rattle.row_book.specs.Merging.{are_alike, class_clauses, class_conflicts, class_list, class_of, firsts, first_of, is_first}
use Rattle.row_book.specs.Parts.{clause_in, clauses_in, number_in, numbers_up, part, place_in}
use Rattle.row_book.proofs.{Numbered.{clause_home, clauses_home}, Numbers.{numbers_parts}, PartSound.{part_sound}}
use Rattle.row_book.proofs.{Parts.{part_clauses, part_conflicts, part_count}, Placed.{at_place, count_in, place_below, place_rises, places_ascending, HasPlace}}
use Rattle.row_book.proofs.Repositories.{in_packages, of_packages}
use Rattle.class_merge.specs.Masks.{against_in_mask, group_clauses, group_conflicts, AlikeInMask, AreGrouped, IsMasked, IsQuotientOfPart, QuotientOfPart}

-- images by two lists of classes that tell the same, each in its own numbers
any_moved : (f g : ℕ → Bool) (to : ℕ → ℕ) (c : List ℕ) → ((n : ℕ) → In n c → f (to n) ≡ g n) → list_any f (map to c) ≡ list_any g c
any_moved f g to [] e = refl
any_moved f g to (n ∷ c) e = ap₂ (λ x y. x || y) (e n here) (any_moved f g to c (λ m i. e m (there i)))

image_moved : (count : ℕ) (own other : List ℕ) (to : ℕ → ℕ) (c : List ℕ) → ((n : ℕ) → In n c → class_in own (to n) ≡ class_in other n) → image_in count own (map to c) ≡ image_in count other c
unfolding image_in
image_moved count own other to c e =
    filter_same (λ k. list_any (λ n. eqb (class_in own n) k) (map to c)) (λ k. list_any (λ n. eqb (class_in other n) k) c) (numbers count 0)
    (λ k i. any_moved (λ n. eqb (class_in own n) k) (λ n. eqb (class_in other n) k) to c (λ n j. ap (λ z. eqb z k) (e n j)))

images_moved : (count : ℕ) (own other : List ℕ) (to : ℕ → ℕ) (cs : List (List ℕ)) → ((c : List ℕ) → In c cs → (n : ℕ) → In n c → class_in own (to n) ≡ class_in other n) →
    map (image_in count own) (map (map to) cs) ≡ map (image_in count other) cs
images_moved count own other to [] e = refl
images_moved count own other to (c ∷ cs) e = ap₂ (λ x xs. x ∷ xs) (image_moved count own other to c (e c here)) (images_moved count own other to cs (λ d i. e d (there i)))

first_cases : (R : Repository) (p : ℕ) → In p (firsts R) → (p < length R.clauses) × (is_first R p ≡ true)
unfolding firsts
first_cases R p i = let w : In p (packages R) × (is_first R p ≡ true) = filter_cases (is_first R) (packages R) p i in (of_packages R p w.0, w.1)

first_from : (R : Repository) (p : ℕ) → p < length R.clauses → is_first R p ≡ true → In p (firsts R)
unfolding firsts
first_from R p l y = filter_from (is_first R) (packages R) p (in_packages R p l) y

-- a package that no lesser one is like is the first of its class
is_first_from : (R : Repository) (p : ℕ) → ((q : ℕ) → q < p → Alike R p q → ⊥) → is_first R p ≡ true
is_first_from R p none = not_from_false (list_any (are_alike R p) (numbers p 0)) (false_from_ne_true (list_any (are_alike R p) (numbers p 0)) (λ t.
    let v : (q : ℕ) × In q (numbers p 0) × (are_alike R p q ≡ true) = any_cases (are_alike R p) (numbers p 0) t in
    let u : (0 ≤ v.0) × (v.0 < 0 + p) = numbers_parts p 0 v.0 v.1 in
    none v.0 (omega arith) (alike_from R p v.0 v.2)))

module _ (F : Repository) (flags : List Bool) (least group_of : List ℕ) (mask : IsMasked F flags) (grouped : AreGrouped F flags least group_of) where
  abbrev P : Repository
  P = part flags F

  abbrev at : ℕ → ℕ
  at = place_in flags

  sound : SoundRepository P
  sound = part_sound F flags mask.sound mask.size

  count : length P.clauses ≡ count_in flags
  count = part_count F mask.sound flags mask.size

  inside : (p : ℕ) → flag flags p ≡ true → at p < length P.clauses
  inside p up = subst (λ z. at p < z) (sym count) (place_below flags p up)

  -- what a package of the mask has there
  row_there : (p : ℕ) → flag flags p ≡ true → clauses_of P (at p) ≡ map (map at) (clauses_of F p)
  row_there p up = part_clauses F mask.sound flags mask.size p up (mask.closed p up) (mask.order p up)

  list_there : (p : ℕ) → flag flags p ≡ true → conflicts_of P (at p) ≡ map at (against_in_mask F flags p)
  list_there p up = part_conflicts F mask.sound flags mask.size p up

  -- alike there, and here
  alike_there : (p q : ℕ) → flag flags p ≡ true → flag flags q ≡ true → AlikeInMask F flags p q → Alike P (at p) (at q)
  alike_there p q u v a = record {
    clauses = row_there p u ∙ ap (map (map at)) a.clauses ∙ sym (row_there q v);
    conflicts = list_there p u ∙ ap (map at) a.conflicts ∙ sym (list_there q v);
  }

  row_here : (p : ℕ) → flag flags p ≡ true → clauses_in (numbers_up flags) (clauses_of P (at p)) ≡ clauses_of F p
  row_here p up = ap (clauses_in (numbers_up flags)) (row_there p up) ∙ clauses_home flags (clauses_of F p) (mask.closed p up)

  list_here : (p : ℕ) → flag flags p ≡ true → clause_in (numbers_up flags) (conflicts_of P (at p)) ≡ against_in_mask F flags p
  list_here p up = ap (clause_in (numbers_up flags)) (list_there p up) ∙ clause_home flags (against_in_mask F flags p) (λ n i. (filter_cases (flag flags) (conflicts_of F p) n i).1)

  alike_here : (p q : ℕ) → flag flags p ≡ true → flag flags q ≡ true → Alike P (at p) (at q) → AlikeInMask F flags p q
  alike_here p q u v a = record {
    clauses = sym (row_here p u) ∙ ap (clauses_in (numbers_up flags)) a.clauses ∙ row_here q v;
    conflicts = sym (list_here p u) ∙ ap (clause_in (numbers_up flags)) a.conflicts ∙ list_here q v;
  }

  -- the first of the group of a package
  abbrev first_here : ℕ → ℕ
  first_here p = number_in least (class_in group_of p)

  first_listed : (p : ℕ) → flag flags p ≡ true → In (first_here p) least
  first_listed p up = In_at least (class_in group_of p) 0 (grouped.within p up)

  -- the first of a class there is the first of a group here
  from_there : (k : ℕ) → In k (firsts P) → In k (map at least)
  from_there k i =
      let w : (k < length P.clauses) × (is_first P k ≡ true) = first_cases P k i in
      let h : HasPlace flags k = at_place flags k (subst (λ z. k < z) count w.0) in
      let p : ℕ = h.number in
      let f : ℕ = first_here p in
      let listed : In f least = first_listed p h.up in
      let up : flag flags f ≡ true = grouped.there f listed in
      let like : AlikeInMask F flags p f = grouped.alike p h.up in
      elim (cases_eq p f) [
        | inl same ↦ subst (λ z. In z (map at least)) (ap at (sym same) ∙ h.is) (In_map at least f listed)
        | inr other ↦ elim (cases_lt p f) [
          | inl l ↦ absurd (grouped.first f p listed h.up l like)
          | inr m ↦
              let below : f < p = omega (arith, m, other) in
              let first : is_first P (at p) ≡ true = subst (λ z. is_first P z ≡ true) (sym h.is) w.1 in
              absurd (none_before P (at p) (at f) first (place_rises flags f p up below) (alike_there p f h.up up like))
        ]
      ]

  lesser : (p q : ℕ) → flag flags p ≡ true → at q < at p → q < p
  lesser p q up l =
      elim (cases_lt q p) [
        | inl less ↦ less
        | inr more ↦ elim (cases_eq p q) [
          | inl same ↦ (let e : at p ≡ at q = ap at same in absurd (omega arith))
          | inr other ↦ (let below : p < q = omega (arith, more, other) in let r : at p < at q = place_rises flags p q up below in absurd (omega arith))
        ]
      ]

  to_there : (k : ℕ) → In k (map at least) → In k (firsts P)
  to_there k i =
      let w : (p : ℕ) × In p least × (k ≡ at p) = In_map_cases at least k i in
      let p : ℕ = w.0 in
      let up : flag flags p ≡ true = grouped.there p w.1 in
      subst (λ z. In z (firsts P)) (sym w.2) (first_from P (at p) (inside p up) (is_first_from P (at p) (λ q l a.
      let b : at p < length P.clauses = inside p up in
      let h : HasPlace flags q = at_place flags q (subst (λ z. q < z) count (omega arith)) in
      let l2 : at h.number < at p = subst (λ z. z < at p) (sym h.is) l in
      grouped.first p h.number w.1 h.up (lesser p h.number up l2)
      (alike_here h.number p h.up up (alike_sym P (at p) (at h.number) (subst (Alike P (at p)) (sym h.is) a))))))

  firsts_are : firsts P ≡ map at least
  firsts_are = ascending_same (firsts P) (map at least) (firsts_ascend P) (places_ascending flags least grouped.ascending grouped.there) from_there to_there

  firsts_count : length least ≡ length (firsts P)
  firsts_count = sym (ap length firsts_are ∙ length-map least at)

  first_at : (k : ℕ) → k < length least → first_of P k ≡ at (number_in least k)
  first_at k l = ap (λ z. get_or z k 0) firsts_are ∙ get_or-map at least k 0 0 l

  -- the group of a package is its class there
  class_there : (p : ℕ) → flag flags p ≡ true → class_in group_of p ≡ class_of P (at p)
  class_there p up =
      let l : class_in group_of p < length least = grouped.within p up in
      class_unique P (at p) (class_in group_of p) (inside p up) (subst (λ z. class_in group_of p < z) firsts_count l)
      (subst (Alike P (at p)) (sym (first_at (class_in group_of p) l)) (alike_there p (first_here p) up (grouped.there (first_here p) (first_listed p up)) (grouped.alike p up)))

  class_moved : (p : ℕ) → flag flags p ≡ true → class_in (class_list P) (at p) ≡ class_in group_of p
  class_moved p up = class_at P (at p) (inside p up) ∙ sym (class_there p up)

  -- what is made of a group
  clauses_made : (k : ℕ) → k < length least → clauses_by (length least) group_of k (clauses_of F (number_in least k)) ≡ class_clauses P k
  clauses_made k l =
      let p : ℕ = number_in least k in
      let up : flag flags p ≡ true = grouped.there p (In_at least k 0 l) in
      ap (λ cs. in_row_order (minimal_of (apart_from k cs))) (sym (images_moved (length least) (class_list P) group_of at (clauses_of F p) (λ c i n j. class_moved n (mask.closed p up c i n j))))
      ∙ ap (clauses_by (length least) (class_list P) k) (sym (row_there p up) ∙ ap (clauses_of P) (sym (first_at k l)))
      ∙ ap (λ z. clauses_by z (class_list P) k (clauses_of P (first_of P k))) firsts_count
      ∙ clauses_at_class P sound k (subst (λ z. k < z) firsts_count l)

  conflicts_made : (k : ℕ) → k < length least → image_in (length least) group_of (against_in_mask F flags (number_in least k)) ≡ class_conflicts P k
  conflicts_made k l =
      let p : ℕ = number_in least k in
      let up : flag flags p ≡ true = grouped.there p (In_at least k 0 l) in
      sym (image_moved (length least) (class_list P) group_of at (against_in_mask F flags p) (λ n i. class_moved n (filter_cases (flag flags) (conflicts_of F p) n i).1))
      ∙ ap (image_in (length least) (class_list P)) (sym (list_there p up) ∙ ap (conflicts_of P) (sym (first_at k l)))
      ∙ ap (λ z. image_in z (class_list P) (conflicts_of P (first_of P k))) firsts_count
      ∙ conflicts_at P sound k (subst (λ z. k < z) firsts_count l)

  below_count : (n k : ℕ) → In k (numbers n 0) → k < n
  below_count n k i = let w : (0 ≤ k) × (k < 0 + n) = numbers_parts n 0 k i in omega arith

  its_quotient : IsQuotientOfPart F flags least group_of
  its_quotient = record {
    clauses =
        map_alike (group_clauses F least group_of) (class_clauses P) (numbers (length least) 0) (λ k i. clauses_made k (below_count (length least) k i))
        ∙ merged_table P (length least) firsts_count;
    conflicts =
        map_alike (group_conflicts F flags least group_of) (class_conflicts P) (numbers (length least) 0) (λ k i. conflicts_made k (below_count (length least) k i))
        ∙ merged_lists P (length least) firsts_count;
    classes = class_there;
  }

pub quotient_of_part_lem : QuotientOfPart
quotient_of_part_lem F flags least group_of mask grouped = its_quotient F flags least group_of mask grouped
