-- The part of a sound repository is sound.
use Rattle.std.proofs.Common.{◌≡◌, ℕ, ◌<◌, Bool, true, false, List, [], length, slice_index_or, map, inl, inr, sym, ◌∙◌, ap, subst, arith}
use Rattle.std.proofs.{lemmas.Bool.{both_ways, cases_lt}, lemmas.List.{get_or-map, get_or_past, length-map}}
use Rattle.std.specs.List.{items_where_true}
use Rattle.listed.specs.Lists.{In, has, Ascending}
use Rattle.listed.proofs.Lists.{In_has, In_map_cases, has_In, has_not}
use Rattle.clause_pool.proofs.Order.{ordered_parts}
use Rattle.row_book.specs.{Book.{listed_for, AreConflicts}, declared.book.Book.{Book}, Flags.{flag}, Repository.{Repository, clauses_of}}
use Rattle.row_book.specs.{Sound.{SoundRepository}, Parts.{chosen_in, part, place_in, row_in}}
use Rattle.row_book.proofs.Books.{in_listed}
use Rattle.row_book.proofs.Placed.{count_in, at_place, chosen_ascending, chosen_cases, chosen_count, chosen_from, chosen_item, place_below, place_same}
use Rattle.row_book.proofs.Placed.{HasPlace, IsChosen}

-- what is made of the items of the chosen packages, at the place of each
pub made_at : {X Y : Type 0} (f : X → Y) (flags : List Bool) (xs : List X) (d : X) (e : Y) → length flags ≡ length xs → (n : ℕ) → flag flags n ≡ true
    → slice_index_or (map f (items_where_true flags xs)) (place_in flags n) e ≡ f (slice_index_or xs n d)
made_at f flags xs d e size n up =
    let count : length (items_where_true flags xs) ≡ count_in flags = chosen_count flags xs size in
    let below : place_in flags n < count_in flags = place_below flags n up in
    get_or-map f (items_where_true flags xs) (place_in flags n) d e (omega arith) ∙ ap f (chosen_item flags xs n d size up)

pub made_count : {X Y : Type 0} (f : X → Y) (flags : List Bool) (xs : List X) → length flags ≡ length xs → length (map f (items_where_true flags xs)) ≡ count_in flags
made_count f flags xs size = length-map (items_where_true flags xs) f ∙ chosen_count flags xs size

-- conflicts are between packages of the book
pub conflict_in_book : (book : Book) → AreConflicts book.conflicts → (p n : ℕ) → In n (listed_for book.conflicts p) → n < length book.rows
conflict_in_book book are p n i =
    let back : In p (listed_for book.conflicts n) = has_In (listed_for book.conflicts n) p (are.either_way p n (In_has i)) in
    subst (λ z. n < z) book.paired (in_listed book.conflicts n p back)

module _ (R : Repository) (flags : List Bool) (s : SoundRepository R) (size : length flags ≡ length R.clauses) where
  abbrev lists : List (List ℕ)
  lists = map (chosen_in flags) (items_where_true flags R.conflicts)

  list_at : (n : ℕ) → flag flags n ≡ true → listed_for lists (place_in flags n) ≡ chosen_in flags (listed_for R.conflicts n)
  list_at n up = made_at (chosen_in flags) flags R.conflicts [] [] (size ∙ sym s.count) n up

  list_count : length lists ≡ count_in flags
  list_count = made_count (chosen_in flags) flags R.conflicts (size ∙ sym s.count)

  -- a conflict that is left is one of two chosen packages
  record IsLeft (p q : ℕ) : Type 0 where
    pub own : ℕ
    pub own_up : flag flags own ≡ true
    pub own_is : place_in flags own ≡ p
    pub other : IsChosen flags (listed_for R.conflicts own) q

  left_from : (p q : ℕ) → In q (listed_for lists p) → IsLeft p q
  left_from p q i =
      let l : p < length lists = in_listed lists p q i in
      let count : length lists ≡ count_in flags = list_count in
      let h : HasPlace flags p = at_place flags p (omega arith) in
      record {
        own = h.number;
        own_up = h.up;
        own_is = h.is;
        other = chosen_cases flags (listed_for R.conflicts h.number) q (subst (λ xs. In q xs) (list_at h.number h.up) (subst (λ z. In q (listed_for lists z)) (sym h.is) i));
      }

  list_ascends : (p : ℕ) → Ascending (listed_for lists p)
  list_ascends p =
      elim (cases_lt p (count_in flags)) [
        | inl l ↦
            let h : HasPlace flags p = at_place flags p l in
            subst (λ z. Ascending (listed_for lists z)) h.is
            (subst Ascending (sym (list_at h.number h.up)) (chosen_ascending flags (listed_for R.conflicts h.number) (s.conflicts.ascending h.number)))
        | inr past ↦
            let count : length lists ≡ count_in flags = list_count in
            subst Ascending (sym (get_or_past lists p [] (omega arith))) tt
      ]

  either : (p q : ℕ) → has (listed_for lists p) q ≡ true → has (listed_for lists q) p ≡ true
  either p q t =
      let w : IsLeft p q = left_from p q (has_In (listed_for lists p) q t) in
      let back : In w.own (listed_for R.conflicts w.other.number) =
      has_In (listed_for R.conflicts w.other.number) w.own (s.conflicts.either_way w.own w.other.number (In_has w.other.listed)) in
      let there_is : In (place_in flags w.own) (listed_for lists (place_in flags w.other.number)) =
      subst (λ xs. In (place_in flags w.own) xs) (sym (list_at w.other.number w.other.up)) (chosen_from flags (listed_for R.conflicts w.other.number) w.own back w.own_up) in
      In_has (subst (λ z. In z (listed_for lists q)) w.own_is (subst (λ z. In (place_in flags w.own) (listed_for lists z)) (sym w.other.is) there_is))

  apart_from_own : (p : ℕ) → has (listed_for lists p) p ≡ false
  apart_from_own p = has_not (listed_for lists p) p (λ i.
      let w : IsLeft p p = left_from p p i in
      let same : w.own ≡ w.other.number = place_same flags w.own w.other.number w.own_up w.other.up (w.own_is ∙ w.other.is) in
      both_ways (has (listed_for R.conflicts w.own) w.own) (s.conflicts.apart w.own) (In_has (subst (λ z. In z (listed_for R.conflicts w.own)) (sym same) w.other.listed)))

  abbrev rows : List (List (List ℕ))
  rows = map (row_in flags) (items_where_true flags R.clauses)

  row_count : length rows ≡ count_in flags
  row_count = made_count (row_in flags) flags R.clauses size

  -- a clause that is left is that of a chosen package
  record IsClause (p : ℕ) (c : List ℕ) : Type 0 where
    pub own : ℕ
    pub clause : List ℕ
    pub listed : In clause (clauses_of R own)
    pub is : c ≡ chosen_in flags clause

  clause_from : (p : ℕ) (c : List ℕ) → In c (slice_index_or rows p []) → IsClause p c
  clause_from p c i =
      let l : p < length rows = in_listed rows p c i in
      let count : length rows ≡ count_in flags = row_count in
      let h : HasPlace flags p = at_place flags p (omega arith) in
      let j : In c (row_in flags (clauses_of R h.number)) =
      subst (λ cs. In c cs) (made_at (row_in flags) flags R.clauses [] [] size h.number h.up) (subst (λ z. In c (slice_index_or rows z [])) (sym h.is) i) in
      let w : (d : List ℕ) × In d (clauses_of R h.number) × (c ≡ chosen_in flags d) =
      In_map_cases (chosen_in flags) (clauses_of R h.number) c (ordered_parts (map (chosen_in flags) (clauses_of R h.number)) c j) in
      record { own = h.number; clause = w.0; listed = w.1; is = w.2 }

  in_part : (n : ℕ) (clause : List ℕ) → In n (chosen_in flags clause) → n < length rows
  in_part n clause i =
      let w : IsChosen flags clause n = chosen_cases flags clause n i in
      let below : place_in flags w.number < count_in flags = place_below flags w.number w.up in
      let count : length rows ≡ count_in flags = row_count in
      let same : n ≡ place_in flags w.number = w.is in
      omega arith

  pub part_sound : SoundRepository (part flags R)
  unfolding part
  part_sound = record {
    clauses = λ p c i.
        let w : IsClause p c = clause_from p c i in (
          subst Ascending (sym w.is) (chosen_ascending flags w.clause (s.clauses w.own w.clause w.listed).0),
          λ n j. in_part n w.clause (subst (λ z. In n z) w.is j),
        );
    count = list_count ∙ sym row_count;
    conflicts = record { ascending = list_ascends; either_way = either; apart = apart_from_own };
  }
