-- The small book is a part of the whole in which rivals have no clauses.
use Rattle.std.proofs.Common.{◌≡◌, ℕ, ◌<◌, ◌≤◌, ◌+◌, ◌⊎◌, Bool, true, false, cond, List, [], ◌∷◌, ◌++◌, length, map, inl, inr, refl, sym, ◌∙◌, ap, ap₂, subst}
use Rattle.std.proofs.{Common.{arith}, lemmas.List.{map-append}}
use Rattle.std.specs.List.{range_with_len}
use Rattle.clause_pool.specs.Interned.{Interned, Kept, row_at}
use Rattle.clause_pool.proofs.Interned.{row_stays}
use Rattle.listed.specs.Lists.{In}
use Rattle.listed.proofs.Lists.{In_at, In_map_cases, In_none, filter_cases}
use Rattle.row_book.specs.{declared.book.Book.{Book}, Book.{repository_of, AreConflicts, Sound}, Flags.{flag}, Numbers.{numbers}}
use Rattle.row_book.specs.{Repository.{Repository, clauses_of}, Uses.{row_id}, Parts.{number_in, numbers_up, part, place_in}}
use Rattle.row_book.proofs.{BookRepositories.{book_size, sound_repository}, Books.{clauses_row}, Flags.{flag_in}, Numbered.{number_back, up_count}}
use Rattle.row_book.proofs.{Numbers.{at_numbers, length_numbers, numbers_more, numbers_parts}, Parts.{part_count, part_row}, Placed.{count_in, place_below}}
use Rattle.suite_part.specs.Small.{HaveRivals, AreNeeded, HasRivals, IsSmall}

-- packages that are needed, and their rivals
pub apart_made : (from : Interned) (book : Book) (flags changed needed apart : List Bool) → Sound from book → length flags ≡ length book.rows → AreNeeded (repository_of from book) flags changed needed →
    HasRivals book.conflicts flags needed apart → HaveRivals (repository_of from book) flags needed apart
apart_made from book flags changed needed apart sound size need rivals = record {
  whole = sound_repository from book sound.rows.is_pool sound;
  size = size ∙ sym (book_size from book);
  count = rivals.size ∙ need.count ∙ size ∙ sym (book_size from book);
  mix = rivals.mix;
  own = rivals.stays;
  closed = need.closed;
  rivals = rivals.rivals;
}

-- the same of flags that were lent, and of flags that were counted
pub apart_there : (from : Interned) (book : Book) (flags changed needed lent rivals apart : List Bool) → Sound from book → length flags ≡ length book.rows → AreNeeded (repository_of from book) flags changed needed →
    lent ≡ needed → HasRivals book.conflicts flags lent rivals → apart ≡ rivals → HaveRivals (repository_of from book) flags needed apart
apart_there from book flags changed needed lent rivals apart sound size need whole has same =
    apart_made from book flags changed needed apart sound size need
    (subst (λ z. HasRivals book.conflicts flags needed z) (sym same) (subst (λ z. HasRivals book.conflicts flags z rivals) whole has))

-- their numbers, one for each row of the part, have flags
pub numbers_count : (from : Interned) (book : Book) (flags needed apart : List Bool) → HaveRivals (repository_of from book) flags needed apart → (before : Interned) (part_book : Book) →
    repository_of before part_book ≡ part apart (repository_of from book) → length (numbers_up apart) ≡ length part_book.rows
numbers_count from book flags needed apart are before part_book part_is =
    up_count apart ∙ sym (part_count (repository_of from book) are.whole apart are.count) ∙ sym (ap (λ R. length R.clauses) part_is) ∙ book_size before part_book

pub numbers_within : (apart needed : List Bool) → length apart ≡ length needed → (n : ℕ) → In n (numbers_up apart) → n < length needed
numbers_within apart needed e n i = subst (λ z. n < z) e (flag_in apart n (filter_cases (flag apart) (range_with_len 0 (length apart)) n i).1)

-- rows that were chosen over lent lists
pub rows_told : (lent needed : List Bool) (packages there rows own : List ℕ) (other : ℕ) → lent ≡ needed → packages ≡ there → rows ≡ own →
    map (λ k. cond (flag lent (number_in packages k)) (row_id rows k) other) (numbers (length rows) 0) ≡ map (λ k. cond (flag needed (number_in there k)) (row_id own k) other) (numbers (length own) 0)
rows_told lent needed packages there rows own other e f g =
    ap (λ z. map (λ k. cond (flag z (number_in packages k)) (row_id rows k) other) (numbers (length rows) 0)) e
    ∙ ap (λ z. map (λ k. cond (flag needed (number_in z k)) (row_id rows k) other) (numbers (length rows) 0)) f
    ∙ ap (λ z. map (λ k. cond (flag needed (number_in there k)) (row_id z k) other) (numbers (length z) 0)) g

-- one of two numbers
which : (b : Bool) (x y : ℕ) → (cond b x y ≡ x) ⊎ (cond b x y ≡ y)
which true x y = inl refl
which false x y = inr refl

module _ (from : Interned) (book : Book) (flags needed apart : List Bool) (are : HaveRivals (repository_of from book) flags needed apart)
    (before after : Interned) (kept : Kept before after) (part_book : Book) (part_is : repository_of before part_book ≡ part apart (repository_of from book)) (part_sound : Sound before part_book)
    (empty : ℕ) (empty_within : empty < length after.rows) (empty_is : row_at after empty ≡ []) (made : Book) (lists_are : made.conflicts ≡ part_book.conflicts)
    (rows_are : made.rows ≡ map (λ k. cond (flag needed (number_in (numbers_up apart) k)) (row_id part_book.rows k) empty) (numbers (length part_book.rows) 0)) where
  abbrev W : Repository
  W = repository_of from book

  abbrev chosen : ℕ → ℕ
  chosen k = cond (flag needed (number_in (numbers_up apart) k)) (row_id part_book.rows k) empty

  count : length part_book.rows ≡ count_in apart
  count = sym (book_size before part_book) ∙ ap (λ R. length R.clauses) part_is ∙ part_count W are.whole apart are.count

  many : length made.rows ≡ length part_book.rows
  many = ap length rows_are ∙ length_numbers chosen (length part_book.rows) 0

  row_made : (k : ℕ) → k < length part_book.rows → row_id made.rows k ≡ chosen k
  row_made k l = ap (λ rows. row_id rows k) rows_are ∙ at_numbers chosen 0 (length part_book.rows) 0 k l ∙ ap chosen (omega arith)

  old_row : (k : ℕ) → k < length part_book.rows → row_id part_book.rows k < length before.rows
  old_row k l = part_sound.rows.of_pool (row_id part_book.rows k) (In_at part_book.rows k 0 l)

  old_stays : (k : ℕ) → k < length part_book.rows → row_at after (row_id part_book.rows k) ≡ row_at before (row_id part_book.rows k)
  old_stays k l = row_stays before after part_sound.rows.is_pool kept (row_id part_book.rows k) (old_row k l)

  -- a row of the small book is one of the part, or empty
  record IsRow (id : ℕ) : Type 0 where
    pub place : ℕ
    pub within : place < length part_book.rows
    pub is : (id ≡ row_id part_book.rows place) ⊎ (id ≡ empty)

  row_cases : (id : ℕ) → In id made.rows → IsRow id
  row_cases id i =
      let w : (k : ℕ) × In k (numbers (length part_book.rows) 0) × (id ≡ chosen k) = In_map_cases chosen (numbers (length part_book.rows) 0) id (subst (λ xs. In id xs) rows_are i) in
      let l : (0 ≤ w.0) × (w.0 < 0 + length part_book.rows) = numbers_parts (length part_book.rows) 0 w.0 w.1 in
      record {
        place = w.0;
        within = omega (arith, l.1);
        is = elim (which (flag needed (number_in (numbers_up apart) w.0)) (row_id part_book.rows w.0) empty) [ inl e ↦ inl (w.2 ∙ e) | inr e ↦ inr (w.2 ∙ e) ];
      }

  row_within : (id : ℕ) → In id made.rows → id < length after.rows
  row_within id i = let r : IsRow id = row_cases id i in elim r.is [
    | inl e ↦ subst (λ z. z < length after.rows) (sym e) (kept.rows (row_id part_book.rows r.place) (old_row r.place r.within)).0
    | inr e ↦ subst (λ z. z < length after.rows) (sym e) empty_within
  ]

  row_numbers : (id : ℕ) → In id made.rows → (c : List ℕ) → In c (row_at after id) → (n : ℕ) → In n c → n < length made.rows
  row_numbers id i c j n k = let r : IsRow id = row_cases id i in elim r.is [
    | inl e ↦ subst (λ z. n < z) (sym many) (part_sound.rows.numbers (row_id part_book.rows r.place) (In_at part_book.rows r.place 0 r.within) c
        (subst (λ cs. In c cs) (ap (row_at after) e ∙ old_stays r.place r.within) j) n k)
    | inr e ↦ absurd (In_none (subst (λ cs. In c cs) (ap (row_at after) e ∙ empty_is) j))
  ]

  pub small_sound : Sound after made
  small_sound = record {
    rows = record { is_pool = kept.sound part_sound.rows.is_pool; of_pool = row_within; numbers = row_numbers };
    conflicts = subst AreConflicts (sym lists_are) part_sound.conflicts;
  }

  abbrev S : Repository
  S = repository_of after made

  own_row : (x : ℕ) → flag apart x ≡ true → clauses_of S (place_in apart x) ≡ row_at after (cond (flag needed x) (row_id part_book.rows (place_in apart x)) empty)
  own_row x up =
      let l : place_in apart x < length part_book.rows = subst (λ z. place_in apart x < z) (sym count) (place_below apart x up) in
      clauses_row after made (place_in apart x) (subst (λ z. place_in apart x < z) (sym many) l) ∙ ap (row_at after) (row_made (place_in apart x) l)
      ∙ ap (λ n. row_at after (cond (flag needed n) (row_id part_book.rows (place_in apart x)) empty)) (number_back apart x up)

  pub small_is : IsSmall W needed apart S
  small_is = record {
    sound = sound_repository after made small_sound.rows.is_pool small_sound;
    count = book_size after made ∙ many ∙ sym (book_size before part_book) ∙ ap (λ R. length R.clauses) part_is;
    conflicts = lists_are ∙ ap (λ R. R.conflicts) part_is;
    rows = λ x u.
        let up : flag apart x ≡ true = are.own x u in
        let l : place_in apart x < length part_book.rows = subst (λ z. place_in apart x < z) (sym count) (place_below apart x up) in
        own_row x up ∙ ap (λ b. row_at after (cond b (row_id part_book.rows (place_in apart x)) empty)) u ∙ old_stays (place_in apart x) l
        ∙ sym (clauses_row before part_book (place_in apart x) l) ∙ ap (λ R. clauses_of R (place_in apart x)) part_is ∙ part_row W are.whole apart are.count x up;
    none = λ x up down. own_row x up ∙ ap (λ b. row_at after (cond b (row_id part_book.rows (place_in apart x)) empty)) down ∙ empty_is;
  }

-- one more row
pub row_more : (f : ℕ → ℕ) (n : ℕ) (made more : List ℕ) (x : ℕ) → made ≡ map f (numbers n 0) → x ≡ f n → more ≡ made ++ x ∷ [] → more ≡ map f (numbers (n + 1) 0)
row_more f n made more x so_far e pushed = pushed ∙ ap₂ (λ xs y. xs ++ y ∷ []) so_far e ∙ sym (ap (map f) (numbers_more n) ∙ map-append f (numbers n 0) (n ∷ []))
