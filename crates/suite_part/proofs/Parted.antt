-- Rows that are made of those of chosen packages, one after another, while the pool grows.
use Rattle.std.proofs.Common.{◌≡◌, ℕ, ◌<◌, ◌≤◌, ◌+◌, Bool, true, false, List, [], ◌∷◌, ◌++◌, length, get_or, take, map, inl, inr, sym, ◌∙◌, ap, ap₂, subst}
use Rattle.std.proofs.{Common.{arith}, lemmas.List.{length-map, map-append, take_more}}
use Rattle.row_book.specs.{Parts.{chosen_in, part, row_in}, Book.{repository_of, Sound}, Repository.{Repository}, Sound.{SoundRepository}}
use Rattle.row_book.specs.declared.book.Book.{Book}
use Rattle.row_book.proofs.{PartSound.{made_count, part_sound}, Placed.{count_in, made_less, made_more}}
use Rattle.row_book.proofs.{BookRepositories.{book_size, sound_book, sound_repository}, Books.{rows_kept_by}, Repositories.{repository_same}}
use Rattle.std.specs.List.{items_where_true}
use Rattle.clause_pool.specs.{Clauses.{in_row_order}, Compacting.{RowsOf}, Interned.{Interned, clause_at, clauses_at, row_at, IsIdOf, IsPool, Kept, OfPool}}
use Rattle.clause_pool.specs.Lists.{InOrder}
use Rattle.clause_pool.proofs.{Interned.{clauses_kept, kept_along, kept_of_pool, kept_same}, Order.{order_same, ordered_has, ordered_order, ordered_parts}}
use Rattle.clause_families.specs.Families.{SameClauses}
use Rattle.clause_families.proofs.Families.{At, of_pool_push, taken_at}
use Rattle.listed.specs.Lists.{In}
use Rattle.listed.proofs.Lists.{In_append_cases, In_cases, In_none, filter_short}
use Rattle.suite_part.specs.Left.{IsLeft}

-- a family in order is that of its clauses
pub same_order : (all family : List (List ℕ)) → SameClauses all family → InOrder family → family ≡ in_row_order all
same_order all family same order =
    order_same family (in_row_order all) order (ordered_order all) (λ c i. ordered_has all c (same.back c i)) (λ c i. same.there c (ordered_parts all c i))

-- the first clauses of a family are in the pool, which keeps what it held
pub record FirstInterned (start now : Interned) (done : List (List ℕ)) (ids : List ℕ) : Type 0 where
  pub made : clauses_at now ids ≡ done
  pub of_pool : OfPool now ids
  pub kept : Kept start now

pub more_interned : (start old new : Interned) (family : List (List ℕ)) (i : ℕ) (clause : List ℕ) (ids more : List ℕ) (id : ℕ) → At family i clause → FirstInterned start old (take i family) ids → Kept old new →
    IsIdOf new.clauses clause id → more ≡ ids ++ id ∷ [] → FirstInterned start new (take (i + 1) family) more
more_interned start old new family i clause ids more id a s k at pushed = record {
  made = ap (clauses_at new) pushed ∙ map-append (clause_at new) ids (id ∷ []) ∙ ap₂ (λ xs c. xs ++ c ∷ []) (clauses_kept old new k ids s.of_pool ∙ s.made) at.holds ∙ sym (taken_at family i clause a);
  of_pool = of_pool_push new ids more id (kept_of_pool old new k ids s.of_pool) at.within pushed;
  kept = kept_along start old new s.kept k;
}

-- the rows of the chosen packages before a place
pub record PartedTo (start now : Interned) (flags : List Bool) (table : List (List (List ℕ))) (rows : List ℕ) (n : ℕ) : Type 0 where
  pub made : map (row_at now) rows ≡ map (row_in flags) (items_where_true (take n flags) table)
  pub of_pool : RowsOf now rows
  pub kept : Kept start now

pub parted_none : (start : Interned) (flags : List Bool) (table : List (List (List ℕ))) (rows : List ℕ) → rows ≡ [] → PartedTo start start flags table rows 0
parted_none start flags table rows e = record {
  made = ap (map (row_at start)) e;
  of_pool = λ id i. absurd (In_none (subst (λ xs. In id xs) e i));
  kept = kept_same start;
}

module _ (start old : Interned) (flags : List Bool) (table : List (List (List ℕ))) (rows : List ℕ) (n : ℕ) (in_flags : n < length flags) (in_table : n < length table)
    (so_far : PartedTo start old flags table rows n) where
  pub parted_more : (new : Interned) (more : List ℕ) (row : ℕ) → IsPool start → Kept old new → get_or flags n false ≡ true → row < length new.rows → row_at new row ≡ row_in flags (get_or table n []) → more ≡ rows ++ row ∷ [] →
      PartedTo start new flags table more (n + 1)
  parted_more new more row is k up within same pushed = record {
    made =
        made_more (row_in flags) flags table n [] in_flags in_table (map (row_at new) rows) (rows_kept_by old new (so_far.kept.sound is) k rows so_far.of_pool ∙ so_far.made) (map (row_at new) more) (row_at new row) up same
        (ap (map (row_at new)) pushed ∙ map-append (row_at new) rows (row ∷ []));
    of_pool = λ id i. elim (In_append_cases rows (row ∷ []) id (subst (λ xs. In id xs) pushed i)) [
      | inl j ↦ (k.rows id (so_far.of_pool id j)).0
      | inr j ↦ elim (In_cases j) [ inl h ↦ subst (λ z. z < length new.rows) (sym h) within | inr h ↦ absurd (In_none h) ]
    ];
    kept = kept_along start old new so_far.kept k;
  }

  pub parted_less : get_or flags n false ≡ false → PartedTo start old flags table rows (n + 1)
  parted_less down = record {
    made = made_less (row_in flags) flags table n [] in_flags in_table (map (row_at old) rows) so_far.made down;
    of_pool = so_far.of_pool;
    kept = so_far.kept;
  }

-- the book of the rows and conflicts that are left
module _ (from new : Interned) (book : Book) (flags : List Bool) (rows : List ℕ) (lists : List (List ℕ)) (sound : Sound from book) (size : length flags ≡ length book.rows)
    (made : map (row_at new) rows ≡ map (row_in flags) (items_where_true flags (repository_of from book).clauses)) (left : lists ≡ map (chosen_in flags) (items_where_true flags book.conflicts)) where
  all_flags : length flags ≡ length (repository_of from book).clauses
  all_flags = size ∙ sym (book_size from book)

  rows_count : length rows ≡ count_in flags
  rows_count = sym (length-map rows (row_at new)) ∙ ap length made ∙ made_count (row_in flags) flags (repository_of from book).clauses all_flags

  pub parted_few : (given : List ℕ) → given ≡ rows → length given < 4294967295
  parted_few given is =
      let count : length rows ≡ count_in flags = rows_count in
      let least : count_in flags ≤ length flags = filter_short (λ is_up. is_up) flags in
      let few : length book.rows < 4294967295 = book.few in
      let same : length given ≡ length rows = ap length is in
      omega (arith, size)

  pub parted_paired : (given : List ℕ) (told : List (List ℕ)) → given ≡ rows → told ≡ lists → length told ≡ length given
  parted_paired given told is same =
      ap length same ∙ ap length left ∙ made_count (chosen_in flags) flags book.conflicts (size ∙ sym book.paired) ∙ sym rows_count ∙ sym (ap length is)

  pub parted_book : (R : Repository) → R.clauses ≡ map (row_at new) rows → R.conflicts ≡ lists → R ≡ part flags (repository_of from book)
  unfolding part
  parted_book R is same = repository_same R (part flags (repository_of from book)) (is ∙ made) (same ∙ left)

  pub parted_sound : (given : Book) → given.rows ≡ rows → given.conflicts ≡ lists → IsPool new → RowsOf new rows → Sound new given
  parted_sound given is same now of =
      sound_book new given now (λ id i. of id (subst (λ z. In id z) is i))
      (subst SoundRepository (sym (parted_book (repository_of new given) (ap (map (row_at new)) is) same)) (part_sound (repository_of from book) flags (sound_repository from book sound.rows.is_pool sound) all_flags))

-- what is left of one more clause of a row
pub left_interned : (start old new from : Interned) (flags : List Bool) (row : List ℕ) (i id : ℕ) (ids more : List ℕ) (made : ℕ) → i < length row → id ≡ get_or row i id
    → FirstInterned start old (map (chosen_in flags) (clauses_at from (take i row))) ids → Kept old new → IsLeft from flags new id made → more ≡ ids ++ made ∷ []
    → FirstInterned start new (map (chosen_in flags) (clauses_at from (take (i + 1) row))) more
left_interned start old new from flags row i id ids more made l at s k left pushed =
    let next : take (i + 1) row ≡ take i row ++ id ∷ [] = take_more row i id l ∙ ap (λ z. take i row ++ z ∷ []) (sym at) in
    let all : clauses_at from (take (i + 1) row) ≡ clauses_at from (take i row) ++ clause_at from id ∷ [] = ap (clauses_at from) next ∙ map-append (clause_at from) (take i row) (id ∷ []) in
    record {
      made = ap (clauses_at new) pushed ∙ map-append (clause_at new) ids (made ∷ []) ∙ ap₂ (λ xs c. xs ++ c ∷ []) (clauses_kept old new k ids s.of_pool ∙ s.made) left.is
          ∙ sym (ap (map (chosen_in flags)) all ∙ map-append (chosen_in flags) (clauses_at from (take i row)) (clause_at from id ∷ []));
      of_pool = of_pool_push new ids more made (kept_of_pool old new k ids s.of_pool) left.within pushed;
      kept = kept_along start old new s.kept k;
    }
