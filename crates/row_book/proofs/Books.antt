-- What a sound book says of its repository, and what stays of a book while its pool grows.
use Rattle.std.proofs.{Common.{◌≡◌, ℕ, ◌<◌, true, List, [], ◌∷◌, length, map, slice_index_or, inl, inr, refl, sym, ◌∙◌, ap, ap₂, subst}, lemmas.Bool.{cases_lt}}
use Rattle.std.proofs.lemmas.List.{get_or_past, length-map}
use Rattle.std.proofs.lemmas.List as lists
use Rattle.clause_pool.specs.Interned.{Interned, clause_at, ids_at, clauses_at, row_at, OfPool, IsPool, Kept}
use Rattle.clause_pool.proofs.Interned.{clauses_at_same}
use Rattle.row_book.specs.{declared.book.Book.{Book}, Uses.{row_id}, Repository.{Repository, clauses_of}, Sound.{SoundClauses, BetweenPackages}}
use Rattle.row_book.specs.Book.{repository_of, RowsFit, listed_for, Sound}
use Rattle.listed.specs.Lists.{In, here, there, has, Ascending}
use Rattle.listed.proofs.Lists.{In_none, In_at, has_In, In_map_cases}

-- an element of the list at a place, which then is within
pub in_listed : {A : Type 0} (lists : List (List A)) (p : ℕ) (x : A) → In x (slice_index_or lists p []) → p < length lists
in_listed lists p x i =
    elim (cases_lt p (length lists)) [
      | inl l ↦ l
      | inr past ↦ absurd (In_none (subst (λ xs. In x xs) (get_or_past lists p [] past) i))
    ]

-- the clauses of a package are those of its row
pub clauses_row : (pool : Interned) (book : Book) (p : ℕ) → p < length book.rows → clauses_of (repository_of pool book) p ≡ row_at pool (row_id book.rows p)
clauses_row pool book p l = lists.get_or-map (row_at pool) book.rows p 0 [] l

-- a pool that has gained clauses and rows
module _ (old new : Interned) (is : IsPool old) (kept : Kept old new) where
  clauses_kept : (ids : List ℕ) → OfPool old ids → clauses_at new ids ≡ clauses_at old ids
  clauses_kept ids within = clauses_at_same old new ids within (λ id l. (kept.clauses id l).1)

  pub row_kept : (id : ℕ) → id < length old.rows → row_at new id ≡ row_at old id
  row_kept id l = ap (clauses_at new) (kept.rows id l).1 ∙ clauses_kept (ids_at old id) (is.of_pool id l)

  pub rows_kept_by : (rows : List ℕ) → ((id : ℕ) → In id rows → id < length old.rows) → map (row_at new) rows ≡ map (row_at old) rows
  rows_kept_by [] within = refl
  rows_kept_by (id ∷ ids) within =
      ap₂ (λ r rs. r ∷ rs) (row_kept id (within id here)) (rows_kept_by ids (λ i j. within i (there j)))

  pub rows_kept : (rows : List ℕ) → RowsFit old rows → map (row_at new) rows ≡ map (row_at old) rows
  rows_kept rows fit = rows_kept_by rows fit.of_pool

  pub fit_kept : (rows : List ℕ) → RowsFit old rows → RowsFit new rows
  fit_kept rows fit = record {
    is_pool = kept.sound fit.is_pool;
    of_pool = λ id i. (kept.rows id (fit.of_pool id i)).0;
    numbers = λ id i c j. fit.numbers id i c (subst (λ cs. In c cs) (row_kept id (fit.of_pool id i)) j);
  }

  pub sound_kept : (book : Book) → Sound old book → Sound new book
  sound_kept book s = record { rows = fit_kept book.rows s.rows; conflicts = s.conflicts }

  pub repository_kept : (book : Book) → Sound old book → repository_of new book ≡ repository_of old book
  repository_kept book s =
      let R : List (List (List ℕ)) → Repository = λ clauses. record { clauses = clauses; conflicts = book.conflicts } in
      ap R (rows_kept book.rows s.rows)

-- the clauses of a row of the pool are ascending
pub row_ascending : (pool : Interned) → IsPool pool → (id : ℕ) → id < length pool.rows → (c : List ℕ) → In c (row_at pool id) → Ascending c
row_ascending pool is id l c i =
    let w : (k : ℕ) × In k (ids_at pool id) × (c ≡ clause_at pool k) = In_map_cases (clause_at pool) (ids_at pool id) c i in
    subst (λ d. Ascending d) (sym w.2) (is.ascending w.0 (is.of_pool id l w.0 w.1))

module _ (pool : Interned) (book : Book) (s : Sound pool book) where
  count : length (repository_of pool book).clauses ≡ length book.rows
  count = length-map book.rows (row_at pool)

  pub sound_clauses : IsPool pool → SoundClauses (repository_of pool book)
  sound_clauses is p c i =
      let within : p < length book.rows = subst (λ n. p < n) count (in_listed (repository_of pool book).clauses p c i) in
      let id : In (row_id book.rows p) book.rows = In_at book.rows p 0 within in
      let j : In c (row_at pool (row_id book.rows p)) = subst (λ cs. In c cs) (clauses_row pool book p within) i in (
        row_ascending pool is (row_id book.rows p) (s.rows.of_pool (row_id book.rows p) id) c j,
        λ n k. subst (λ m. n < m) (sym count) (s.rows.numbers (row_id book.rows p) id c j n k),
      )

  pub between_packages : BetweenPackages (repository_of pool book)
  between_packages m n h =
      let below : (p q : ℕ) → has (listed_for book.conflicts p) q ≡ true → p < length (repository_of pool book).clauses =
      λ p q t. subst (λ k. p < k) (book.paired ∙ sym count) (in_listed book.conflicts p q (has_In (listed_for book.conflicts p) q t)) in
      (below m n h, below n m (s.conflicts.either_way m n h))
