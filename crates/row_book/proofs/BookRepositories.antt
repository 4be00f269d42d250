-- A sound book has a sound repository, and the other way round where its rows are of the pool.
use Rattle.std.proofs.{Common.{◌≡◌, ℕ, ◌<◌, List, length, sym, ◌∙◌, subst}, lemmas.List.{length-map}}
use Rattle.clause_pool.specs.Interned.{Interned, IsPool, row_at}
use Rattle.clause_pool.proofs.Lists.{In_place}
use Rattle.row_book.specs.{declared.book.Book.{Book}, Uses.{row_id}, Repository.{clauses_of}, Sound.{SoundRepository, TidyRepository}}
use Rattle.row_book.specs.Book.{repository_of, RowsTidy, Sound}
use Rattle.listed.specs.Lists.{In}
use Rattle.row_book.proofs.Books.{clauses_row, in_listed, row_ascending}
use Rattle.listed.proofs.Lists.{In_at}

module _ (pool : Interned) (book : Book) where
  pub book_size : length (repository_of pool book).clauses ≡ length book.rows
  book_size = length-map book.rows (row_at pool)

  clause_row : (p : ℕ) (c : List ℕ) → In c (clauses_of (repository_of pool book) p) → (p < length book.rows) × In c (row_at pool (row_id book.rows p))
  clause_row p c i =
      let l : p < length book.rows = subst (λ n. p < n) book_size (in_listed (repository_of pool book).clauses p c i) in
      (l, subst (λ cs. In c cs) (clauses_row pool book p l) i)

  pub sound_repository : IsPool pool → Sound pool book → SoundRepository (repository_of pool book)
  sound_repository is s = record {
    clauses = λ p c i.
        let w : (p < length book.rows) × In c (row_at pool (row_id book.rows p)) = clause_row p c i in
        let of : In (row_id book.rows p) book.rows = In_at book.rows p 0 w.0 in (
          row_ascending pool is (row_id book.rows p) (s.rows.of_pool (row_id book.rows p) of) c w.1,
          λ n j. subst (λ z. n < z) (sym book_size) (s.rows.numbers (row_id book.rows p) of c w.1 n j),
        );
    count = book.paired ∙ sym book_size;
    conflicts = s.conflicts;
  }

  pub tidy_repository : IsPool pool → Sound pool book → RowsTidy pool book.rows → TidyRepository (repository_of pool book)
  tidy_repository is s t = record {
    sound = sound_repository is s;
    apart = λ p c i j. let w : (p < length book.rows) × In c (row_at pool (row_id book.rows p)) = clause_row p c i in t.apart p w.0 c w.1 j;
    minimal = λ p c d i j f.
        let w : (p < length book.rows) × In c (row_at pool (row_id book.rows p)) = clause_row p c i in
        let v : (p < length book.rows) × In d (row_at pool (row_id book.rows p)) = clause_row p d j in
        t.minimal p w.0 c d w.1 v.1 f;
  }

  row_clause : (p : ℕ) → p < length book.rows → (c : List ℕ) → In c (row_at pool (row_id book.rows p)) → In c (clauses_of (repository_of pool book) p)
  row_clause p l c i = subst (λ cs. In c cs) (sym (clauses_row pool book p l)) i

  pub sound_book : IsPool pool → ((id : ℕ) → In id book.rows → id < length pool.rows) → SoundRepository (repository_of pool book) → Sound pool book
  sound_book is of s = record {
    rows = record {
      is_pool = is;
      of_pool = of;
      numbers = λ id i c j n k.
          let w : (p : ℕ) × (p < length book.rows) × (row_id book.rows p ≡ id) = In_place book.rows id 0 i in
          subst (λ z. n < z) book_size ((s.clauses w.0 c (row_clause w.0 w.1 c (subst (λ z. In c (row_at pool z)) (sym w.2) j))).1 n k);
    };
    conflicts = s.conflicts;
  }
