-- The classes in the sentences of a book and of goals are below the size of the book.
use Rattle.std.proofs.Common.{◌≡◌, ℕ, zero, suc, ◌+◌, ◌<◌, true, false, List, [], ◌∷◌, length, get_or, refl, arith, inl, inr, subst}
use Rattle.std.proofs.{Math.ListN.{get_or-eq_default}, lemmas.Bool.{cases_lt}, lemmas.List.Elements.{Contains-append_right, All-nil, All-cons, Contains-get_or}}
use Rattle.std.specs.Prelude.{All, Contains, map}
use Rattle.listed.proofs.Lists.{contains_in, in_contains, In_none, In_has, has_In}
use Rattle.clause_pool.specs.Interned.{Interned, row_at}
use Rattle.listed.specs.Lists.{In, here}
use Rattle.row_book.specs.{Book.{listed_for, Sound, AreConflicts, RowsFit, repository_of}, Needs.{NeedsFit}, declared.book.Book.{Book}}
use Rattle.search_terms.specs.{declared.literals.Literal.{Literal}, Closure.{literal, InRange}, Form.{goal_sentence, clause_sentence, owned_sentences, form}}
use Rattle.search_terms.proofs.{Forms.{from_map, from_owned_sentences, IsSentence, sentence_cases}, Forms.IsSentence.{of_goal, of_clause, of_conflict}}

-- what stands in a row of the book stands in a row of the pool
row_of : {X : Type 0} (f : ℕ → List X) (rows : List ℕ) (i : ℕ) (x : X) → In x (get_or (map f rows) i []) → (id : ℕ) × In id rows × In x (f id)
row_of f [] i x h = absurd (In_none h)
row_of f (r ∷ rows) zero x h = (r, here, h)
row_of f (r ∷ rows) (suc i) x h = let w = row_of f rows i x h in (w.0, in_more r rows w.0 w.1, w.2)
  where
    in_more : (r : ℕ) (rows : List ℕ) (id : ℕ) → In id rows → In id (r ∷ rows)
    in_more r rows id i = contains_in (r ∷ rows) id (Contains-append_right (r ∷ []) rows id (in_contains rows id i))

-- as many rows as ids
length_map : {X Y : Type 0} (f : X → Y) (xs : List X) → length (map f xs) ≡ length xs
length_map f [] = refl
length_map f (x ∷ xs) = let e = length_map f xs in omega (arith, e)

-- the members of a clause
pub members_ranged : (n : ℕ) (c : List ℕ) → ((m : ℕ) → In m c → m < n) → All (λ l. l.class < n) (goal_sentence c)
members_ranged n c h = λ k d lt.
    let w = from_map (λ m. literal m true) c (get_or (goal_sentence c) k d) (contains_in (goal_sentence c) (get_or (goal_sentence c) k d) (Contains-get_or (goal_sentence c) k d lt)) in
    rw w.2 (h w.0 w.1)

-- the sentences of clauses
pub own_ranged : (pool : Interned) (rows : List ℕ) (n : ℕ) (own : List (List Literal)) → RowsFit pool rows → n ≡ length rows → own ≡ owned_sentences clause_sentence 0 (map (row_at pool) rows) → InRange n own
own_ranged pool rows n own fit size e = rw e (λ k d lt. one (get_or (owned_sentences clause_sentence 0 (map (row_at pool) rows)) k d) (Contains-get_or (owned_sentences clause_sentence 0 (map (row_at pool) rows)) k d lt))
  where
    one : (s : List Literal) → Contains (owned_sentences clause_sentence 0 (map (row_at pool) rows)) s → All (λ l. l.class < n) s
    one s c =
        let w = from_owned_sentences clause_sentence 0 (map (row_at pool) rows) s (contains_in (owned_sentences clause_sentence 0 (map (row_at pool) rows)) s c) in
        let r = row_of (row_at pool) rows w.0 w.1 w.3 in
        let lt : w.0 < length rows = rw length_map at w.2 in
        rw (w.4, size) (All-cons (λ l. l.class < length rows) (literal (0 + w.0) false) (goal_sentence w.1) (omega (arith, lt)) (members_ranged (length rows) w.1 (fit.numbers r.0 r.1 w.1 r.2)))

-- a class with conflicts has a list of them
pub listed_in : (conflicts : List (List ℕ)) (p q : ℕ) → In q (listed_for conflicts p) → p < length conflicts
listed_in conflicts p q i = elim (cases_lt p (length conflicts)) [
  | inl lt ↦ lt
  | inr ge ↦ absurd (In_none (subst (λ z. In q z) (get_or-eq_default conflicts [] ge) i))
]

-- conflicts stand on both sides
pub other_way : (conflicts : List (List ℕ)) → AreConflicts conflicts → (p q : ℕ) → In q (listed_for conflicts p) → In p (listed_for conflicts q)
other_way conflicts sound p q i = has_In (listed_for conflicts q) p (sound.either_way p q (In_has i))

-- the sentences of goals
pub goals_ranged : (n : ℕ) (goals : List (List ℕ)) → NeedsFit n goals → InRange n (map goal_sentence goals)
goals_ranged n goals fit = λ k d lt.
    let w = from_map goal_sentence goals (get_or (map goal_sentence goals) k d) (contains_in (map goal_sentence goals) (get_or (map goal_sentence goals) k d) (Contains-get_or (map goal_sentence goals) k d lt)) in
    rw w.2 (members_ranged n w.0 (fit w.0 w.1))

-- the whole formula of a sound book
pub form_ranged : (pool : Interned) (book : Book) (goals : List (List ℕ)) → Sound pool book → length book.conflicts ≡ length book.rows → NeedsFit (length book.rows) goals → InRange (length book.rows) (form (repository_of pool book) goals)
form_ranged pool book goals sound paired fit = λ k d lt.
    one (get_or (form (repository_of pool book) goals) k d)
    (sentence_cases (repository_of pool book) goals (get_or (form (repository_of pool book) goals) k d)
    (contains_in (form (repository_of pool book) goals) (get_or (form (repository_of pool book) goals) k d) (Contains-get_or (form (repository_of pool book) goals) k d lt)))
  where
    below : (p q : ℕ) → In q (listed_for book.conflicts p) → p < length book.rows
    below p q i = rw paired at (listed_in book.conflicts p q i)

    one : (s : List Literal) → IsSentence (repository_of pool book) goals s → All (λ l. l.class < length book.rows) s
    one s (of_goal g i e) = rw e (members_ranged (length book.rows) g (fit g i))
    one s (of_clause p c lt i e) =
        let r = row_of (row_at pool) book.rows p c i in
        let plt : p < length book.rows = rw length_map at lt in
        rw e (All-cons (λ l. l.class < length book.rows) (literal p false) (goal_sentence c) plt (members_ranged (length book.rows) c (sound.rows.numbers r.0 r.1 c r.2)))
    one s (of_conflict p q i e) =
        rw e (All-cons (λ l. l.class < length book.rows) (literal p false) (literal q false ∷ []) (below p q i)
        (All-cons (λ l. l.class < length book.rows) (literal q false) [] (below q p (other_way book.conflicts sound.conflicts p q i)) (All-nil (λ l. l.class < length book.rows))))

-- as many rows as the book has
pub rows_long : (pool : Interned) (rows : List ℕ) → length (map (row_at pool) rows) ≡ length rows
rows_long pool rows = length_map (row_at pool) rows
