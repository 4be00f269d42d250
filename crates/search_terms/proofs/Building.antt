-- Sentences, as they are made.
use Rattle.std.proofs.Common.{◌≡◌, ℕ, zero, suc, ◌+◌, ◌<◌, ◌≤◌, List, [], ◌∷◌, ◌++◌, length, get_or, take, refl, ap, sym, ◌∙◌, arith, append_assoc, append-nil}
use Rattle.std.proofs.lemmas.List.{take_more}
use Rattle.std.specs.Prelude.{map}
use Rattle.clause_pool.specs.Interned.{Interned, row_at, clauses_at, ids_at}
use Rattle.search_terms.specs.{declared.literals.Literal.{Literal}, Form.{owned_sentences, goal_sentence, clause_sentence}}

pub owned_sentences_snoc : {X : Type 0} (f : ℕ → X → List Literal) (k : ℕ) (xs : List (List X)) (y : List X) → owned_sentences f k (xs ++ y ∷ []) ≡ owned_sentences f k xs ++ map (f (k + length xs)) y
owned_sentences_snoc f k [] y = append-nil (map (f k) y) ∙ ap (λ n. map (f n) y) (zero_right k)
  where
    zero_right : (k : ℕ) → k ≡ k + 0
    zero_right k = omega arith
owned_sentences_snoc f k (x ∷ xs) y =
    ap (λ z. map (f k) x ++ z) (owned_sentences_snoc f (suc k) xs y) ∙ sym (append_assoc (map (f k) x) (owned_sentences f (suc k) xs) (map (f (suc k + length xs)) y))
    ∙ ap (λ n. (map (f k) x ++ owned_sentences f (suc k) xs) ++ map (f n) y) (shift k (length xs) (length (x ∷ xs)) (one_more x xs))
  where
    one_more : {A : Type 0} (x : A) (xs : List A) → length (x ∷ xs) ≡ length xs + 1
    one_more x xs = omega arith

    shift : (k m n : ℕ) → n ≡ m + 1 → suc k + m ≡ k + n
    shift k m n e = omega arith

take_snoc : {X : Type 0} (xs : List X) (i : ℕ) (x : X) → i < length xs → x ≡ get_or xs i x → take (i + 1) xs ≡ take i xs ++ x ∷ []
take_snoc xs i x lt e = take_more xs i x lt ∙ ap (λ z. take i xs ++ z ∷ []) (sym e)

map_snoc : {X Y : Type 0} (f : X → Y) (xs : List X) (x : X) → map f (xs ++ x ∷ []) ≡ map f xs ++ f x ∷ []
map_snoc f [] x = refl
map_snoc f (y ∷ xs) x = ap (λ z. f y ∷ z) (map_snoc f xs x)

length_take : {X Y : Type 0} (f : X → Y) (xs : List X) (i : ℕ) → i ≤ length xs → length (map f (take i xs)) ≡ i
length_take f xs zero le = refl
length_take f [] (suc i) le = absurd (omega arith)
length_take f (x ∷ xs) (suc i) le = let e = length_take f xs i (omega arith) in omega (arith, e)

-- the sentences of one more row
pub rows_more : (pool : Interned) (rows ids : List ℕ) (p row : ℕ) (old new : List (List Literal)) → p < length rows → row ≡ get_or rows p row → ids ≡ ids_at pool row
    → old ≡ owned_sentences clause_sentence 0 (map (row_at pool) (take p rows)) → new ≡ old ++ map (clause_sentence p) (clauses_at pool ids)
    → new ≡ owned_sentences clause_sentence 0 (map (row_at pool) (take (p + 1) rows))
rows_more pool rows ids p row old new lt is lent before e =
    e ∙ ap (λ z. z ++ map (clause_sentence p) (clauses_at pool ids)) before
    ∙ ap (λ z. owned_sentences clause_sentence 0 (map (row_at pool) (take p rows)) ++ map (clause_sentence p) (clauses_at pool z)) lent
    ∙ ap (λ n. owned_sentences clause_sentence 0 (map (row_at pool) (take p rows)) ++ map (clause_sentence n) (row_at pool row)) (sym (length_take (row_at pool) rows p (omega arith)) ∙ sym (at_zero (length (map (row_at pool) (take p rows)))))
    ∙ sym (owned_sentences_snoc clause_sentence 0 (map (row_at pool) (take p rows)) (row_at pool row))
    ∙ ap (owned_sentences clause_sentence 0) (sym (map_snoc (row_at pool) (take p rows) row) ∙ ap (map (row_at pool)) (sym (take_snoc rows p row lt is)))
  where
    at_zero : (n : ℕ) → 0 + n ≡ n
    at_zero n = omega arith

-- the sentence of one more goal
pub goals_more : (goals : List (List ℕ)) (i : ℕ) (goal : List ℕ) (old new : List (List Literal)) → i < length goals → goal ≡ get_or goals i []
    → old ≡ map goal_sentence (take i goals) → new ≡ old ++ goal_sentence goal ∷ [] → new ≡ map goal_sentence (take (i + 1) goals)
goals_more goals i goal old new lt is before e =
    e ∙ ap (λ z. z ++ goal_sentence goal ∷ []) before ∙ sym (map_snoc goal_sentence (take i goals) goal)
    ∙ ap (map goal_sentence) (ap (λ z. take i goals ++ z ∷ []) is ∙ sym (take_more goals i [] lt))

pub length_taken : {X : Type 0} (xs : List X) (i : ℕ) → i ≤ length xs → length (take i xs) ≡ i
length_taken xs zero le = refl
length_taken [] (suc i) le = absurd (omega arith)
length_taken (x ∷ xs) (suc i) le = let e = length_taken xs i (omega arith) in omega (arith, e)
