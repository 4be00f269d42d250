-- The sentences of a formula, and its models.
use Rattle.std.proofs.Common.{◌≡◌, ℕ, zero, suc, ◌+◌, ◌<◌, Bool, true, false, not, ◌||◌, List, [], ◌∷◌, inl, inr, length, get_or, refl, ap, sym, ◌∙◌, subst}
use Rattle.std.proofs.{Common.{arith}, lemmas.Bool.{cases_Bool, or_cases, or_left, or_right, both_ways, not-true, not_from_false, false_from_ne_true}}
use Rattle.std.proofs.lemmas.List.Elements.{All-contains}
use Rattle.std.specs.{Prelude.{map}, List.{list_any}}
use Rattle.listed.proofs.Lists.{in_contains, In_none, In_at, any_from, In_has, has_In}
use Rattle.listed.specs.Lists.{In}
use Rattle.row_book.specs.{Sets.{NumSet, Is, Hit, HitsAll}, Repository.{Repository, Healthy, clauses_of, conflicts_of, against}}
use Rattle.row_book.proofs.Lists.{hit_any, any_hit}
pub use Rattle.listed.proofs.Lists.{In_append_left as in_left, In_append_right as in_right, In_append_cases as in_either, In_map as in_map, In_map_cases as from_map}
use Rattle.search_terms.specs.{declared.literals.Literal.{Literal}, Closure.{satisfies, Models}}
use Rattle.search_terms.specs.Form.{goal_sentence, clause_sentence, conflict_sentence, owned_sentences, repository_form, form}

-- the sentence of an item of a list
pub in_owned_sentences : {X : Type 0} (f : ℕ → X → List Literal) (k : ℕ) (lists : List (List X)) (i : ℕ) (x : X) → In x (get_or lists i []) → In (f (k + i) x) (owned_sentences f k lists)
in_owned_sentences f k [] i x h = absurd (In_none h)
in_owned_sentences f k (xs ∷ rest) zero x h =
    let e : k + 0 ≡ k = omega arith in
    in_left (map (f k) xs) (owned_sentences f (suc k) rest) (f (k + 0) x) (rw e (in_map (f k) xs x h))
in_owned_sentences f k (xs ∷ rest) (suc i) x h =
    let e : suc k + i ≡ k + suc i = omega arith in
    in_right (map (f k) xs) (owned_sentences f (suc k) rest) (f (k + suc i) x) (subst (λ n. In (f n x) (owned_sentences f (suc k) rest)) e (in_owned_sentences f (suc k) rest i x h))

pub from_owned_sentences : {X : Type 0} (f : ℕ → X → List Literal) (k : ℕ) (lists : List (List X)) (s : List Literal) → In s (owned_sentences f k lists)
    → (i : ℕ) × (x : X) × (i < length lists) × In x (get_or lists i []) × (s ≡ f (k + i) x)
from_owned_sentences f k [] s h = absurd (In_none h)
from_owned_sentences f k (xs ∷ rest) s h = elim (in_either (map (f k) xs) (owned_sentences f (suc k) rest) s h) [
  | inl a ↦
      let w = from_map (f k) xs s a in
      let e : k ≡ k + 0 = omega arith in
      (0, w.0, omega arith, w.1, w.2 ∙ ap (λ n. f n w.0) e)
  | inr b ↦
      let w = from_owned_sentences f (suc k) rest s b in
      let lt : w.0 < length rest = w.2 in
      let e : suc k + w.0 ≡ k + suc w.0 = omega arith in
      (suc w.0, w.1, omega arith, w.3, w.4 ∙ ap (λ n. f n w.1) e)
]

-- what a sentence of the formula is
pub data IsSentence (R : Repository) (goals : List (List ℕ)) (s : List Literal) : Type 0 where
  of_goal : (g : List ℕ) → In g goals → s ≡ goal_sentence g → IsSentence R goals s
  of_clause : (p : ℕ) (c : List ℕ) → p < length R.clauses → In c (clauses_of R p) → s ≡ clause_sentence p c → IsSentence R goals s
  of_conflict : (p q : ℕ) → In q (conflicts_of R p) → s ≡ conflict_sentence p q → IsSentence R goals s

at_zero : (i : ℕ) → 0 + i ≡ i
at_zero i = omega arith

pub sentence_cases : (R : Repository) (goals : List (List ℕ)) (s : List Literal) → In s (form R goals) → IsSentence R goals s
sentence_cases R goals s h = elim (in_either (map goal_sentence goals) (repository_form R) s h) [
  | inl a ↦ let w = from_map goal_sentence goals s a in of_goal w.0 w.1 w.2
  | inr b ↦ elim (in_either (owned_sentences clause_sentence 0 R.clauses) (owned_sentences conflict_sentence 0 R.conflicts) s b) [
    | inl c ↦ let w = from_owned_sentences clause_sentence 0 R.clauses s c in of_clause w.0 w.1 w.2 w.3 (w.4 ∙ ap (λ n. clause_sentence n w.1) (at_zero w.0))
    | inr c ↦ let w = from_owned_sentences conflict_sentence 0 R.conflicts s c in of_conflict w.0 w.1 w.3 (w.4 ∙ ap (λ n. conflict_sentence n w.1) (at_zero w.0))
  ]
]

pub goal_in : (R : Repository) (goals : List (List ℕ)) (g : List ℕ) → In g goals → In (goal_sentence g) (form R goals)
goal_in R goals g h = in_left (map goal_sentence goals) (repository_form R) (goal_sentence g) (in_map goal_sentence goals g h)

pub clause_in : (R : Repository) (goals : List (List ℕ)) (p : ℕ) (c : List ℕ) → In c (clauses_of R p) → In (clause_sentence p c) (form R goals)
clause_in R goals p c h =
    in_right (map goal_sentence goals) (repository_form R) (clause_sentence p c)
    (in_left (owned_sentences clause_sentence 0 R.clauses) (owned_sentences conflict_sentence 0 R.conflicts) (clause_sentence p c)
    (subst (λ n. In (clause_sentence n c) (owned_sentences clause_sentence 0 R.clauses)) (at_zero p) (in_owned_sentences clause_sentence 0 R.clauses p c h)))

pub conflict_in : (R : Repository) (goals : List (List ℕ)) (p q : ℕ) → In q (conflicts_of R p) → In (conflict_sentence p q) (form R goals)
conflict_in R goals p q h =
    in_right (map goal_sentence goals) (repository_form R) (conflict_sentence p q)
    (in_right (owned_sentences clause_sentence 0 R.clauses) (owned_sentences conflict_sentence 0 R.conflicts) (conflict_sentence p q)
    (subst (λ n. In (conflict_sentence n q) (owned_sentences conflict_sentence 0 R.conflicts)) (at_zero p) (in_owned_sentences conflict_sentence 0 R.conflicts p q h)))

abbrev True : NumSet → List Literal → Type 0
True v sentence = list_any (satisfies v) sentence ≡ true

pub goal_is : (v : NumSet) (d : List ℕ) → list_any (satisfies v) (goal_sentence d) ≡ list_any v d
goal_is v [] = refl
goal_is v (c ∷ d) = ap (λ b. v c || b) (goal_is v d)

clause_true : (v : NumSet) (c : ℕ) (d : List ℕ) → True v (clause_sentence c d) → v c ≡ true → list_any v d ≡ true
clause_true v c d h k = elim (or_cases (not (v c)) (list_any (satisfies v) (goal_sentence d)) h) [
  | inl f ↦ absurd (both_ways (v c) (not-true (v c) f) k)
  | inr t ↦ sym (goal_is v d) ∙ t
]

clause_from : (v : NumSet) (c : ℕ) (d : List ℕ) → (v c ≡ true → list_any v d ≡ true) → True v (clause_sentence c d)
clause_from v c d h = elim (cases_Bool (v c)) [
  | inl t ↦ or_right (not (v c)) (list_any (satisfies v) (goal_sentence d)) (goal_is v d ∙ h t)
  | inr f ↦ or_left (not (v c)) (list_any (satisfies v) (goal_sentence d)) (not_from_false (v c) f)
]

pair_to : (a b : Bool) → (not a || (not b || false)) ≡ true → a ≡ true → b ≡ true → ⊥
pair_to true true h k m = cc
pair_to true false h k m = cc
pair_to false b h k m = cc

pair_from : (a b : Bool) → (a ≡ true → b ≡ true → ⊥) → (not a || (not b || false)) ≡ true
pair_from true true h = absurd (h refl refl)
pair_from true false h = refl
pair_from false b h = refl

-- models, by elements
pub model_at : (v : NumSet) (F : List (List Literal)) → Models v F → (s : List Literal) → In s F → True v s
model_at v F h s i = All-contains (True v) F s h (in_contains F s i)

pub model_from : (v : NumSet) (F : List (List Literal)) → ((s : List Literal) → In s F → True v s) → Models v F
model_from v F h = λ k d lt. h (get_or F k d) (In_at F k d lt)

pub models_to : (R : Repository) (goals : List (List ℕ)) (I : NumSet) → ((n : ℕ) → Is I n → n < length R.clauses) → Models I (form R goals) → Healthy R I × HitsAll I goals
models_to R goals I bound h = (
  record {
    packages = bound;
    abundance = λ n i c j. hit_any I c (clause_true I n c (model_at I (form R goals) h (clause_sentence n c) (clause_in R goals n c j)) i);
    peace = λ m n a b. false_from_ne_true (against R m n) (λ t.
        pair_to (I m) (I n) (model_at I (form R goals) h (conflict_sentence m n) (conflict_in R goals m n (has_In (conflicts_of R m) n t))) a b);
  },
  (λ g i. hit_any I g (sym (goal_is I g) ∙ model_at I (form R goals) h (goal_sentence g) (goal_in R goals g i))),
)

sentence_true : (R : Repository) (goals : List (List ℕ)) (I : NumSet) → Healthy R I → HitsAll I goals → (s : List Literal) → IsSentence R goals s → True I s
sentence_true R goals I healthy hits s (of_goal g i e) = rw e (goal_is I g ∙ any_hit I g (hits g i))
sentence_true R goals I healthy hits s (of_clause p c lt i e) = rw e (clause_from I p c (λ t. any_hit I c (healthy.abundance p t c i)))
sentence_true R goals I healthy hits s (of_conflict p q i e) = rw e (pair_from (I p) (I q) (λ a b. both_ways (against R p q) (healthy.peace p q a b) (In_has i)))

pub models_from : (R : Repository) (goals : List (List ℕ)) (I : NumSet) → Healthy R I → HitsAll I goals → Models I (form R goals)
models_from R goals I healthy hits = model_from I (form R goals) (λ s i. sentence_true R goals I healthy hits s (sentence_cases R goals s i))
