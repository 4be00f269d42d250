-- A solver of a book is one of each book with the same clauses, whichever packages conflict: without goals nothing follows but negative literals, and each conflict
-- asks for two positive ones.
use Rattle.std.proofs.Common.{◌≡◌, ℕ, ◌+◌, Bool, true, false, not, ◌&&◌, ◌||◌, List, [], inl, inr, length, get_or, refl, sym, ap, subst, ◌∙◌, arith}
use Rattle.std.proofs.{lemmas.Bool.{and_parts, and_from, or_cases}, lemmas.List.Elements.{All-contains, All-append, All-nil, Contains-get_or}}
use Rattle.std.specs.Prelude.{Contains}
use Rattle.listed.proofs.Lists.{contains_in, in_contains, all_at, In_append_left}
use Rattle.clause_pool.specs.Interned.{Interned}
use Rattle.row_book.specs.{Book.{listed_for, repository_of, Sound}, Lent.{repository_in}, Needs.{NeedsFit}, Repository.{Repository}, declared.book.Book.{Book}}
use Rattle.row_book.specs.declared.lent_book.LentBook.{LentBook}
use Rattle.listed.specs.Lists.{In, here, there}
use Rattle.search_terms.specs.{declared.literals.Literal.{Literal}, Closure.{literal, negation, is_same, forces, Clashes, InClosure, IsUnitClosed}}
use Rattle.search_terms.specs.{Marks.{IsWithin}, Form.{clause_sentence, conflict_sentence, owned_sentences}}
use Rattle.search_terms.proofs.{Forms.{from_owned_sentences}, Models.{same-true}, Ranges.{rows_long}, Sets.{closed_append, forces_mono}}
use Rattle.clause_solver.specs.{Engine.{whole_form}, Levels.{CalmAt, IsAt}, Levels.IsLayered.{at_root}, Marking.{set_of_trail}, Nodes.{HaveNegative}}
use Rattle.clause_solver.specs.{Solvers.{AreApart, IsReady}, declared.solver.Solver.{Solver}}
use Rattle.clause_solver.proofs.{Calm.{calm_of, closure_closed}, Preparing.{apart_of, engine_of, own_negative}, Running.{closed_part}}

-- the negative literals
abbrev negatives : Literal → Bool
negatives l = not l.positive

-- the negative literals of a set
abbrev less_positive : (Literal → Bool) → Literal → Bool
less_positive S l = S l && negatives l

-- a set of negative literals forces nothing but the one negative literal of a sentence
forced_is : (S : Literal → Bool) (p : ℕ) (l : Literal) (s : List Literal) → Contains s (literal p false) → forces (less_positive S) l s ≡ true → literal p false ≡ l
forced_is S p l s inside h =
    elim (or_cases (is_same (literal p false) l) (less_positive S (literal p true)) (all_at (λ m. is_same m l || less_positive S (negation m)) s h (literal p false) (contains_in s (literal p false) inside))) [
      | inl e ↦ same-true (literal p false) l e
      | inr t ↦ absurd (let w : (S (literal p true) ≡ true) × (false ≡ true) = and_parts (S (literal p true)) false t in cc (w.1))
    ]

within_less : (S : Literal → Bool) → IsWithin (less_positive S) S
within_less S l t = (and_parts (S l) (negatives l) t).0

-- the sentences that hold a negative literal each
clauses_closed : (own : List (List Literal)) (S : Literal → Bool) → HaveNegative own → IsUnitClosed own S → IsUnitClosed own (less_positive S)
clauses_closed own S negative closed = record {
  steps = λ k d lt i e ilt h.
      let s : List Literal = get_or own k d in
      let l : Literal = get_or s i e in
      let w = negative k d lt in
      let is : literal w.0 false ≡ l = forced_is S w.0 l s w.1 h in
      let held : S l ≡ true = closed.steps k d lt i e ilt (forces_mono (less_positive S) S l s (within_less S) h) in
      and_from (S l) (negatives l) held (ap negatives (sym is));
}

-- a conflict between two packages is never a unit step of negative literals
conflict_unforced : (S : Literal → Bool) (p q : ℕ) (l : Literal) → (p ≡ q → ⊥) → forces (less_positive S) l (conflict_sentence p q) ≡ true → ⊥
conflict_unforced S p q l apart h =
    let a = forced_is S p l (conflict_sentence p q) (in_contains (conflict_sentence p q) (literal p false) first) h in
    let b = forced_is S q l (conflict_sentence p q) (in_contains (conflict_sentence p q) (literal q false) second) h in
    apart (ap (λ m. m.class) (a ∙ sym b))
  where
    first : In (literal p false) (conflict_sentence p q)
    first = here

    second : In (literal q false) (conflict_sentence p q)
    second = there here

conflicts_closed : (conflicts : List (List ℕ)) (S : Literal → Bool) → AreApart conflicts → IsUnitClosed (owned_sentences conflict_sentence 0 conflicts) (less_positive S)
conflicts_closed conflicts S apart = record {
  steps = λ k d lt i e ilt h.
      let F : List (List Literal) = owned_sentences conflict_sentence 0 conflicts in
      let w = from_owned_sentences conflict_sentence 0 conflicts (get_or F k d) (contains_in F (get_or F k d) (Contains-get_or F k d lt)) in
      let zero_plus : 0 + w.0 ≡ w.0 = omega arith in
      absurd (conflict_unforced S (0 + w.0) w.1 (get_or (get_or F k d) i e) (λ same. apart w.0 (subst (λ q. In q (listed_for conflicts w.0)) (sym same ∙ zero_plus) w.3))
      (subst (λ s. forces (less_positive S) (get_or (get_or F k d) i e) s ≡ true) w.4 h));
}

-- every literal, and so the negative ones, are closed under the clauses
module _ (own : List (List Literal)) (negative : HaveNegative own) where
  abbrev with_conflicts : List (List ℕ) → List (List Literal)
  with_conflicts conflicts = whole_form [] own conflicts

  own_in : (conflicts : List (List ℕ)) (s : List Literal) → Contains own s → Contains (with_conflicts conflicts) s
  own_in conflicts s c = in_contains (with_conflicts conflicts) s (In_append_left own (owned_sentences conflict_sentence 0 conflicts) s (contains_in own s c))

  less_closed : (old new : List (List ℕ)) (S : Literal → Bool) → AreApart new → IsUnitClosed (with_conflicts old) S → IsUnitClosed (with_conflicts new) (less_positive S)
  less_closed old new S apart closed =
      closed_append own (owned_sentences conflict_sentence 0 new) (less_positive S)
      (clauses_closed own S negative (closed_part own (with_conflicts old) S (own_in old) closed)) (conflicts_closed new S apart)

  -- each sentence holds a negative literal
  all_negative : (conflicts : List (List ℕ)) → HaveNegative (with_conflicts conflicts)
  all_negative conflicts = All-append (λ s. (p : ℕ) × Contains s (literal p false)) own (owned_sentences conflict_sentence 0 conflicts) negative
      (λ k d lt.
      let F : List (List Literal) = owned_sentences conflict_sentence 0 conflicts in
      let w = from_owned_sentences conflict_sentence 0 conflicts (get_or F k d) (contains_in F (get_or F k d) (Contains-get_or F k d lt)) in
      (0 + w.0, subst (λ s. Contains s (literal (0 + w.0) false)) (sym w.4) (in_contains (conflict_sentence (0 + w.0) w.1) (literal (0 + w.0) false) here)))

  module _ (old new : List (List ℕ)) (apart_old : AreApart old) (apart_new : AreApart new) where
    all_closed : IsUnitClosed (with_conflicts old) (λ l. true)
    all_closed = record { steps = λ k d lt i e ilt h. refl }

    -- what follows without goals is negative
    follows_negative : (l : Literal) → InClosure (with_conflicts old) [] l → negatives l ≡ true
    follows_negative l follows = follows (less_positive (λ m. true)) (All-nil (λ m. less_positive (λ k. true) m ≡ true)) (less_closed old old (λ m. true) apart_old all_closed)

    no_clash : Clashes (with_conflicts old) [] → ⊥
    no_clash clash = elim clash [
      | inl both ↦ opposite both.0.positive (follows_negative both.0 both.1) (follows_negative (negation both.0) both.2)
      | inr some ↦
          let there_is : Contains (with_conflicts old) some.1 = (some.0, some.2, some.3) in
          let w = All-contains (λ s. (p : ℕ) × Contains s (literal p false)) (with_conflicts old) some.1 (all_negative old) there_is in
          let t : false ≡ true = follows_negative (literal w.0 true) (All-contains (λ m. InClosure (with_conflicts old) [] (negation m)) some.1 (literal w.0 false) some.4 w.1) in
          cc t
    ]
      where
        opposite : (b : Bool) → not b ≡ true → not (not b) ≡ true → ⊥
        opposite true h k = cc h
        opposite false h k = cc k

    calm_new : (trail : List Literal) → CalmAt (with_conflicts old) [] trail → CalmAt (with_conflicts new) [] trail
    calm_new trail calm = record {
      closure = record {
        sound = λ l t S holds closed. within_less S l (calm.closure.sound l t (less_positive S) (All-nil (λ m. less_positive S m ≡ true)) (less_closed new old S apart_old closed));
        whole = λ l follows. within_less (set_of_trail trail) l
            (follows (less_positive (set_of_trail trail)) (All-nil (λ m. less_positive (set_of_trail trail) m ≡ true)) (less_closed old new (set_of_trail trail) apart_new (closure_closed (with_conflicts old) [] (set_of_trail trail) calm.closure)));
      };
      consistent = calm.consistent;
    }

    at_new : (dead : Bool) (trail : List Literal) → IsAt dead (with_conflicts old) [] [] trail → IsAt dead (with_conflicts new) [] [] trail
    at_new true trail w = absurd (no_clash w.0)
    at_new false trail w = at_root refl (calm_new trail (calm_of (with_conflicts old) [] [] trail w))

-- so the solver of a book is one of each other book with the same clauses
pub ready_for : (pool : Interned) (book : Book) (R : Repository) (solver : Solver) → Sound pool book → AreApart R.conflicts → (repository_of pool book).clauses ≡ R.clauses → IsReady R solver → IsReady (repository_of pool book) solver
ready_for pool book R solver sound apart same ready =
    let own : List (List Literal) = solver.own.items in
    let size : solver.classes ≡ length (repository_of pool book).clauses = ready.size ∙ ap length (sym same) in
    let sentences : own ≡ owned_sentences clause_sentence 0 (repository_of pool book).clauses = ready.sentences ∙ ap (owned_sentences clause_sentence 0) (sym same) in
    record {
      size = size;
      sentences = sentences;
      engine = engine_of pool book.rows book.conflicts solver.classes own solver.uses.items sound.rows sound.conflicts book.paired (size ∙ rows_long pool book.rows) sentences ready.engine.table;
      trail = ready.trail;
      base = at_new own (own_negative R.clauses own ready.sentences) R.conflicts book.conflicts apart (apart_of book.conflicts sound.conflicts) solver.dead solver.base.1 ready.base;
    }

pub ready_in : (own asked : LentBook) (R : Repository) (solver : Solver) → repository_in own ≡ R → (repository_in asked).clauses ≡ R.clauses → IsReady (repository_in own) solver → IsReady (repository_in asked) solver
ready_in own asked R solver is same ready =
    ready_for asked.pool.now asked.book.now (repository_in own) solver asked.sound (apart_of own.book.now.conflicts own.sound.conflicts) (same ∙ ap (λ S. S.clauses) (sym is)) ready

-- and goals that fit the clauses fit that book
pub fit_in : (asked : LentBook) (R : Repository) (goals : List (List ℕ)) → (repository_in asked).clauses ≡ R.clauses → NeedsFit (length R.clauses) goals → NeedsFit (length asked.book.now.rows) goals
fit_in asked R goals same fit = subst (λ n. NeedsFit n goals) (sym (ap length same) ∙ rows_long asked.pool.now asked.book.now.rows) fit

pub fit_clauses : (pool : Interned) (book : Book) (R : Repository) (goals : List (List ℕ)) → R ≡ repository_of pool book → NeedsFit (length book.rows) goals → NeedsFit (length R.clauses) goals
fit_clauses pool book R goals is fit = subst (λ n. NeedsFit n goals) (sym (ap (λ S. length S.clauses) is ∙ rows_long pool book.rows)) fit
