-- What a solver of a sound book holds, and what an answer tells by itself.
use Rattle.std.proofs.Common.{◌≡◌, ℕ, ◌+◌, ◌<◌, ◌≤◌, ◌^◌, Bool, true, false, List, [], ◌∷◌, length, get_or, refl, ap, sym, ◌∙◌, arith, inl, inr, subst, Some}
use Rattle.std.proofs.{lemmas.Bool.{both_ways}, lemmas.List.{get_or_default}, lemmas.List.Elements.{All-nil, All-weaker, Contains-get_or}}
use Rattle.std.specs.Prelude.{All, Contains, map}
use Rattle.listed.proofs.Lists.{contains_in, In_has}
use Rattle.clause_pool.specs.Interned.{Interned, row_at}
use Rattle.listed.specs.Lists.{In, has}
use Rattle.row_book.specs.{Repository.{Repository}, Book.{listed_for, Sound, AreConflicts, RowsFit, repository_of}, Needs.{AreNeeds, NeedsFit}}
use Rattle.row_book.specs.declared.book.Book.{Book}
use Rattle.search_terms.specs.{declared.literals.Literal.{Literal}, Closure.{literal, negation, InRange, Clashes, InClosure}}
use Rattle.search_terms.specs.{Form.{goal_sentence, clause_sentence, owned_sentences, form}, Tree.{Tree, IsTree, failed_leaves, log_of}, Marks.{true_classes}}
use Rattle.search_terms.specs.declared.literals.Log.{Log}
use Rattle.search_terms.proofs.{Sets.{Contains-head}, Exists.{tree_exists, fails_whole, log_ranged}, Certificates.{tree_derives}}
use Rattle.search_terms.proofs.{Found.{finds_healthy, found_long, derives_no_solution}, Forms.{from_map, from_owned_sentences}}
use Rattle.search_terms.proofs.Ranges.{own_ranged, goals_ranged, listed_in, other_way, form_ranged, rows_long}
use Rattle.clause_solver.specs.{declared.outcomes.Verdict.{Verdict}, declared.outcomes.Verdict.TheVariants.{Yes, No}, declared.outcomes.Outcome.{Outcome}}
use Rattle.clause_solver.specs.{declared.outcomes.Outcome.TheVariants.{Found, Refuted, Spent}, Engine.{whole_form, IsTable, ConflictsFit, IsEngine}}
use Rattle.clause_solver.specs.{declared.table.Use.{Use}, Nodes.{AreFull, ArePositive, HaveNegative}, Solvers.{AreApart}, Marking.{set_of_trail}}
use Rattle.clause_solver.specs.{Verdicts.{IsSearchVerdict, Ends, EndsSearch}, Outcomes.{IsOutcomeOf, IsSearchOutcome, IsCertified, IsDecided}}
use Rattle.clause_solver.proofs.{Running.{closed_part}, Walking.{verdict_by}}

pub own_negative : (clauses : List (List (List ℕ))) (own : List (List Literal)) → own ≡ owned_sentences clause_sentence 0 clauses → HaveNegative own
own_negative clauses own e = rw e (λ k d lt. one (get_or (owned_sentences clause_sentence 0 clauses) k d) (Contains-get_or (owned_sentences clause_sentence 0 clauses) k d lt))
  where
    one : (s : List Literal) → Contains (owned_sentences clause_sentence 0 clauses) s → (p : ℕ) × Contains s (literal p false)
    one s c =
        let w = from_owned_sentences clause_sentence 0 clauses s (contains_in (owned_sentences clause_sentence 0 clauses) s c) in
        (0 + w.0, subst (λ z. Contains z (literal (0 + w.0) false)) (sym w.4) (Contains-head (literal (0 + w.0) false) (goal_sentence w.1)))

pub conflicts_fit : (n : ℕ) (conflicts : List (List ℕ)) → AreConflicts conflicts → length conflicts ≡ n → ConflictsFit n conflicts
conflicts_fit n conflicts sound long = record {
  long = long;
  ranged = λ p d plt. λ k e klt.
      let q = get_or (get_or conflicts p d) k e in
      let i : In q (get_or conflicts p d) = contains_in (get_or conflicts p d) q (Contains-get_or (get_or conflicts p d) k e klt) in
      let listed : In q (listed_for conflicts p) = subst (λ z. In q z) (get_or_default conflicts p d [] plt) i in
      rw long at (listed_in conflicts q p (way p q listed));
  either_way = way;
}
  where
    way : (p q : ℕ) → In q (listed_for conflicts p) → In p (listed_for conflicts q)
    way = other_way conflicts sound

pub apart_of : (conflicts : List (List ℕ)) → AreConflicts conflicts → AreApart conflicts
apart_of conflicts sound p i = both_ways (has (listed_for conflicts p) p) (sound.apart p) (In_has i)

pub engine_of : (pool : Interned) (rows : List ℕ) (conflicts : List (List ℕ)) (n : ℕ) (own : List (List Literal)) (uses : List (List Use)) → RowsFit pool rows → AreConflicts conflicts → length conflicts ≡ length rows → n ≡ length rows
    → own ≡ owned_sentences clause_sentence 0 (map (row_at pool) rows) → IsTable n uses own → IsEngine n [] own uses conflicts
engine_of pool rows conflicts n own uses fit sound paired size e table = record {
  goals_ranged = All-nil (λ s. All (λ l. l.class < n) s);
  own_ranged = own_ranged pool rows n own fit size e;
  table = table;
  fit = conflicts_fit n conflicts sound (paired ∙ sym size);
}

-- a sentence of a need has a member
pub goals_full : (goals : List (List ℕ)) → AreNeeds goals → AreFull (map goal_sentence goals)
goals_full goals needs = λ k d lt.
    let w = from_map goal_sentence goals (get_or (map goal_sentence goals) k d) (contains_in (map goal_sentence goals) (get_or (map goal_sentence goals) k d) (Contains-get_or (map goal_sentence goals) k d lt)) in
    rw w.2 (first_member w.0 (needs w.0 w.1).filled)
  where
    first_member : (g : List ℕ) → 0 < length g → (l : Literal) × Contains (goal_sentence g) l
    first_member [] lt = absurd (omega arith)
    first_member (c ∷ g) lt = (literal c true, Contains-head (literal c true) (goal_sentence g))

-- and no negative literal
pub goals_positive : (goals : List (List ℕ)) → ArePositive (map goal_sentence goals)
goals_positive goals = λ k d lt.
    let w = from_map goal_sentence goals (get_or (map goal_sentence goals) k d) (contains_in (map goal_sentence goals) (get_or (map goal_sentence goals) k d) (Contains-get_or (map goal_sentence goals) k d lt)) in
    rw w.2 (members_positive w.0)
  where
    members_positive : (g : List ℕ) → All (λ l. l.positive ≡ true) (goal_sentence g)
    members_positive g = λ k d lt.
        let w = from_map (λ c. literal c true) g (get_or (goal_sentence g) k d) (contains_in (goal_sentence g) (get_or (goal_sentence g) k d) (Contains-get_or (goal_sentence g) k d lt)) in
        ap (λ l. l.positive) w.2

pub engine_goals : (n m : ℕ) (goals : List (List ℕ)) (wanted own : List (List Literal)) (uses : List (List Use)) (conflicts : List (List ℕ)) → wanted ≡ map goal_sentence goals → n ≡ m → NeedsFit m goals → IsEngine n [] own uses conflicts → IsEngine n wanted own uses conflicts
engine_goals n m goals wanted own uses conflicts e size are engine = record {
  goals_ranged = rw (e, size) (goals_ranged m goals are);
  own_ranged = engine.own_ranged;
  table = engine.table;
  fit = engine.fit;
}

-- what clashes still does with more sentences
pub clash_part : (P Q : List (List Literal)) (given : List Literal) → ((s : List Literal) → Contains P s → Contains Q s) → Clashes P given → Clashes Q given
clash_part P Q given sub clash = elim clash [
  | inl both ↦ inl (both.0, more both.0 both.1, more (negation both.0) both.2)
  | inr some ↦
      let at = sub some.1 (some.0, some.2, some.3) in
      inr (at.0, some.1, at.1, at.2, All-weaker (λ m. InClosure P given (negation m)) (λ m. InClosure Q given (negation m)) (λ m h. more (negation m) h) some.1 some.4)
]
  where
    more : (l : Literal) → InClosure P given l → InClosure Q given l
    more l h = λ s holds closed. h s holds (closed_part P Q s sub closed)

-- what an answer of the tree tells by itself
certified_by : (R : Repository) (goals : List (List ℕ)) (budget : ℕ) (tree : Tree) (outcome : Outcome) → InRange (length R.clauses) (form R goals) → IsTree (length R.clauses) (form R goals) [] tree
    → IsOutcomeOf budget tree outcome → IsCertified R goals outcome
certified_by R goals budget tree (Found chosen) range is a = (found_long (length R.clauses) (form R goals) [] tree chosen is a.0, (finds_healthy R goals tree range is).1 chosen a.0)
certified_by R goals budget tree (Refuted log) range is a =
    let derives = tree_derives (length R.clauses) (form R goals) tree is a.0 in
    rw a.2 (log_ranged (length R.clauses) (form R goals) [] tree range is (All-nil (λ l. l.class < length R.clauses)), derives, derives_no_solution R goals (log_of [] tree) derives)
certified_by R goals budget tree (Spent failed) range is a = tt

decided_by : (budget n : ℕ) (tree : Tree) (outcome : Outcome) → failed_leaves tree ≤ 2 ^ n → 2 ^ n ≤ budget → IsOutcomeOf budget tree outcome → IsDecided outcome
decided_by budget n tree (Found chosen) few enough a = tt
decided_by budget n tree (Refuted log) few enough a = tt
decided_by budget n tree (Spent failed) few enough a = let more = a.0 in omega (arith, few, enough, more)

-- the formula of a sound book and fitting goals
module _ (pool : Interned) (book : Book) (goals : List (List ℕ)) (sound : Sound pool book) (paired : length book.conflicts ≡ length book.rows) (fit : NeedsFit (length book.rows) goals) where
  pub range : InRange (length (repository_of pool book).clauses) (form (repository_of pool book) goals)
  range = rw (rows_long pool book.rows) (form_ranged pool book goals sound paired fit)

  -- the walk over the sentences that the solver holds is that of the formula
  pub search_end : (keeps : Bool) (budget n : ℕ) (wanted own : List (List Literal)) (conflicts : List (List ℕ)) (verdict : Verdict) (trail : List Literal) (log : List (List Literal))
      → n ≡ length (repository_of pool book).clauses → wanted ≡ map goal_sentence goals → own ≡ owned_sentences clause_sentence 0 (repository_of pool book).clauses → conflicts ≡ book.conflicts
      → ((tree : Tree) → IsTree n (whole_form wanted own conflicts) [] tree → Ends keeps n budget tree verdict trail log) → EndsSearch keeps (repository_of pool book) goals budget verdict trail log
  search_end keeps budget n wanted own conflicts verdict trail log size w o k ends =
      let tree = tree_exists (length (repository_of pool book).clauses) (form (repository_of pool book) goals) range in
      let at_tree : IsTree (length (repository_of pool book).clauses) (form (repository_of pool book) goals) [] tree.0 → Ends keeps (length (repository_of pool book).clauses) budget tree.0 verdict trail log = rw (size, w, o, k) at (ends tree.0) in
      (tree.0, tree.1, at_tree tree.1)

  pub certified : (budget : ℕ) (outcome : Outcome) → IsSearchOutcome (repository_of pool book) goals budget outcome → IsCertified (repository_of pool book) goals outcome
  certified budget outcome a = certified_by (repository_of pool book) goals budget a.0 outcome range a.1 a.2

  -- a tree of few classes has few failed leaves
  pub decided : (budget : ℕ) (outcome : Outcome) → IsSearchOutcome (repository_of pool book) goals budget outcome → 2 ^ length book.rows ≤ budget → IsDecided outcome
  decided budget outcome a enough =
      decided_by budget (length book.rows) a.0 outcome (rw rows_long at (fails_whole (length (repository_of pool book).clauses) (form (repository_of pool book) goals) a.0 range a.1)) enough a.2

-- the flags of the true classes are those that the tree finds
pub outcome_found : (R : Repository) (goals : List (List ℕ)) (budget n : ℕ) (trail : List Literal) (log : List (List Literal)) (flags : List Bool) → n ≡ length R.clauses → flags ≡ true_classes n (set_of_trail trail)
    → EndsSearch true R goals budget Yes trail log → IsSearchOutcome R goals budget (Found flags)
outcome_found R goals budget n trail log flags size e a = (a.0, a.1, (a.2.0 ∙ ap Some (sym (rw size at e)), a.2.1))

-- the log is that of the tree
pub outcome_refuted : (R : Repository) (goals : List (List ℕ)) (budget : ℕ) (trail : List Literal) (log : Log) → EndsSearch true R goals budget No trail log.entries → IsSearchOutcome R goals budget (Refuted log)
outcome_refuted R goals budget trail log a = (a.0, a.1, (a.2.0, a.2.1, a.2.2 refl))

pub verdict_found : (R : Repository) (goals : List (List ℕ)) (budget : ℕ) (verdict : Verdict) (trail : List Literal) (log : List (List Literal)) → EndsSearch false R goals budget verdict trail log → IsSearchVerdict R goals budget verdict
verdict_found R goals budget verdict trail log a = (a.0, a.1, verdict_by false (length R.clauses) budget a.0 verdict trail log a.2)
