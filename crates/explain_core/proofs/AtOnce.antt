-- A clash at the root stays with more sentences: where the verdict within one failed leaf is no, so it is for more goals and more
-- conflicts, within any budget.
use Rattle.std.proofs.Common.{◌≡◌, ℕ, ◌+◌, ◌<◌, ◌≤◌, Bool, List, [], ◌++◌, inl, inr, length, map, refl, sym, ap, ◌∙◌, subst, arith, Some, None}
use Rattle.std.proofs.lemmas.Bool.{cases_Bool, ltb-false, ltb-true}
use Rattle.std.specs.Prelude.{ltb}
use Rattle.listed.proofs.Lists.{contains_in, in_contains, In_append_cases, In_append_left, In_append_right, In_map, In_map_cases, filter_cases, filter_from}
use Rattle.listed.proofs.Bools.{cases_Option}
use Rattle.clause_pool.specs.Interned.{Interned}
use Rattle.clause_solver.specs.declared.outcomes.Verdict.TheVariants.{No, Spent}
use Rattle.clause_solver.proofs.Preparing.{clash_part}
use Rattle.relation_fields.specs.{declared.packages.Home.{Home}, declared.packages.PackageFacts.{PackageFacts}}
use Rattle.repo_model.specs.{Repository.{suite_repository}, declared.goals.Goal.{Goal}}
use Rattle.row_book.specs.{Book.{are_paired, listed_for, lists_of_pairs, repository_of, PairsFit, Sound}, Numbers.{numbers}, Needs.{NeedsFit}}
use Rattle.row_book.specs.{Repository.{Repository}, Rounds.{kernel}, declared.book.Book.{Book}, declared.pair.Pair.{Pair}}
use Rattle.listed.specs.Lists.{In}
use Rattle.row_book.proofs.Pairs.{at_pairs, length_pairs, pairs_conflict}
use Rattle.search_terms.specs.{declared.literals.Literal.{Literal}, Closure.{Clashes, InRange}}
use Rattle.search_terms.specs.Form.{clause_sentence, conflict_sentence, form, goal_sentence, owned_sentences, repository_form}
use Rattle.search_terms.specs.{Tree.{Tree, IsTree, failed_leaves, found_of}, Tree.Tree.{failed_leaf, found_leaf, split}}
use Rattle.search_terms.proofs.{Computed.{search_tree_is}, Forms.{from_owned_sentences, in_owned_sentences}, Ranges.{form_ranged, rows_long}}
use Rattle.suite_compare.specs.Asking.{asked_tree, image_of, images_of, tree_of, verdict_in, verdict_of}
use Rattle.suite_compare.proofs.Deciding.{asked_is}
use Rattle.explain_core.specs.{Only.{only}, Reasons.{tree_over, verdict_over}}
use Rattle.explain_core.proofs.Overs.{no_from, no_none, paired_more}

-- a tree that finds nothing has a failed leaf
fails_some : (tree : Tree) → found_of tree ≡ None → 0 < failed_leaves tree
fails_some failed_leaf none = omega arith
fails_some (found_leaf chosen) none = absurd (cc none)
fails_some (split c left right) none = elim (cases_Option (found_of left)) [
  | inl l ↦ let x = fails_some left l in omega (arith, x)
  | inr some ↦ absurd (let s : Some some.0 ≡ None = rw some.1 at none in cc s)
]

-- one that has no other is that leaf
one_failed : (tree : Tree) → found_of tree ≡ None → failed_leaves tree ≤ 1 → tree ≡ failed_leaf
one_failed failed_leaf none few = refl
one_failed (found_leaf chosen) none few = absurd (cc none)
one_failed (split c left right) none few = elim (cases_Option (found_of left)) [
  | inl l ↦
      let r : found_of right ≡ None = rw l at none in
      let both : failed_leaves left + failed_leaves right ≤ 1 = rw l at few in
      let x = fails_some left l in
      let y = fails_some right r in
      absurd (omega (arith, both, x, y))
  | inr some ↦ absurd (let s : Some some.0 ≡ None = rw some.1 at none in cc s)
]

-- the tree of a formula that clashes is a failed leaf
clash_tree : (classes : ℕ) (formula : List (List Literal)) (tree : Tree) → IsTree classes formula [] tree → Clashes formula [] → tree ≡ failed_leaf
clash_tree classes formula failed_leaf is clash = refl
clash_tree classes formula (found_leaf chosen) is clash = absurd (is.calm clash)
clash_tree classes formula (split c left right) is clash = absurd (is.0.calm clash)

within_budget : (budget : ℕ) (tree : Tree) → verdict_of budget tree ≡ No → failed_leaves tree ≤ budget
within_budget budget tree e = elim (cases_Bool (ltb budget (failed_leaves tree))) [
  | inl t ↦ absurd (let s : Spent ≡ No = rw t at e in cc s)
  | inr n ↦ ltb-false budget (failed_leaves tree) n
]

-- a failed leaf is no within any budget
leaf_no : (budget : ℕ) (tree : Tree) → 0 < budget → tree ≡ failed_leaf → verdict_of budget tree ≡ No
leaf_no budget tree some e = ap (verdict_of budget) e ∙ no_from budget failed_leaf (elim (cases_Bool (ltb budget 1)) [
  | inl t ↦ absurd (let h : budget < 1 = ltb-true budget 1 t in omega (arith, h, some))
  | inr f ↦ f
]) refl

-- so a formula with the verdict no within one failed leaf clashes at its root, and with it each formula that has its sentences
pub at_once : (fewer more : List (List Literal)) (classes size : ℕ) (first second : Tree) (budget : ℕ) → ((s : List Literal) → In s fewer → In s more) → IsTree classes fewer [] first → IsTree size more [] second
    → verdict_of 1 first ≡ No → 0 < budget → verdict_of budget second ≡ No
at_once fewer more classes size first second budget within is other refused some =
    let leaf : first ≡ failed_leaf = one_failed first (no_none 1 first refused) (within_budget 1 first refused) in
    let clash : Clashes fewer [] = subst (IsTree classes fewer []) leaf is in
    leaf_no budget second some (clash_tree size more second other (clash_part fewer more [] (λ s c. in_contains more s (within s (contains_in fewer s c))) clash))

pub In_map_more : {A B : Type 0} (f : A → B) (fewer more : List A) → ((x : A) → In x fewer → In x more) → (y : B) → In y (map f fewer) → In y (map f more)
In_map_more f fewer more within y i =
    let w = In_map_cases f fewer y i in
    subst (λ z. In z (map f more)) (sym w.2) (In_map f more w.0 (within w.0 w.1))

-- more goals
more_goals : (R : Repository) (fewer more : List (List ℕ)) → ((g : List ℕ) → In g fewer → In g more) → (s : List Literal) → In s (form R fewer) → In s (form R more)
more_goals R fewer more within s i = elim (In_append_cases (map goal_sentence fewer) (repository_form R) s i) [
  | inl a ↦ In_append_left (map goal_sentence more) (repository_form R) s (In_map_more goal_sentence fewer more within s a)
  | inr b ↦ In_append_right (map goal_sentence more) (repository_form R) s b
]

pub goals_at_once : (home : Home) (stanzas : List PackageFacts) (limit : ℕ) (hold : Bool) (budget : ℕ) (fewer more : List Goal) → ((g : Goal) → In g fewer → In g more)
    → verdict_in limit hold home stanzas 1 fewer ≡ No → 0 < budget → verdict_in limit hold home stanzas budget more ≡ No
goals_at_once home stanzas limit hold budget fewer more within refused some =
    at_once (form (kernel limit hold (suite_repository home stanzas)) (images_of limit hold home stanzas fewer)) (form (kernel limit hold (suite_repository home stanzas)) (images_of limit hold home stanzas more))
    (length (kernel limit hold (suite_repository home stanzas)).clauses) (length (kernel limit hold (suite_repository home stanzas)).clauses) (asked_tree limit hold home stanzas fewer) (asked_tree limit hold home stanzas more) budget
    (more_goals (kernel limit hold (suite_repository home stanzas)) (images_of limit hold home stanzas fewer) (images_of limit hold home stanzas more) (In_map_more (image_of limit hold home stanzas) fewer more within))
    (asked_is home stanzas limit hold fewer) (asked_is home stanzas limit hold more) refused some

-- more conflicts
more_pairs : (R : Repository) (goals : List (List ℕ)) (fewer more : List Pair) → ((x : Pair) → In x fewer → In x more) → (s : List Literal) → In s (form (only R fewer) goals) → In s (form (only R more) goals)
more_pairs R goals fewer more within s i = elim (In_append_cases (map goal_sentence goals) (repository_form (only R fewer)) s i) [
  | inl a ↦ In_append_left (map goal_sentence goals) (repository_form (only R more)) s a
  | inr rest ↦ In_append_right (map goal_sentence goals) (repository_form (only R more)) s (elim (In_append_cases (owned_sentences clause_sentence 0 R.clauses) (owned_sentences conflict_sentence 0 (lists_of_pairs fewer (length R.clauses))) s rest) [
    | inl a ↦ In_append_left (owned_sentences clause_sentence 0 R.clauses) (owned_sentences conflict_sentence 0 (lists_of_pairs more (length R.clauses))) s a
    | inr b ↦ In_append_right (owned_sentences clause_sentence 0 R.clauses) (owned_sentences conflict_sentence 0 (lists_of_pairs more (length R.clauses))) s (conflicts b)
  ])
]
  where
    conflicts : In s (owned_sentences conflict_sentence 0 (lists_of_pairs fewer (length R.clauses))) → In s (owned_sentences conflict_sentence 0 (lists_of_pairs more (length R.clauses)))
    conflicts b =
        let w = from_owned_sentences conflict_sentence 0 (lists_of_pairs fewer (length R.clauses)) s b in
        let l : w.0 < length R.clauses = subst (λ n. w.0 < n) (length_pairs fewer (length R.clauses)) w.2 in
        let parts = filter_cases (are_paired fewer w.0) (numbers (length R.clauses) 0) w.1 (subst (λ xs. In w.1 xs) (at_pairs fewer (length R.clauses) w.0 l) w.3) in
        let there_too : In w.1 (listed_for (lists_of_pairs more (length R.clauses)) w.0) =
        subst (λ xs. In w.1 xs) (sym (at_pairs more (length R.clauses) w.0 l)) (filter_from (are_paired more w.0) (numbers (length R.clauses) 0) w.1 parts.0 (paired_more fewer more within w.0 w.1 parts.1)) in
        subst (λ z. In z (owned_sentences conflict_sentence 0 (lists_of_pairs more (length R.clauses)))) (sym w.4) (in_owned_sentences conflict_sentence 0 (lists_of_pairs more (length R.clauses)) w.0 w.1 there_too)

module _ (pool : Interned) (book : Book) (sound : Sound pool book) (budget : ℕ) (goals : List (List ℕ)) (needs : NeedsFit (length book.rows) goals) where
  abbrev R : Repository
  R = repository_of pool book

  -- the formula of chosen conflicts is of the packages
  ranged : (pairs : List Pair) → PairsFit pairs (length book.rows) → InRange (length R.clauses) (form (only R pairs) goals)
  ranged pairs fit =
      let long : length R.clauses ≡ length book.rows = rows_long pool book.rows in
      let fit_size : PairsFit pairs (length R.clauses) = subst (λ n. PairsFit pairs n) (sym long) fit in
      let paired : length (lists_of_pairs pairs (length R.clauses)) ≡ length book.rows = length_pairs pairs (length R.clauses) ∙ long in
      let chosen : Book = record { rows = book.rows; conflicts = lists_of_pairs pairs (length R.clauses); paired = paired; few = book.few } in
      let chosen_sound : Sound pool chosen = record { rows = sound.rows; conflicts = pairs_conflict pairs (length R.clauses) fit_size } in
      subst (λ n. InRange n (form (only R pairs) goals)) (sym long) (form_ranged pool chosen goals chosen_sound paired needs)

  tree_is : (pairs : List Pair) → PairsFit pairs (length book.rows) → IsTree (length R.clauses) (form (only R pairs) goals) [] (tree_over R goals pairs)
  unfolding tree_of
  tree_is pairs fit = search_tree_is (length R.clauses) (form (only R pairs) goals) (ranged pairs fit)

  pub pairs_at_once : (fewer more : List Pair) → PairsFit fewer (length book.rows) → PairsFit more (length book.rows) → ((x : Pair) → In x fewer → In x more)
      → verdict_over R 1 goals fewer ≡ No → 0 < budget → verdict_over R budget goals more ≡ No
  pairs_at_once fewer more fit other within refused some =
      at_once (form (only R fewer) goals) (form (only R more) goals) (length R.clauses) (length R.clauses) (tree_over R goals fewer) (tree_over R goals more) budget
      (more_pairs R goals fewer more within) (tree_is fewer fit) (tree_is more other) refused some
