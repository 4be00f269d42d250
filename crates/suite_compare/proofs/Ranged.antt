-- The formula of goals: its classes are packages of a sound repository, and of an index classes of its kernel, of which it has its tree.
use Rattle.std.{proofs.Common.{◌≡◌, ℕ, ◌<◌, Bool, true, false, List, [], ◌∷◌, length, get_or, sym, subst}, specs.Prelude.{All}, proofs.lemmas.List.Elements.{All-nil, All-cons, Contains-get_or}}
use Rattle.listed.{proofs.Lists.{contains_in, In_map_cases}, specs.Lists.{In}}
use Rattle.row_book.{specs.Needs.{NeedsFit}, specs.Repository.{Repository, conflicts_of}, specs.Rounds.{kernel}, specs.Sound.{SoundRepository}}
use Rattle.relation_fields.{specs.declared.packages.Home.{Home}, specs.declared.packages.PackageFacts.{PackageFacts}}
use Rattle.repo_model.{specs.Goals.{is_named_by, packages_named}, specs.Repository.{suite_repository}, specs.Stanzas.{stanza_at}, specs.declared.goals.Goal.{Goal}, proofs.Packages.{chosen_cases, chosen_from, length_clauses}}
use Rattle.kernel_rounds.proofs.Reached.{kernel_is_lem}
use Rattle.search_terms.{specs.declared.literals.Literal.{Literal}, specs.Closure.{literal, InRange}, specs.Form.{goal_sentence, form}, specs.Tree.{IsTree}, proofs.Computed.{search_tree_is}, proofs.Forms.{IsSentence, sentence_cases}, proofs.Forms.IsSentence.{of_goal, of_clause, of_conflict}, proofs.Ranges.{other_way, listed_in, members_ranged}}
use Rattle.suite_compare.{specs.Asking.{asked_tree, image_of, images_of, tree_of}, proofs.SuiteKernels.{suite_sound, classes_fit}}

pub formula_ranged : (R : Repository) (goals : List (List ℕ)) → SoundRepository R → NeedsFit (length R.clauses) goals → InRange (length R.clauses) (form R goals)
formula_ranged R goals sound fit = λ k d lt.
    one (get_or (form R goals) k d) (sentence_cases R goals (get_or (form R goals) k d) (contains_in (form R goals) (get_or (form R goals) k d) (Contains-get_or (form R goals) k d lt)))
  where
    below : (p q : ℕ) → In q (conflicts_of R p) → p < length R.clauses
    below p q i = subst (λ n. p < n) sound.count (listed_in R.conflicts p q i)

    one : (s : List Literal) → IsSentence R goals s → All (λ l. l.class < length R.clauses) s
    one s (of_goal g i e) = rw e (members_ranged (length R.clauses) g (fit g i))
    one s (of_clause p c lt i e) =
        rw e (All-cons (λ l. l.class < length R.clauses) (literal p false) (goal_sentence c) lt (members_ranged (length R.clauses) c (sound.clauses p c i).1))
    one s (of_conflict p q i e) =
        rw e (All-cons (λ l. l.class < length R.clauses) (literal p false) (literal q false ∷ []) (below p q i)
        (All-cons (λ l. l.class < length R.clauses) (literal q false) [] (below q p (other_way R.conflicts sound.conflicts p q i)) (All-nil (λ l. l.class < length R.clauses))))

module _ (home : Home) (stanzas : List PackageFacts) where
  abbrev pub R : Repository
  R = suite_repository home stanzas

  pub sound : SoundRepository R
  sound = suite_sound home stanzas

  -- what a goal names are packages
  pub named_within : (goal : Goal) (n : ℕ) → In n (packages_named stanzas goal) → n < length R.clauses
  named_within goal n i = subst (λ size. n < size) (sym (length_clauses home stanzas)) (chosen_cases stanzas (λ n. is_named_by goal (stanza_at stanzas n)) n i).0

  pub named_parts : (goal : Goal) (n : ℕ) → In n (packages_named stanzas goal) → is_named_by goal (stanza_at stanzas n) ≡ true
  named_parts goal n i = (chosen_cases stanzas (λ n. is_named_by goal (stanza_at stanzas n)) n i).1

  pub named_from : (goal : Goal) (n : ℕ) → n < length stanzas → is_named_by goal (stanza_at stanzas n) ≡ true → In n (packages_named stanzas goal)
  named_from goal n l h = chosen_from stanzas (λ n. is_named_by goal (stanza_at stanzas n)) n l h

  -- the formula of its kernel at a limit, with hold or without, and its tree
  module _ (limit : ℕ) (hold : Bool) where
    pub images_fit : (goals : List Goal) → NeedsFit (length (kernel limit hold R).clauses) (images_of limit hold home stanzas goals)
    images_fit goals c i k j =
        let w = In_map_cases (image_of limit hold home stanzas) goals c i in
        classes_fit limit hold R (packages_named stanzas w.0) k (subst (λ c. In k c) w.2 j)

    pub asked_range : (goals : List Goal) → InRange (length (kernel limit hold R).clauses) (form (kernel limit hold R) (images_of limit hold home stanzas goals))
    asked_range goals = formula_ranged (kernel limit hold R) (images_of limit hold home stanzas goals) (kernel_is_lem limit hold R sound).sound (images_fit goals)

    pub asked_is : (goals : List Goal) → IsTree (length (kernel limit hold R).clauses) (form (kernel limit hold R) (images_of limit hold home stanzas goals)) [] (asked_tree limit hold home stanzas goals)
    unfolding tree_of
    asked_is goals = search_tree_is (length (kernel limit hold R).clauses) (form (kernel limit hold R) (images_of limit hold home stanzas goals)) (asked_range goals)
