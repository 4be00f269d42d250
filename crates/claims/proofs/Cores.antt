-- The goals and conflicts that the code keeps, by the words of the sentences.
use Rattle.suite_compare.specs.{Indexes.{SearchedIndex}, Asking.{HasVerdict, asked_tree, tree_of, verdict_of, wanted_by}, Refusals.{home_in, packages_in}}
use Rattle.std.proofs.Common.{◌≡◌, ℕ, suc, ◌+◌, ◌-◌, ◌<◌, ◌≤◌, Bool, true, false, cond, List, [], ◌∷◌, ◌++◌, Option, Some, None, length, map, slice_index_or}
use Rattle.std.proofs.{Common.{ltb-true, lt-ltb, refl, sym, ap, ap₂, subst, ◌∙◌, append_assoc, arith}, lemmas.List.{length-append}}
use Rattle.std.proofs.{Math.Seq.{get_or-append_seam}, lemmas.Simd.{map-map}}
use Rattle.std.specs.{Prelude.{◌↔◌, is_some, ltb, IfSome, option_map}, List.{AllZip, range_with_len}}
use Rattle.clause_solver.specs.{declared.outcomes.Verdict.{Verdict}, declared.outcomes.Verdict.TheVariants.{No, Spent, Yes}}
use Rattle.coinst_words.specs.Usage.{Text}
use Rattle.deb_version.specs.Names.{is_name}
use Rattle.explain_core.specs.{Core.{goal_core, goals_numbered, mark, marks_of, verdict_on}, Deletion.{KeptItem, kept_of}, Only.{only, pair}, Reach.{reach_of}}
use Rattle.explain_core.specs.Reasons.{clash, clashes_of, conflicts_reached, reasons_of, tree_over, verdict_over, clash_pairs}
use Rattle.explain_core.specs.{declared.explanation.Clash.{Clash}, declared.explanation.Mark.{Mark}, OnStanzas.{CoinstButFor, HealthyButFor}}
use Rattle.explain_core.proofs.{Explained.{wanted_fits}, OnStanzas.{from_solves, to_solves}, Overs.{only_sound, over_no, over_yes}, Withins.{within_fit}}
use Rattle.listed.specs.Lists.{Ascending, In, here, there}
use Rattle.listed.proofs.{Lists.{filter_cases}, Orders.{ascending_filter}}
use Rattle.relation_fields.specs.declared.packages.PackageFacts.{PackageFacts}
use Rattle.repo_model.specs.{FirstFault.{first_fault}, Goals.{CoinstGoals, any_version, goal_of, is_named_by, packages_named}}
use Rattle.repo_model.specs.{Repository.{packages_of, suite_repository}, Stanzas.{stanza_at}, declared.goals.Goal.{Goal}}
use Rattle.repo_model.proofs.{Elements.{range_cases}, SoundSuite.{suite_sound}}
use Rattle.row_book.specs.{Book.{PairsFit}, Needs.{NeedsFit}, Repository.{Repository}, declared.pair.Pair.{Pair}}
use Rattle.row_book.proofs.Numbers.{numbers_ascending, numbers_ranged}
use Rattle.search_terms.specs.{Form.{form}, Laws.{Solves}, Tree.{IsTree, Tree, failed_leaves, found_of}}
use Rattle.search_terms.proofs.Computed.{search_tree_is}
use Rattle.suite_compare.proofs.{Deciding.{named_from, verdict_is_judged}, Ranged.{formula_ranged}}
use Rattle.claims.specs.{Explained.{AreKept, ArePackagesFor, CouldMeet, IsTooLongWith, PrintedGoal, as_clashes}, Goals.{CanMeet}, Laws.{as_read}}
use Rattle.claims.specs.{Search.{Searched}, Settled.{IsPastBudget}}
use Rattle.claims.proofs.{Budget.{past_from, past_to}, Goals.{AreGoals, names_from, names_to, word_at}, Index.{indexes_are_read}}
use Rattle.claims.proofs.{Keeping.{IsSame, kept_all_spent, kept_so}, Kernel.{map_itself}, Meeting.{can_meet, each_from, each_to, meets_goals, says_named}}
use Rattle.claims.proofs.Search.{searches_are_one, trees_are_searches}

-- a goal of a number as it is printed
abbrev pub printed_goal : List Text → Mark → PrintedGoal
printed_goal words m = record { word = slice_index_or words (m.goal - 1) []; undecided = m.unsettled }

-- a verdict is spent if the tree has more failed leaves than the budget
is_spent_so : (budget : ℕ) (tree : Tree) → (verdict_of budget tree ≡ Spent) ↔ (budget < failed_leaves tree)
is_spent_so budget tree = (go (ltb budget (failed_leaves tree)) refl, (λ l. ap (λ b. cond b Spent (cond (is_some (found_of tree)) Yes No)) (lt-ltb budget (failed_leaves tree) l)))
  where
    not_spent : (b : Bool) → cond b Yes No ≡ Spent → ⊥
    not_spent true e = cc
    not_spent false e = cc

    go : (b : Bool) → ltb budget (failed_leaves tree) ≡ b → cond b Spent (cond (is_some (found_of tree)) Yes No) ≡ Spent → budget < failed_leaves tree
    go true at e = ltb-true budget (failed_leaves tree) at
    go false at e = absurd (not_spent (is_some (found_of tree)) e)

-- words by their numbers from 1
numbered : (front words : List Text) → map (λ n. slice_index_or (front ++ words) (n - 1) []) (range_with_len (length front + 1) (length words)) ≡ words
numbered front [] = refl
numbered front (word ∷ words) =
    let long : length (front ++ word ∷ []) ≡ length front + 1 = length-append front (word ∷ []) in
    let one_less : length front + 1 - 1 ≡ length front = omega arith in
    let first : slice_index_or (front ++ word ∷ words) (length front + 1 - 1) [] ≡ word = ap (λ n. slice_index_or (front ++ word ∷ words) n []) one_less ∙ get_or-append_seam front word words [] in
    let more = numbered (front ++ word ∷ []) words in
    let rest : map (λ n. slice_index_or (front ++ word ∷ words) (n - 1) []) (range_with_len (length front + 1 + 1) (length words)) ≡ words
    = ap₂ (λ (all : List Text) k. map (λ n. slice_index_or all (n - 1) []) (range_with_len (k + 1) (length words))) (sym (append_assoc front (word ∷ []) words)) (sym long) ∙ more in
    ap₂ (λ w ws. w ∷ ws) first rest

as_many : (words : List Text) (goals : List Goal) → AreGoals words goals → length goals ≡ length words
as_many [] [] z = refl
as_many [] (g ∷ goals) z = absurd z
as_many (w ∷ words) [] z = absurd z
as_many (w ∷ words) (g ∷ goals) z = ap suc (as_many words goals z.1)

module _ (index : SearchedIndex) (fine : first_fault index.text ≡ None) where
  abbrev stanzas : List PackageFacts
  stanzas = packages_in index.text

  abbrev s : SearchedIndex
  s = as_read index

  abbrev R : Repository
  R = suite_repository (home_in index.text) stanzas

  named : (n : ℕ) → n < length stanzas → is_name (stanza_at stanzas n).name ≡ true
  named = says_named index.text (home_in index.text) stanzas (indexes_are_read index.text fine)

  -- the goals
  module _ (words : List Text) (goals : List Goal) (z : AreGoals words goals) where
    abbrev word_of : ℕ → Text
    word_of n = slice_index_or words (n - 1) []

    abbrev numbers_of : List ℕ
    numbers_of = range_with_len 1 (length goals)

    abbrev verdicts : List ℕ → Verdict
    verdicts = verdict_on index.limit index.hold (home_in index.text) stanzas index.budget goals

    are_goals : (ns : List ℕ) → ((n : ℕ) → In n ns → In n numbers_of) → AreGoals (map word_of ns) (goals_numbered goals ns)
    are_goals [] inside = tt
    are_goals (n ∷ ns) inside =
        let p : (1 ≤ n) × (n < 1 + length goals) = range_cases (length goals) 1 n (inside n here) in
        ((word_at words goals (any_version []) z (n - 1) (let low = p.0 in let high = p.1 in omega (arith, low, high))).0, are_goals ns (λ m i. inside m (there i)))

    spent_same : (ns : List ℕ) → ((n : ℕ) → In n ns → In n numbers_of) → (verdicts ns ≡ Spent) ↔ IsPastBudget s (map word_of ns)
    spent_same ns inside =
        let tree : Tree = asked_tree index.limit index.hold (home_in index.text) stanzas (goals_numbered goals ns) in (
          (λ e. past_from index (map word_of ns) (goals_numbered goals ns) (are_goals ns inside) fine ((is_spent_so index.budget tree).0 e)),
          (λ w. (is_spent_so index.budget tree).1 (past_to index (map word_of ns) (goals_numbered goals ns) (are_goals ns inside) w)),
        )

    same_goals : (ns : List ℕ) → ((n : ℕ) → In n ns → In n numbers_of) → IsSame word_of (λ ms. verdicts ms ≡ Spent) (IsPastBudget s) (λ ms. verdicts ms ≡ Yes) (CanMeet s) ns
    same_goals ns inside =
        let gs : List Goal = goals_numbered goals ns in
        let judged : HasVerdict index.limit index.hold (home_in index.text) stanzas index.budget gs (verdicts ns) = verdict_is_judged index.limit index.hold (home_in index.text) stanzas index.budget gs in
        record {
          long = spent_same ns inside;
          could = λ e. can_meet s (map word_of ns) gs (are_goals ns inside) (subst (HasVerdict index.limit index.hold (home_in index.text) stanzas index.budget gs) e judged).1;
          cannot = λ short none met. by gs (verdicts ns) short none judged (meets_goals s (map word_of ns) gs (are_goals ns inside) named met);
        }
      where
        by : (gs : List Goal) (v : Verdict) → ¬ (v ≡ Spent) → ¬ (v ≡ Yes) → HasVerdict index.limit index.hold (home_in index.text) stanzas index.budget gs v → CoinstGoals (home_in index.text) stanzas gs → ⊥
        by gs Yes short none h met = none refl
        by gs No short none h met = h.1 met
        by gs Spent short none h met = short refl

    pub goals_are_kept : AreKept (λ g. g.word) (λ g. g.undecided) (IsPastBudget s) (CanMeet s) [] words (map (printed_goal words) (marks_of (goal_core index.limit index.hold (home_in index.text) stanzas index.budget goals)))
    goals_are_kept =
        let kept : List (KeptItem ℕ) = goal_core index.limit index.hold (home_in index.text) stanzas index.budget goals in
        let all : map word_of numbers_of ≡ words = ap (λ n. map word_of (range_with_len 1 n)) (as_many words goals z) ∙ numbered [] words in
        let so = kept_so word_of (λ (k : KeptItem ℕ). printed_goal words (mark k)) (λ (k : KeptItem ℕ). k.item) (λ (k : KeptItem ℕ). k.unsettled) (λ (g : PrintedGoal). g.word) (λ (g : PrintedGoal). g.undecided) (λ ns. verdicts ns ≡ Spent) (IsPastBudget s) (λ ns. verdicts ns ≡ Yes) (CanMeet s)
        (λ k. refl) (λ k. refl) [] numbers_of kept same_goals (kept_all_spent verdicts numbers_of) in
        subst (λ ws. AreKept (λ (g : PrintedGoal). g.word) (λ (g : PrintedGoal). g.undecided) (IsPastBudget s) (CanMeet s) [] ws (map (printed_goal words) (marks_of kept))) all
        (subst (λ gs. AreKept (λ (g : PrintedGoal). g.word) (λ (g : PrintedGoal). g.undecided) (IsPastBudget s) (CanMeet s) [] (map word_of numbers_of) gs) (sym (map-map (printed_goal words) mark kept)) so)

  -- the conflicts
  module _ (words : List Text) (goals : List Goal) (z : AreGoals words goals) where
    abbrev wanted : List (List ℕ)
    wanted = wanted_by stanzas goals

    packages_for : (word : Text) (goal : Goal) → goal_of word ≡ Some goal → ArePackagesFor stanzas word (packages_named stanzas goal)
    packages_for word goal is = (
      ascending_filter (λ n. is_named_by goal (stanza_at stanzas n)) (packages_of stanzas) (subst Ascending (sym (numbers_ranged (length stanzas) 0)) (numbers_ascending (length stanzas) 0)),
      (λ n. (
        (λ i.
            let w = filter_cases (λ m. is_named_by goal (stanza_at stanzas m)) (packages_of stanzas) n i in
            let p : (0 ≤ n) × (n < 0 + length stanzas) = range_cases (length stanzas) 0 n w.0 in
            (omega (arith, p.1), names_from word (stanza_at stanzas n).name (stanza_at stanzas n).version goal is w.1)),
        (λ w.
            named_from (home_in index.text) stanzas goal n w.0 (names_to word (stanza_at stanzas n).name (stanza_at stanzas n).version goal (named n w.0) is w.1)),
      )),
    )

    pub each_wanted : AllZip (ArePackagesFor stanzas) words wanted
    each_wanted = go words goals z
      where
        go : (ws : List Text) (gs : List Goal) → AreGoals ws gs → AllZip (ArePackagesFor stanzas) ws (wanted_by stanzas gs)
        go [] [] z = tt
        go [] (g ∷ gs) z = absurd z
        go (w ∷ ws) [] z = absurd z
        go (w ∷ ws) (g ∷ gs) z = (packages_for w g z.0, go ws gs z.1)

    abbrev all : List Pair
    all = conflicts_reached R wanted

    all_fit : PairsFit all (length R.clauses)
    all_fit = within_fit R (suite_sound (home_in index.text) stanzas) (reach_of R wanted)

    needs : NeedsFit (length R.clauses) wanted
    needs = wanted_fits (home_in index.text) stanzas goals

    abbrev tree_with : List Pair → Tree
    tree_with pairs = tree_over R wanted pairs

    module _ (pairs : List Pair) (inside : (x : Pair) → In x pairs → In x all) where
      fit : PairsFit pairs (length R.clauses)
      fit = record { ordered = λ x i. all_fit.ordered x (inside x i); below = λ x i. all_fit.below x (inside x i) }

      tree_is : IsTree (length R.clauses) (form (only R pairs) wanted) [] (tree_with pairs)
      unfolding tree_of
      tree_is = search_tree_is (length R.clauses) (form (only R pairs) wanted) (formula_ranged (only R pairs) wanted (only_sound R (suite_sound (home_in index.text) stanzas) pairs fit) needs)

      searched : Searched (form (only R pairs) wanted) [] (is_some (found_of (tree_with pairs))) (failed_leaves (tree_with pairs))
      searched = trees_are_searches (length R.clauses) (form (only R pairs) wanted) (tree_with pairs) tree_is

      long_to : index.budget < failed_leaves (tree_with pairs) → IsTooLongWith s wanted pairs
      long_to l = (is_some (found_of (tree_with pairs)), failed_leaves (tree_with pairs), searched, l)

      long_from : IsTooLongWith s wanted pairs → index.budget < failed_leaves (tree_with pairs)
      long_from w =
          let same : w.1 ≡ failed_leaves (tree_with pairs) = (searches_are_one (form (only R pairs) wanted) [] w.0 (is_some (found_of (tree_with pairs))) w.1 (failed_leaves (tree_with pairs)) w.2 searched).1 in
          subst (λ n. index.budget < n) same w.3

      over_same : (verdict_over R index.budget wanted pairs ≡ Spent) ↔ IsTooLongWith s wanted pairs
      over_same = ((λ e. long_to ((is_spent_so index.budget (tree_with pairs)).0 e)), (λ w. (is_spent_so index.budget (tree_with pairs)).1 (long_from w)))

    pub could_from : (clashes : List Clash) → CoinstButFor (home_in index.text) stanzas clashes goals → CouldMeet s clashes words
    could_from clashes c = (c.whole, c.healthy, each_from stanzas c.whole words goals z c.serves)

    pub could_to : (clashes : List Clash) → CouldMeet s clashes words → CoinstButFor (home_in index.text) stanzas clashes goals
    could_to clashes c =
        let healthy : HealthyButFor (home_in index.text) stanzas clashes c.0 = c.1 in
        record { whole = c.0; healthy = healthy; serves = each_to stanzas c.0 words goals z (λ n i. named n (healthy.numbers n i)) c.2 }

    abbrev Could : List Pair → Type 0
    Could pairs = CouldMeet s (as_clashes pairs) words

    told_as : (pairs : List Pair) → clash_pairs (as_clashes pairs) ≡ pairs
    told_as [] = refl
    told_as (x ∷ pairs) = ap (λ ys. x ∷ ys) (told_as pairs)

    module _ (pairs : List Pair) (inside : (x : Pair) → In x pairs → In x all) where
      over_could : verdict_over R index.budget wanted pairs ≡ Yes → Could pairs
      over_could e =
          let w = over_yes R (suite_sound (home_in index.text) stanzas) pairs (fit pairs inside) index.budget wanted needs e in
          could_from (as_clashes pairs) (from_solves (home_in index.text) stanzas goals (as_clashes pairs) w.0 (subst (λ ps. Solves (only R ps) wanted w.0) (sym (told_as pairs)) w.1))

      over_cannot : verdict_over R index.budget wanted pairs ≡ No → ¬ (Could pairs)
      over_cannot e could =
          let c = could_to (as_clashes pairs) could in
          let w : Solves (only R pairs) wanted c.whole = subst (λ ps. Solves (only R ps) wanted c.whole) (told_as pairs) (to_solves (home_in index.text) stanzas goals (as_clashes pairs) c) in
          over_no R (suite_sound (home_in index.text) stanzas) pairs (fit pairs inside) index.budget wanted needs e c.whole w.0 w.1

      same_pairs : IsSame (λ x. x) (λ xs. verdict_over R index.budget wanted xs ≡ Spent) (IsTooLongWith s wanted) (λ xs. verdict_over R index.budget wanted xs ≡ Yes) Could pairs
      same_pairs = record {
        long = subst (λ ys. (verdict_over R index.budget wanted pairs ≡ Spent) ↔ IsTooLongWith s wanted ys) (sym (map_itself pairs)) (over_same pairs inside);
        could = λ e. subst Could (sym (map_itself pairs)) (over_could e);
        cannot = λ short none could. by (verdict_over R index.budget wanted pairs) refl short none (subst Could (map_itself pairs) could);
      }
        where
          by : (v : Verdict) → verdict_over R index.budget wanted pairs ≡ v → ¬ (verdict_over R index.budget wanted pairs ≡ Spent) → ¬ (verdict_over R index.budget wanted pairs ≡ Yes) → Could pairs → ⊥
          by Yes e short none could = none e
          by No e short none could = over_cannot e could
          by Spent e short none could = short e

    abbrev AreKeptPairs : List Clash → Type 0
    AreKeptPairs clashes = AreKept (λ c. pair c.first c.second) (λ c. c.unsettled) (IsTooLongWith s wanted) Could [] all clashes

    pairs_are_kept : AreKeptPairs (clashes_of (kept_of (verdict_over R index.budget wanted) all))
    pairs_are_kept =
        let f = verdict_over R index.budget wanted in
        subst (λ xs. AreKept (λ (c : Clash). pair c.first c.second) (λ (c : Clash). c.unsettled) (IsTooLongWith s wanted) Could [] xs (clashes_of (kept_of f all))) (map_itself all)
        (kept_so (λ x. x) clash (λ (k : KeptItem Pair). k.item) (λ (k : KeptItem Pair). k.unsettled) (λ (c : Clash). pair c.first c.second) (λ (c : Clash). c.unsettled) (λ xs. f xs ≡ Spent) (IsTooLongWith s wanted) (λ xs. f xs ≡ Yes) Could
        (λ k. refl) (λ k. refl) [] all (kept_of f all) same_pairs (kept_all_spent f all))

    pub conflicts_are_kept : (clashes : Option (List Clash)) → clashes ≡ option_map clashes_of (reasons_of R index.budget wanted) → ((clashes ≡ None) ↔ IsTooLongWith s wanted all) × IfSome clashes AreKeptPairs
    conflicts_are_kept clashes is = go (ltb index.budget (failed_leaves (tree_with all))) refl clashes is
      where
        go : (b : Bool) → ltb index.budget (failed_leaves (tree_with all)) ≡ b → (clashes : Option (List Clash)) → clashes ≡ option_map clashes_of (cond b None (Some (kept_of (verdict_over R index.budget wanted) all)))
            → ((clashes ≡ None) ↔ IsTooLongWith s wanted all) × IfSome clashes AreKeptPairs
        go true at None e = (((λ h. long_to all (λ x i. i) (ltb-true index.budget (failed_leaves (tree_with all)) at)), (λ w. refl)), tt)
        go true at (Some cs) e = absurd (let wrong : ⊥ = cc in wrong)
        go false at None e = absurd (let wrong : ⊥ = cc in wrong)
        go false at (Some cs) e =
            let is : cs ≡ clashes_of (kept_of (verdict_over R index.budget wanted) all) = cc in
            let never : IsTooLongWith s wanted all → ⊥ = λ w. (let up : ltb index.budget (failed_leaves (tree_with all)) ≡ true = lt-ltb index.budget (failed_leaves (tree_with all)) (long_from all (λ x i. i) w) in cc) in
            (((λ h. absurd (let wrong : ⊥ = cc in wrong)), (λ w. absurd (never w))), subst AreKeptPairs (sym is) pairs_are_kept)
