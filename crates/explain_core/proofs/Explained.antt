-- What an explanation tells.
use Rattle.std.proofs.{Common.{Bool, ◌≡◌, ℕ, ◌<◌, false, List, ◌∷◌, ◌++◌, length, refl, sym, ap, ◌∙◌, subst, inl, inr}, lemmas.Bool.{cases_Bool}}
use Rattle.std.proofs.lemmas.List.{map-append}
use Rattle.std.specs.{Prelude.{ltb, IfSome}, Option.{option_map}}
use Rattle.clause_solver.specs.declared.outcomes.Verdict.{Verdict}
use Rattle.clause_solver.specs.declared.outcomes.Verdict.TheVariants as verdict
use Rattle.relation_fields.specs.{declared.packages.Home.{Home}, declared.packages.PackageFacts.{PackageFacts}}
use Rattle.repo_model.specs.{Goals.{packages_named, CoinstGoals}, Repository.{suite_repository}, declared.goals.Goal.{Goal}}
use Rattle.repo_model.proofs.Healthy.{healthy_same}
use Rattle.row_book.specs.{Book.{PairsFit}, Needs.{NeedsFit}, Repository.{Repository}, Sets.{Hit, Is, NumSet}, Sound.{SoundRepository}}
use Rattle.row_book.specs.declared.pair.Pair.{Pair}
use Rattle.listed.specs.Lists.{In}
use Rattle.listed.proofs.Lists.{In_map, In_map_cases}
use Rattle.search_terms.specs.{Laws.{HasNoSolution, Solves}, Tree.{failed_leaves}}
use Rattle.suite_compare.specs.Asking.{verdict_in, wanted_by}
use Rattle.suite_compare.proofs.{Deciding.{named_parts, named_within}, SuiteKernels.{suite_sound}}
use Rattle.explain_core.specs.{Core.{goal_core, marked_goals, marks_of}, Deletion.{KeptItem, items_of, kept_of}, Explaining.{explained_by, explanation_of}}
use Rattle.explain_core.specs.{Meaning.{AreReasons, IsCoreOf, MeansExplanation}, Only.{only}, Reach.{reach_of}}
use Rattle.explain_core.specs.{Reasons.{clashes_of, conflicts_reached, reasons_of, clash_pairs, tree_over, verdict_over}, declared.explanation.Mark.{Mark}}
use Rattle.explain_core.proofs.{Cores.{core_is, judged}, Deleted.{Suffice, kept_all, kept_needed, kept_no}}
use Rattle.explain_core.proofs.{Overs.{fewer_pairs, no_from, over_no, over_yes, solved_none}, Reached.{reach_is}}
use Rattle.explain_core.proofs.{Told.{clashes_back, clashes_items, kept_clash, kept_clashes}, Withins.{within_fit, within_none}}

-- the reasons for goals that no healthy set hits
module _ (R : Repository) (sound : SoundRepository R) (budget : ℕ) (goals : List (List ℕ)) (needs : NeedsFit (length R.clauses) goals) (impossible : HasNoSolution R goals) where
  abbrev g : List Pair → Verdict
  g = verdict_over R budget goals

  abbrev all : List Pair
  all = conflicts_reached R goals

  abbrev FitsIn : Pair → Type 0
  FitsIn x = (x.low < x.high) × (x.high < length R.clauses)

  all_fit : PairsFit all (length R.clauses)
  all_fit = within_fit R sound (reach_of R goals)

  fit_of : (pairs : List Pair) → ((x : Pair) → In x pairs → FitsIn x) → PairsFit pairs (length R.clauses)
  fit_of pairs h = record { ordered = λ x i. (h x i).0; below = λ x i. (h x i).1 }

  all_none : HasNoSolution (only R all) goals
  all_none = within_none R sound (reach_of R goals) goals (reach_is R goals sound needs).holds impossible

  all_no : ltb budget (failed_leaves (tree_over R goals all)) ≡ false → g all ≡ verdict.No
  all_no few = no_from budget (tree_over R goals all) few (solved_none R sound all all_fit budget goals needs all_none)

  told_items : (reasons : List (KeptItem Pair)) → clash_pairs (clashes_of reasons) ≡ items_of reasons
  told_items reasons = sym (clashes_items (clashes_of reasons)) ∙ ap items_of (clashes_back reasons)

  reasons_are : ltb budget (failed_leaves (tree_over R goals all)) ≡ false → AreReasons R goals (clashes_of (kept_of g all))
  reasons_are few = record {
    enough = subst (λ pairs. HasNoSolution (only R pairs) goals) (sym (told_items (kept_of g all)))
        (over_no R sound (items_of (kept_of g all)) (fit_of (items_of (kept_of g all)) kept_fit) budget goals needs (kept_no g all (all_no few)));
    needed = λ before after c d u.
        let cut : kept_of g all ≡ kept_clashes before ++ kept_clash c ∷ kept_clashes after = sym (clashes_back (kept_of g all)) ∙ ap kept_clashes d ∙ map-append kept_clash before (c ∷ after) in
        let w : Suffice FitsIn g (items_of (kept_clashes before ++ kept_clashes after)) = kept_needed FitsIn g all (kept_clashes before) (kept_clashes after) (kept_clash c) all_each cut u in
        let same : items_of (kept_clashes before ++ kept_clashes after) ≡ clash_pairs (before ++ after) = ap items_of (sym (map-append kept_clash before after)) ∙ clashes_items (before ++ after) in
        let found = over_yes R sound w.all (fit_of w.all w.each) budget goals needs w.yes in
        (found.0, fewer_pairs R w.all (clash_pairs (before ++ after)) goals found.0 (λ x i. w.has x (subst (λ l. In x l) (sym same) i)) found.1);
  }
    where
      all_each : (x : Pair) → In x all → FitsIn x
      all_each x i = (all_fit.ordered x i, all_fit.below x i)

      kept_fit : (x : Pair) → In x (items_of (kept_of g all)) → FitsIn x
      kept_fit x i =
          let w = In_map_cases (λ (k : KeptItem Pair). k.item) (kept_of g all) x i in
          subst FitsIn (sym w.2) (all_each w.0.item (kept_all g all w.0 w.1))

  pub reasons_mean : IfSome (option_map clashes_of (reasons_of R budget goals)) (AreReasons R goals)
  reasons_mean = elim (cases_Bool (ltb budget (failed_leaves (tree_over R goals all)))) [
    | inl t ↦ rw t tt
    | inr few ↦ rw few (reasons_are few)
  ]

module _ (home : Home) (stanzas : List PackageFacts) where
  -- a healthy set that hits what the goals name has a package for each of them
  solved_coinst : (goals : List Goal) (I : NumSet) → Solves (suite_repository home stanzas) (wanted_by stanzas goals) I → CoinstGoals home stanzas goals
  solved_coinst goals I s = record {
    whole = I;
    healthy = (healthy_same home stanzas I).1 s.0;
    serves = λ goal i.
        let hit : Hit (Is I) (packages_named stanzas goal) = s.1 (packages_named stanzas goal) (In_map (packages_named stanzas) goals goal i) in
        record { by = hit.by; member = hit.alive; named = named_parts home stanzas goal hit.by hit.inside };
  }

  pub wanted_fits : (goals : List Goal) → NeedsFit (length (suite_repository home stanzas).clauses) (wanted_by stanzas goals)
  wanted_fits goals c i n j =
      let w = In_map_cases (packages_named stanzas) goals c i in
      named_within home stanzas w.0 n (subst (λ ns. In n ns) w.2 j)

  means_by : (limit : ℕ) (hold : Bool) (budget : ℕ) (goals : List Goal) (v : Verdict) → verdict_in limit hold home stanzas budget goals ≡ v → MeansExplanation home stanzas goals (explained_by limit hold home stanzas budget goals v)
  means_by limit hold budget goals verdict.Yes e = (judged limit hold home stanzas budget goals verdict.Yes e).1
  means_by limit hold budget goals verdict.Spent e = tt
  means_by limit hold budget goals verdict.No e =
      let marks : List Mark = marks_of (goal_core limit hold home stanzas budget goals) in
      let core : IsCoreOf home stanzas goals marks = core_is limit hold home stanzas budget goals e in (
        core,
        reasons_mean (suite_repository home stanzas) (suite_sound home stanzas) budget (wanted_by stanzas (marked_goals goals (marks_of (goal_core limit hold home stanzas budget goals))))
            (wanted_fits (marked_goals goals (marks_of (goal_core limit hold home stanzas budget goals))))
            (λ I healthy hits. core.impossible (solved_coinst (marked_goals goals (marks_of (goal_core limit hold home stanzas budget goals))) I (healthy, hits))),
      )

  pub explanation_means : (limit : ℕ) (hold : Bool) (budget : ℕ) (goals : List Goal) → MeansExplanation home stanzas goals (explanation_of limit hold home stanzas budget goals)
  explanation_means limit hold budget goals = means_by limit hold budget goals (verdict_in limit hold home stanzas budget goals) refl
