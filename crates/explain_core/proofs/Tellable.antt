-- What an explanation names.
use Rattle.std.proofs.Common.{◌≡◌, ℕ, ◌<◌, Bool, true, List, length, filter, Option, Some, None, inl, inr, refl, sym, ap, ◌∙◌, subst, arith}
use Rattle.std.proofs.lemmas.Bool.{and_parts, cases_Bool, ltb-true}
use Rattle.std.specs.{Prelude.{◌&&◌, ltb, IfSome}, List.{range_with_len}, Option.{option_map}}
use Rattle.listed.proofs.Lists.{In_flat_cases, In_has, In_map_cases, filter_cases}
use Rattle.clause_solver.specs.declared.outcomes.Verdict.{Verdict}
use Rattle.clause_solver.specs.declared.outcomes.Verdict.TheVariants as verdict
use Rattle.explain_core.specs.{Core.{goal_core, marked_goals, marks_of}, Deletion.{kept_of}, Explaining.{clashes_for, explained_by, explanation_of}}
use Rattle.explain_core.specs.{Only.{conflicts_above, conflicts_within, pair}, Reach.{reach_of}}
use Rattle.explain_core.specs.{Reasons.{clash, clashes_of, conflicts_reached, reasons_of, tree_over, verdict_over}, declared.explanation.Clash.{Clash}}
use Rattle.explain_core.specs.OnStanzas.{AreClashesOf, IsTellable}
use Rattle.explain_core.proofs.{Answering.{core_places}, Deleted.{kept_all}}
use Rattle.relation_fields.specs.{declared.packages.Home.{Home}, declared.packages.PackageFacts.{PackageFacts}}
use Rattle.repo_model.specs.{Repository.{in_conflict, suite_repository}, declared.goals.Goal.{Goal}}
use Rattle.repo_model.proofs.Packages.{against_cases}
use Rattle.row_book.specs.{Repository.{Repository, conflicts_of}, Sets.{NumSet}, declared.pair.Pair.{Pair}}
use Rattle.listed.specs.Lists.{In}
use Rattle.search_terms.specs.Tree.{failed_leaves}
use Rattle.suite_compare.specs.Asking.{verdict_in, wanted_by}

module _ (home : Home) (stanzas : List PackageFacts) where
  abbrev R : Repository
  R = suite_repository home stanzas

  -- two packages of the index that are in conflict, the lesser number first
  abbrev pub AreInConflict : ℕ → ℕ → Type 0
  AreInConflict low high = (low < high) × (high < length stanzas) × (in_conflict home stanzas low high ≡ true)

  within_conflict : (S : NumSet) (x : Pair) → In x (conflicts_within R S) → AreInConflict x.low x.high
  within_conflict S x i =
      let a = In_flat_cases (conflicts_above R S) (filter S (range_with_len 0 (length R.clauses))) x i in
      let b = In_map_cases (pair a.0) (filter (λ high. ltb a.0 high && S high) (conflicts_of R a.0)) x a.2 in
      let c = filter_cases (λ high. ltb a.0 high && S high) (conflicts_of R a.0) b.0 b.1 in
      let less : a.0 < b.0 = ltb-true a.0 b.0 (and_parts (ltb a.0 b.0) (S b.0) c.1).0 in
      let d = against_cases home stanzas a.0 b.0 (In_has c.0) in
      subst (λ y. AreInConflict y.low y.high) (sym b.2) (less, d.1, d.2)

  module _ (budget : ℕ) (goals : List (List ℕ)) where
    abbrev g : List Pair → Verdict
    g = verdict_over R budget goals

    abbrev all : List Pair
    all = conflicts_reached R goals

    kept_in_conflict : (c : Clash) → In c (clashes_of (kept_of g all)) → AreInConflict c.first c.second
    kept_in_conflict c i =
        let w = In_map_cases clash (kept_of g all) c i in
        let k = within_conflict (reach_of R goals) w.0.item (kept_all g all w.0 w.1) in
        subst (λ d. AreInConflict d.first d.second) (sym w.2) k

    -- what is told are packages in conflict
    pub reasons_in_conflict : IfSome (option_map clashes_of (reasons_of R budget goals)) (λ clashes. (c : Clash) → In c clashes → AreInConflict c.first c.second)
    reasons_in_conflict = elim (cases_Bool (ltb budget (failed_leaves (tree_over R goals all)))) [
      | inl t ↦ rw t tt
      | inr few ↦ rw few kept_in_conflict
    ]

  conflicts_told : (clashes : List Clash) → ((c : Clash) → In c clashes → AreInConflict c.first c.second) → AreClashesOf (length stanzas) clashes
  conflicts_told clashes h c i = let w = h c i in let low : c.first < c.second = w.0 in let high : c.second < length stanzas = w.1 in (omega (arith, low, high), high)

  pub some_told : (clashes : Option (List Clash)) → IfSome clashes (λ cs. (c : Clash) → In c cs → AreInConflict c.first c.second) → IfSome clashes (AreClashesOf (length stanzas))
  some_told None h = tt
  some_told (Some clashes) h = conflicts_told clashes h

  tellable_by : (limit : ℕ) (hold : Bool) (budget : ℕ) (goals : List Goal) (v : Verdict) → IsTellable (length stanzas) (length goals) (explained_by limit hold home stanzas budget goals v)
  tellable_by limit hold budget goals verdict.Yes = tt
  tellable_by limit hold budget goals verdict.Spent = tt
  tellable_by limit hold budget goals verdict.No = (
    core_places limit hold home stanzas budget goals (marks_of (goal_core limit hold home stanzas budget goals)) refl,
    some_told (clashes_for home stanzas budget goals (marks_of (goal_core limit hold home stanzas budget goals)))
        (reasons_in_conflict budget (wanted_by stanzas (marked_goals goals (marks_of (goal_core limit hold home stanzas budget goals))))),
  )

  -- an explanation names goals and packages that are there
  pub explanation_tellable : (limit : ℕ) (hold : Bool) (budget : ℕ) (goals : List Goal) → IsTellable (length stanzas) (length goals) (explanation_of limit hold home stanzas budget goals)
  explanation_tellable limit hold budget goals = tellable_by limit hold budget goals (verdict_in limit hold home stanzas budget goals)
