-- What the core tells, judged on the stanzas.
use Rattle.std.proofs.{Common.{Bool, ◌≡◌, ℕ, List, ◌∷◌, ◌++◌, length, map, sym, ap, ◌∙◌, subst}, lemmas.List.{map-append}}
use Rattle.std.specs.List.{range_with_len}
use Rattle.clause_solver.specs.{declared.outcomes.Verdict.{Verdict}, declared.outcomes.Verdict.TheVariants.{Yes, No}}
use Rattle.relation_fields.specs.{declared.packages.Home.{Home}, declared.packages.PackageFacts.{PackageFacts}}
use Rattle.repo_model.specs.{Goals.{CoinstGoals}, declared.goals.Goal.{Goal}}
use Rattle.listed.specs.Lists.{In}
use Rattle.listed.proofs.Lists.{In_map, In_map_cases}
use Rattle.suite_compare.specs.Asking.{verdict_in, HasVerdict}
use Rattle.suite_compare.proofs.Deciding.{verdict_is_judged}
use Rattle.explain_core.specs.{Core.{goal_core, goal_numbered, goals_numbered, marked_goals, marks_of, verdict_on}, Deletion.{KeptItem, items_of, kept_of}}
use Rattle.explain_core.specs.Meaning.{IsCoreOf}
use Rattle.explain_core.proofs.{Deleted.{Suffice, kept_needed, kept_no}, Told.{all_numbered, kept_mark, kept_marks, marks_back, marks_items}}

module _ (limit : ℕ) (hold : Bool) (home : Home) (stanzas : List PackageFacts) (budget : ℕ) where
  -- a verdict, judged
  pub judged : (goals : List Goal) (v : Verdict) → verdict_in limit hold home stanzas budget goals ≡ v → HasVerdict limit hold home stanzas budget goals v
  judged goals v e = subst (HasVerdict limit hold home stanzas budget goals) e (verdict_is_judged limit hold home stanzas budget goals)

  -- fewer goals
  coinst_fewer : (more less : List Goal) → ((g : Goal) → In g less → In g more) → CoinstGoals home stanzas more → CoinstGoals home stanzas less
  coinst_fewer more less h w = record { whole = w.whole; healthy = w.healthy; serves = λ g i. w.serves g (h g i) }

  module _ (goals : List Goal) where
    abbrev f : List ℕ → Verdict
    f = verdict_on limit hold home stanzas budget goals

    abbrev all : List ℕ
    all = range_with_len 1 (length goals)

    numbered_in : (more less : List ℕ) → ((n : ℕ) → In n less → In n more) → (g : Goal) → In g (goals_numbered goals less) → In g (goals_numbered goals more)
    numbered_in more less h g i =
        let w = In_map_cases (goal_numbered goals) less g i in
        subst (λ x. In x (goals_numbered goals more)) (sym w.2) (In_map (goal_numbered goals) more w.0 (h w.0 w.1))

    -- the goals of what was kept
    goals_kept : (core : List (KeptItem ℕ)) → marked_goals goals (marks_of core) ≡ goals_numbered goals (items_of core)
    goals_kept core = ap (goals_numbered goals) (sym (marks_items (marks_of core)) ∙ ap items_of (marks_back core))

    -- of a no
    pub core_is : verdict_in limit hold home stanzas budget goals ≡ No → IsCoreOf home stanzas goals (marks_of (goal_core limit hold home stanzas budget goals))
    core_is refused = record {
      impossible = subst (λ gs. ¬ (CoinstGoals home stanzas gs)) (sym (goals_kept (kept_of f all)))
          (judged (goals_numbered goals (items_of (kept_of f all))) No (kept_no f all (ap (verdict_in limit hold home stanzas budget) (all_numbered goals) ∙ refused))).1;
      needed = λ before after m d u.
          let cut : kept_of f all ≡ kept_marks before ++ kept_mark m ∷ kept_marks after = sym (marks_back (kept_of f all)) ∙ ap kept_marks d ∙ map-append kept_mark before (m ∷ after) in
          let w : Suffice (λ n. Unit {0}) f (items_of (kept_marks before ++ kept_marks after)) = kept_needed (λ n. Unit {0}) f all (kept_marks before) (kept_marks after) (kept_mark m) (λ n i. tt) cut u in
          let same : items_of (kept_marks before ++ kept_marks after) ≡ map (λ m. m.goal) (before ++ after) = ap items_of (sym (map-append kept_mark before after)) ∙ marks_items (before ++ after) in
          coinst_fewer (goals_numbered goals w.all) (marked_goals goals (before ++ after))
          (numbered_in w.all (map (λ m. m.goal) (before ++ after)) (λ n i. w.has n (subst (λ l. In n l) (sym same) i)))
          (judged (goals_numbered goals w.all) Yes w.yes).1;
    }
