-- What the report on a plan means for the two indexes.
use Rattle.std.specs.Prelude.{◌≡◌, ℕ, Bool, List, [], map, None, Some, ◌∷◌}
use Rattle.byte_flow.specs.History.{OpenedFile}
use Rattle.migrate_plan.specs.{Differing.{differing}, Plan.{plan_settings}}
use Rattle.migrate_plan.specs.Promises.{AreRight, MixesAreIndexes, TakesSafely, planned_name}
use Rattle.migrate_plan.specs.{Refusals.{plan_refusal}, declared.plan.PlanLine.{PlanLine}}
use Rattle.repo_model.specs.{FirstFault.{first_fault}, declared.goals.Goal.{Goal}}
use Rattle.suite_compare.specs.{Asking.{HasVerdict, verdict_in}, Refusals.{home_in, packages_in}}
use Rattle.coinst_run.specs.{declared.answer.ReportVerdict.{ReportVerdict}, Answer.{reported}}
use Rattle.coinst_run.specs.{Migrate.{migrate_course}, MigrateText.{plan_text, plan_verdict}}
use Rattle.coinst_run.specs.Outcome.{GivesAnswer}

-- Both texts are indexes without a fault, a plan may be made of them, and every mix of names that
-- differ is an index without a fault. The printed lines are one for each name that differs,
-- ascending by bytes. The mix that is tried for a name is that of it and of the names taken before.
-- A name is taken if this mix is within the clause limit, and nothing of the older index is broken
-- or open in it. It is left if the mix passes the limit, or else with the first thing that is
-- broken or open in it. What is broken or open goes by verdicts, and each yes and each no is judged
-- on the stanzas. In the mix of all names that are taken nothing of the older index is broken. If a
-- name is taken, this mix can install what the older index can, alone or in pairs, of the names
-- that both have.
pub record MigrateMeans (old new : List ℕ) (budget limit : ℕ) (hold : Bool)
    (verdict : ReportVerdict) (printed : List ℕ) : Type 0 where
  pub old_accepted : first_fault old ≡ None
  pub new_accepted : first_fault new ≡ None
  pub allowed : plan_refusal old new ≡ None
  pub mixes : MixesAreIndexes old new
  pub lines : List PlanLine
  pub names : map planned_name lines ≡ differing (packages_in old) (packages_in new)
  pub each : AreRight (plan_settings budget limit hold) old new [] lines
  pub judged : (text : List ℕ) (goals : List Goal) →
      HasVerdict limit hold (home_in text) (packages_in text) budget goals
      (verdict_in limit hold (home_in text) (packages_in text) budget goals)
  pub safely : TakesSafely (plan_settings budget limit hold) old new lines
  pub reads : printed ≡ plan_text lines
  pub whole : verdict ≡ plan_verdict lines

-- what is reported of two files means this for their texts
abbrev pub MigrateIsMeant : Type 0
MigrateIsMeant = (old new : List ℕ) (budget limit : ℕ) (hold : Bool) (readings : List OpenedFile)
    (verdict : ReportVerdict) (printed : List ℕ) →
    GivesAnswer (migrate_course old new budget limit hold) readings (reported verdict printed) →
    (first second : List ℕ) × (readings ≡ (old, first) ∷ (new, second) ∷ [])
    × MigrateMeans first second budget limit hold verdict printed
