-- What the report on a plan means.
use Rattle.std.proofs.Common.{◌≡◌, ℕ, List, [], ◌∷◌, Option, Some, None, ap, refl, ◌∙◌}
use Rattle.byte_flow.specs.History.{OpenedFile}
use Rattle.migrate_plan.specs.{Plan.{plan, plan_settings}, Refusals.{plan_refusal}, declared.plan.PlanLine.{PlanLine}, declared.refusals.PlanError.{PlanError}}
use Rattle.migrate_plan.specs.declared.refusals.PlanError.TheVariants.{Homes, Names, Packages, TooLong, Memory}
use Rattle.migrate_plan.proofs.{Mixed.{mixes_are_indexes}, Planned.{plan_names, plan_right, plan_safe}}
use Rattle.suite_compare.specs.Refusals.{home_in, packages_in}
use Rattle.suite_compare.proofs.Deciding.{verdict_is_judged}
use Rattle.coinst_run.specs.{declared.answer.ReportVerdict.{ReportVerdict}, Answer.{reported}, Course.{answers, then_on}}
use Rattle.coinst_run.specs.{Migrate.{by_refusal, lines_answer, new_answer, new_course, old_answer, plan_answer}, MigrateMeaning.{MigrateIsMeant, MigrateMeans}}
use Rattle.coinst_run.proofs.{AnswerMeant.{told_means}, Given.{Reported, at_end, checked_read, file_read, kernel_at_read}}

-- the plan is not refused, and its lines are reported
plan_used : (verdict : ReportVerdict) (report : List ℕ) (readings : List OpenedFile) (old new : List ℕ) (lines : List PlanLine) (there : Option PlanError)
    → Reported verdict report (then_on (by_refusal old new lines there) (λ shown. answers (lines_answer shown))) readings → (there ≡ None) × (readings ≡ []) × (lines_answer lines ≡ reported verdict report)
plan_used verdict report readings old new lines (Some Homes) g = absurd (let e = (at_end verdict report _ readings g).1 in let no : ⊥ = cc in no)
plan_used verdict report readings old new lines (Some (Names count)) g = absurd (let e = (at_end verdict report _ readings g).1 in let no : ⊥ = cc in no)
plan_used verdict report readings old new lines (Some (Packages count)) g = absurd (let e = (at_end verdict report _ readings g).1 in let no : ⊥ = cc in no)
plan_used verdict report readings old new lines (Some (TooLong count)) g = absurd (let e = (at_end verdict report _ readings g).1 in let no : ⊥ = cc in no)
plan_used verdict report readings old new lines (Some Memory) g = absurd (let e = (at_end verdict report _ readings g).1 in let no : ⊥ = cc in no)
plan_used verdict report readings old new lines None g = let e = at_end verdict report (lines_answer lines) readings g in (refl, e.0, e.1)

pub migrate_is_meant : MigrateIsMeant
migrate_is_meant old new budget limit hold readings verdict printed e =
    let settings = plan_settings budget limit hold in
    let first = file_read verdict printed old (old_answer old new settings) readings e in
    let made = kernel_at_read verdict printed old limit hold first.0 (λ kernel. new_course old new settings first.0) first.1 first.3 in
    let second = file_read verdict printed new (new_answer old new settings first.0) first.1 made.1 in
    let read = checked_read verdict printed new (λ index. plan_answer old new settings first.0 second.0) second.0 second.1 second.3 in
    let end = plan_used verdict printed second.1 old new (plan settings first.0 second.0) (plan_refusal first.0 second.0) read.1 in (
      first.0,
      second.0,
      first.2 ∙ ap (λ rest. (old, first.0) ∷ rest) (second.2 ∙ ap (λ rest. (new, second.0) ∷ rest) end.1),
      told_means (MigrateMeans first.0 second.0 budget limit hold) (lines_answer (plan settings first.0 second.0)) verdict printed end.2 record {
        old_accepted = made.0;
        new_accepted = read.0;
        allowed = end.0;
        mixes = mixes_are_indexes first.0 second.0 made.0 read.0 end.0;
        lines = plan settings first.0 second.0;
        names = plan_names settings first.0 second.0;
        each = plan_right settings first.0 second.0;
        judged = λ text goals. verdict_is_judged limit hold (home_in text) (packages_in text) budget goals;
        safely = plan_safe settings first.0 second.0 made.0 read.0;
        reads = refl;
        whole = refl;
      },
    )
