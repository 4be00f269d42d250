-- The command that takes names over from a newer index into an older one, without breaking any.
use Rattle.std.specs.Prelude.{ℕ, Bool, List, ◌++◌, codes, Option, Some, None, Ok, Err}
use Rattle.migrate_plan.specs.{Plan.{Settings, plan, plan_settings}, Refusals.{plan_refusal}}
use Rattle.migrate_plan.specs.declared.plan.PlanLine.{PlanLine}
use Rattle.migrate_plan.specs.declared.refusals.PlanError.{PlanError}
use Rattle.migrate_plan.specs.declared.refusals.PlanError.TheVariants.{Homes, Names, Packages}
use Rattle.migrate_plan.specs.declared.refusals.PlanError.TheVariants.{TooLong, Memory}
use Rattle.coinst_run.specs.declared.answer.Cause.TheVariants.{Content, TooLarge}
use Rattle.coinst_run.specs.Answer.{Answer, CourseStage, refused, reported}
use Rattle.coinst_run.specs.{Course.{Course, answers, reads, then_on}, Index.{Index, checked_index}}
use Rattle.coinst_run.specs.{IndexKernel.{ClassedKernel}, Kernel.{kernel_of}}
use Rattle.coinst_run.specs.Lines.{about, memory_line, too_long_line}
use Rattle.coinst_run.specs.MigrateText.{plan_text, plan_verdict}

-- the two have different architectures
abbrev pub homes_line : List ℕ → List ℕ → List ℕ
homes_line old new = about new (codes "another architecture than " ++ old)

-- too many names differ
abbrev pub names_line : List ℕ → List ℕ
names_line new = about new (codes "more than 256 names differ")

-- what stands for the path of a mix of the two, which is no file
abbrev pub mix_path : List ℕ
mix_path = codes "mix"

-- a mix of the two may have too many packages
abbrev pub packages_line : List ℕ
packages_line = about mix_path (codes "more than 200000 packages")

-- What is refused if no plan is made of the indexes at two paths, with the line that says so. Want
-- of memory is no refusal of a plan, and this row is never asked for.
abbrev pub refusal_of : List ℕ → List ℕ → PlanError → Answer
refusal_of old new Homes = refused Content (homes_line old new)
refusal_of old new (Names count) = refused TooLarge (names_line new)
refusal_of old new (Packages count) = refused TooLarge packages_line
refusal_of old new (TooLong count) = refused TooLarge (too_long_line mix_path)
refusal_of old new Memory = refused Content memory_line

-- the lines of a plan, unless it is refused
abbrev pub by_refusal : List ℕ → List ℕ → List PlanLine → Option PlanError →
    CourseStage (List PlanLine)
by_refusal old new lines None = Ok lines
by_refusal old new lines (Some error) = Err (refusal_of old new error)

-- the plan of the texts at two paths
abbrev pub planned : List ℕ → List ℕ → Settings → List ℕ → List ℕ → CourseStage (List PlanLine)
planned old new settings first second =
    by_refusal old new (plan settings first second) (plan_refusal first second)

-- the report on a plan
abbrev pub lines_answer : List PlanLine → Answer
lines_answer lines = reported (plan_verdict lines) (plan_text lines)

abbrev pub plan_answer : List ℕ → List ℕ → Settings → List ℕ → List ℕ → Course
plan_answer old new settings first second =
    then_on (planned old new settings first second) (λ lines. answers (lines_answer lines))

-- after the older text and its kernel, the newer text; no kernel is made of it
abbrev pub new_answer : List ℕ → List ℕ → Settings → List ℕ → List ℕ → Course
new_answer old new settings first second =
    then_on (checked_index new second) (λ index. plan_answer old new settings first second)

abbrev pub new_course : List ℕ → List ℕ → Settings → List ℕ → Course
new_course old new settings first = reads new (new_answer old new settings first)

-- the kernel of an index that was checked
abbrev pub kernel_behind : List ℕ → ℕ → Bool → CourseStage Index → CourseStage ClassedKernel
kernel_behind path limit hold (Ok index) = kernel_of path limit hold index
kernel_behind path limit hold (Err answer) = Err answer

abbrev pub kernel_at : List ℕ → ℕ → Bool → List ℕ → CourseStage ClassedKernel
kernel_at path limit hold text = kernel_behind path limit hold (checked_index path text)

abbrev pub old_answer : List ℕ → List ℕ → Settings → List ℕ → Course
old_answer old new settings first =
    then_on (kernel_at old settings.limit settings.hold first) (λ kernel.
    new_course old new settings first)

abbrev pub migrate_course : List ℕ → List ℕ → ℕ → ℕ → Bool → Course
migrate_course old new budget limit hold =
    reads old (old_answer old new (plan_settings budget limit hold))
