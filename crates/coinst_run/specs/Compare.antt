-- The command that lists what a newer index has broken of an older one.
use Rattle.std.specs.Prelude.{ℕ, Bool, List}
use Rattle.suite_compare.specs.{Asking.{verdict_in}, Names.{names_of_both}, Report.{report}}
use Rattle.suite_compare.specs.declared.report.ReportLine.{ReportLine}
use Rattle.coinst_run.specs.Answer.{Answer, reported}
use Rattle.coinst_run.specs.CompareText.{comparison_text, comparison_verdict}
use Rattle.coinst_run.specs.{Course.{Course, answers}, Index.{Index}, IndexKernel.{ClassedKernel}}
use Rattle.coinst_run.specs.Kernel.{reads_kernel}

-- the list of what the newer index has broken, by the verdicts of the two kernels
unfoldable pub broken_lines : ℕ → ℕ → Bool → Index → Index → List ReportLine
broken_lines budget limit hold old new =
    report (verdict_in limit hold old.home old.packages budget)
    (verdict_in limit hold new.home new.packages budget) (names_of_both old.packages new.packages)

-- the report on a list
abbrev pub lines_answer : List ReportLine → Answer
lines_answer lines = reported (comparison_verdict lines) (comparison_text lines)

abbrev pub compare_answer : ℕ → ℕ → Bool → Index → Index → ClassedKernel → Course
compare_answer budget limit hold old new kernel =
    answers (lines_answer (broken_lines budget limit hold old new))

-- after the older index and its kernel, the newer one and its kernel
abbrev pub newer_course : List ℕ → ℕ → ℕ → Bool → Index → ClassedKernel → Course
newer_course new budget limit hold old kernel =
    reads_kernel new limit hold (compare_answer budget limit hold old)

abbrev pub compare_course : List ℕ → List ℕ → ℕ → ℕ → Bool → Course
compare_course old new budget limit hold =
    reads_kernel old limit hold (newer_course new budget limit hold)
