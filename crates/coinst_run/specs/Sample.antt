-- The command that extracts the kernel of a sample suite, and prints its size.
use Rattle.std.specs.Prelude.{ℕ, false, List, length, count_by, codes}
use Rattle.kernel_text.specs.{KernelLines.{KernelLine}, KernelText.{format_of, kernel_lines}}
use Rattle.kernel_text.specs.LineKinds.{is_against_line, is_needs_line}
use Rattle.relation_fields.specs.declared.packages.PackageFacts.{PackageFacts}
use Rattle.sample_suite.specs.SampleText.{sample_text}
use Rattle.coinst_run.specs.{declared.answer.ReportVerdict.TheVariants.{Done}, Answer.{reported}}
use Rattle.coinst_run.specs.{Course.{Course, answers, then_on}, Index.{Index, checked_index}}
use Rattle.coinst_run.specs.{IndexKernel.{ClassedKernel, members_for}, Kernel.{kernel_of}}
use Rattle.coinst_run.specs.Lines.{size_line}

-- what stands for the path of the index, which is no file; its kernel is made without hold
abbrev pub sample_path : List ℕ
sample_path = codes "sample"

abbrev pub sample_limit : ℕ
sample_limit = 65536

-- the lines of the kernel's text
abbrev pub lines_for : List PackageFacts → ClassedKernel → List KernelLine
lines_for packages made =
    kernel_lines (format_of made.hold) made.repository (members_for packages made) made.held

-- the numbers of packages, of classes, and of the lines with a clause and with a conflict
unfoldable pub size_report : List PackageFacts → ClassedKernel → List ℕ
size_report packages made =
    size_line (length packages) (length made.repository.clauses)
    (count_by is_needs_line (lines_for packages made))
    (count_by is_against_line (lines_for packages made))

abbrev pub sample_answer : Index → Course
sample_answer index = then_on (kernel_of sample_path sample_limit false index) (λ kernel.
    answers (reported Done (size_report index.packages kernel)))

abbrev pub sample_course : ℕ → ℕ → Course
sample_course seed count =
    then_on (checked_index sample_path (sample_text seed count)) sample_answer
