-- What the line on the size of a sample suite's kernel means.
use Rattle.std.proofs.Common.{◌≡◌, ℕ, false, List, [], refl}
use Rattle.byte_flow.specs.History.{OpenedFile}
use Rattle.sample_suite.specs.SampleText.{sample_text}
use Rattle.suite_compare.specs.Refusals.{home_in, packages_in}
use Rattle.coinst_run.specs.{declared.answer.ReportVerdict.{ReportVerdict}, declared.answer.ReportVerdict.TheVariants.{Done}, Answer.{reported}}
use Rattle.coinst_run.specs.{Course.{answers}, IndexKernel.{index_kernel}, Meaning.{SizeMeans}, Outcome.{GivesAnswer}}
use Rattle.coinst_run.specs.Sample.{sample_answer, sample_course, sample_limit, sample_path, size_report}
use Rattle.coinst_run.proofs.{AnswerMeant.{told_means}, Given.{at_end, checked_read, limit_read}}

pub sample_report_means : (readings : List OpenedFile) (verdict : ReportVerdict) (report : List ℕ) (seed count : ℕ) → GivesAnswer (sample_course seed count) readings (reported verdict report) →
    (readings ≡ []) × (verdict ≡ Done) × SizeMeans (sample_text seed count) report
sample_report_means readings verdict report seed count e =
    let text : List ℕ = sample_text seed count in
    let checked = checked_read verdict report sample_path sample_answer text readings e in
    let line : List ℕ = size_report (packages_in text) (index_kernel sample_limit false (home_in text) (packages_in text)) in
    let made = limit_read verdict report sample_path sample_limit false text (λ kernel. answers (reported Done (size_report (packages_in text) kernel))) readings checked.1 in
    let end = at_end verdict report (reported Done line) readings made in
    let means : (verdict ≡ Done) × SizeMeans text report = told_means (λ said printed. (said ≡ Done) × SizeMeans text printed) (reported Done line) verdict report end.1 (refl, record { accepted = checked.0; line = refl }) in
    (end.0, means.0, means.1)
