use Rattle.std.{proofs.Common.{◌≡◌, List, [], ◌∷◌, refl, ◌∙◌, ap, Some}, specs.Prelude.{slice_get}}
use Rattle.suite_compare.{specs.Report.{first_told}, specs.declared.report.ReportLine.{ReportLine}}
use Rattle.suite_compare.proofs.report.copy_of_first.Goals as goal

-- the first of some lines is the one at the first place
first_is : (lines : List ReportLine) → slice_get lines 0 ≡ first_told lines
first_is [] = refl
first_is (line ∷ lines) = refl

pub returns-in-None : goal.returns-in-None
returns-in-None c = c.in-None.ensures.value ∙ ap (λ z. slice_get z 0) c.as_slice.ensures ∙ first_is c.args.lines.now

pub returns-in_ok-line-in-Some : goal.returns-in_ok-line-in-Some
returns-in_ok-line-in-Some c = ap Some c.in_ok-line-in-Some.ensures ∙ c.in-Some.ensures.value ∙ ap (λ z. slice_get z 0) c.as_slice.ensures ∙ first_is c.args.lines.now
