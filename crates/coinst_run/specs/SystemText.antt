-- The text of the report on an installed system.
use Rattle.std.specs.Prelude.{⊤, ℕ, ◌<◌, Bool, false, not, List, [], ◌++◌, codes, filter, length}
use Rattle.std.specs.{Prelude.{if◌then◌else◌, slice_index_or}, List.{flat_map}}
use Rattle.status_check.specs.declared.report.HaveLine.{HaveLine}
use Rattle.status_check.specs.declared.report.OwnState.{OwnState}
use Rattle.status_check.specs.declared.report.OwnState.TheVariants.{Healthy, Unhit, Clash}
use Rattle.status_check.specs.declared.report.StatusReport.{StatusReport}
use Rattle.status_check.specs.declared.report.SuiteState.{SuiteState}
use Rattle.status_check.specs.declared.report.SuiteState.TheVariants.{Yes, No, Spent}
use Rattle.coinst_run.specs.declared.answer.ReportVerdict.{ReportVerdict}
use Rattle.coinst_run.specs.declared.answer.ReportVerdict.TheVariants.{Done, Negative, Undecided}
use Rattle.coinst_run.specs.Lines.{counted_line, end_text, line_of_text, pair_text, versioned_text}

-- the index has it, or lacks it
abbrev pub is_had : HaveLine → Bool
is_had line = line.had

abbrev pub is_lacking : HaveLine → Bool
is_lacking line = not line.had

-- each own package is printed with its version as the status file writes it
abbrev pub have_text : HaveLine → List ℕ
have_text line = pair_text (if line.had then codes "have" else codes "lack") line.name line.version

-- the own package of a number, counted from 0
abbrev pub no_line : HaveLine
no_line = record { name = []; version = []; had = false }

abbrev pub line_at : List HaveLine → ℕ → HaveLine
line_at lines n = slice_index_or lines n no_line

-- an own package has a need that none of them meets, or two of them conflict
abbrev pub unhit_text : HaveLine → List ℕ
unhit_text line = pair_text (codes "self unhit") line.name line.version

abbrev pub clash_text : HaveLine → HaveLine → List ℕ
clash_text first second = pair_text (codes "self clash") (versioned_text first.name first.version)
    (versioned_text second.name second.version)

-- whether the own packages are healthy by themselves
abbrev pub own_text : List HaveLine → OwnState → List ℕ
own_text lines Healthy = line_of_text (codes "self healthy")
own_text lines (Unhit n) = unhit_text (line_at lines n)
own_text lines (Clash first second) = clash_text (line_at lines first) (line_at lines second)

-- the packages that a state names are among the lines
abbrev pub AreOfLines : List HaveLine → OwnState → Type 0
AreOfLines lines Healthy = ⊤
AreOfLines lines (Unhit n) = n < length lines
AreOfLines lines (Clash first second) = (first < length lines) × (second < length lines)

-- whether those that the index has can be installed from it together
abbrev pub suite_text : ℕ → SuiteState → List ℕ
suite_text budget Yes = line_of_text (codes "suite yes")
suite_text budget No = line_of_text (codes "suite no")
suite_text budget (Spent failed) = counted_line (codes "suite undecided ") budget

-- the own packages, how many installed ones are foreign, the two answers, and how many own packages
-- the index has, and how many it lacks
unfoldable pub system_text : ℕ → StatusReport → List ℕ
system_text budget report =
    flat_map have_text report.lines ++ counted_line (codes "foreign ") report.foreign
    ++ own_text report.lines report.own ++ suite_text budget report.verdict
    ++ end_text (length (filter is_had report.lines)) (length (filter is_lacking report.lines))

-- what the index answers as a whole
abbrev pub suite_verdict : SuiteState → ReportVerdict
suite_verdict Yes = Done
suite_verdict No = Negative
suite_verdict (Spent failed) = Undecided

-- the own packages are not healthy, or the index says no; or the index is undecided
abbrev pub system_verdict : OwnState → SuiteState → ReportVerdict
system_verdict Healthy state = suite_verdict state
system_verdict (Unhit n) state = Negative
system_verdict (Clash first second) state = Negative
