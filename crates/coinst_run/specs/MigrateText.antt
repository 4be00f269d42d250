-- The text of a plan.
use Rattle.std.specs.Prelude.{ℕ, Bool, true, false, not, List, ◌++◌, codes, filter, length}
use Rattle.std.specs.{Prelude.{if◌then◌else◌}, List.{flat_map, list_any}}
use Rattle.migrate_plan.specs.declared.plan.PlanLine.{PlanLine}
use Rattle.migrate_plan.specs.declared.plan.PlanLine.TheVariants.{Take, LeftLimit, LeftLine}
use Rattle.coinst_run.specs.declared.answer.ReportVerdict.{ReportVerdict}
use Rattle.coinst_run.specs.declared.answer.ReportVerdict.TheVariants.{Done, Negative, Undecided}
use Rattle.coinst_run.specs.CompareText.{comparison_line}
use Rattle.coinst_run.specs.Lines.{end_text, pair_text, single_text}
use Rattle.suite_compare.specs.Listing.{is_broken}

-- a name that is taken; one that is left since the limit is passed; and one that is left with a
-- line of a comparison
abbrev pub plan_line : PlanLine → List ℕ
plan_line (Take name) = single_text (codes "take") name
plan_line (LeftLimit name) = pair_text (codes "left") name (codes "limit")
plan_line (LeftLine name line) = codes "left " ++ name ++ codes " " ++ comparison_line line

abbrev pub is_take : PlanLine → Bool
is_take (Take name) = true
is_take (LeftLimit name) = false
is_take (LeftLine name line) = false

abbrev pub is_not_taken : PlanLine → Bool
is_not_taken line = not (is_take line)

-- the name is left since something would be broken
abbrev pub would_break : PlanLine → Bool
would_break (Take name) = false
would_break (LeftLimit name) = false
would_break (LeftLine name line) = is_broken line

-- the lines in their order, and how many names are taken, and how many left
unfoldable pub plan_text : List PlanLine → List ℕ
plan_text lines = flat_map plan_line lines
    ++ end_text (length (filter is_take lines)) (length (filter is_not_taken lines))

-- a name is left since something would be broken, or a name is left, or neither
abbrev pub plan_verdict : List PlanLine → ReportVerdict
plan_verdict lines = if list_any would_break lines then Negative
    else (if list_any is_not_taken lines then Undecided else Done)
