-- The text of a comparison.
use Rattle.std.specs.Prelude.{ℕ, List, ◌++◌, codes, filter, length, if◌then◌else◌}
use Rattle.std.specs.List.{flat_map, list_any}
use Rattle.suite_compare.specs.Listing.{is_broken, says_open}
use Rattle.suite_compare.specs.declared.report.ReportLine.{ReportLine}
use Rattle.suite_compare.specs.declared.report.ReportLine.TheVariants.{Broken1, Broken2, Open1}
use Rattle.suite_compare.specs.declared.report.ReportLine.TheVariants.{Open2}
use Rattle.coinst_run.specs.declared.answer.ReportVerdict.{ReportVerdict}
use Rattle.coinst_run.specs.declared.answer.ReportVerdict.TheVariants.{Done, Negative, Undecided}
use Rattle.coinst_run.specs.Lines.{end_text as counts_text, pair_text, single_text}

abbrev pub comparison_line : ReportLine → List ℕ
comparison_line (Broken1 name) = single_text (codes "broken") name
comparison_line (Broken2 first second) = pair_text (codes "broken") first second
comparison_line (Open1 name) = single_text (codes "open") name
comparison_line (Open2 first second) = pair_text (codes "open") first second

-- how many lines are broken, and how many open
unfoldable pub end_text : List ReportLine → List ℕ
end_text lines = counts_text (length (filter is_broken lines)) (length (filter says_open lines))

-- the lines in their order, and the last one
unfoldable pub comparison_text : List ReportLine → List ℕ
comparison_text lines = flat_map comparison_line lines ++ end_text lines

-- something is broken, or something is open, or neither
abbrev pub comparison_verdict : List ReportLine → ReportVerdict
comparison_verdict lines = if list_any is_broken lines then Negative
    else (if list_any says_open lines then Undecided else Done)
