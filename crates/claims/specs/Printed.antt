-- The printed lines of a comparison.
use Rattle.std.specs.{Prelude.{ℕ, List, ◌++◌, codes, length, filter, if◌then◌else◌}, Fmt.{decimal}}
use Rattle.std.specs.List.{flat_map, list_any}
use Rattle.coinst_words.specs.Usage.{Text}
use Rattle.suite_compare.specs.Listing.{is_broken, names_of, says_open}
use Rattle.suite_compare.specs.declared.report.ReportLine.{ReportLine}
use Rattle.kernel_text.specs.KernelLines.{with_feed}

-- its text: `broken` or `open`, and the names, with a space before each
abbrev pub printed_line : ReportLine → Text
printed_line l = with_feed ((if is_broken l then codes "broken" else codes "open")
    ++ flat_map (λ name. codes " " ++ name) (names_of l))

-- the lines, and the last one with the numbers of broken and of open ones
unfoldable pub printed_comparison : List ReportLine → Text
printed_comparison lines =
    flat_map printed_line lines
    ++ with_feed (codes "end " ++ (decimal (length (filter is_broken lines))
    ++ (codes " " ++ decimal (length (filter says_open lines)))))

-- the status of a comparison: 1 if a line is broken, or else 8 if a line is open, or else 0
abbrev pub comparison_status : List ReportLine → ℕ
comparison_status lines = if list_any is_broken lines then 1
    else (if list_any says_open lines then 8 else 0)
