-- for the bodies of this crate alone
-- The lines of names by their places.
use Rattle.std.specs.Prelude.{ℕ, if◌then◌else◌, List, [], Some, filter, ltb, slice_index_or}
use Rattle.std.specs.List.{flat_map}
use Rattle.listed.specs.Lists.{has}
use Rattle.row_book.specs.Book.{listed_for}
use Rattle.suite_compare.specs.declared.gather.Partners.{Partners}
use Rattle.suite_compare.specs.declared.report.Finding.{Finding}
use Rattle.suite_compare.specs.declared.report.Finding.TheVariants.{Broken, Open}
use Rattle.suite_compare.specs.{declared.report.ReportLine.{ReportLine}, Report.{pair_line}}

-- the finding on a partner
abbrev pub found_beside : Partners → ℕ → Finding
found_beside partners j = if has partners.undecided j then Open else Broken

-- the line of a name with a partner
abbrev pub told_pair : List (List ℕ) → Partners → ℕ → ℕ → List ReportLine
told_pair names partners i j =
    pair_line (listed_for names i) (listed_for names j) (Some (found_beside partners j))

-- the partners of a pair of kinds
abbrev pub no_partners : Partners
no_partners = record { told = []; undecided = [] }

abbrev pub partners_at : List Partners → ℕ → Partners
partners_at table a = slice_index_or table a no_partners

-- the lines of a name with its partners that come later
abbrev pub told_after : List (List ℕ) → List ℕ → List Partners → ℕ → List ReportLine
told_after names kind_pair_of table i =
    let partners = partners_at table (slice_index_or kind_pair_of i 0) in
    flat_map (told_pair names partners i) (filter (ltb i) partners.told)
