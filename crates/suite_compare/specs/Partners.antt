-- for the bodies of this crate alone
-- The names that share a line of the report with those of a pair of kinds. A name has one kind in
-- the old suite and one in the new.
use Rattle.std.specs.Prelude.{◌≡◌, ◌↔◌, ℕ, ◌<◌, Bool, true, false, if◌then◌else◌, is_some, List, []}
use Rattle.std.specs.{Prelude.{length, Option, Some, None, slice_index_or}, List.{flat_map}}
use Rattle.listed.specs.Lists.{In, Ascending}
use Rattle.row_book.specs.Book.{listed_for}
use Rattle.clause_solver.specs.declared.outcomes.Verdict.{Verdict}
use Rattle.suite_compare.specs.declared.gather.KindPairTable.{KindPairTable}
use Rattle.suite_compare.specs.declared.gather.Partners.{Partners}
use Rattle.suite_compare.specs.declared.report.Finding.{Finding}
use Rattle.suite_compare.specs.declared.report.Finding.TheVariants.{Broken, Open}
use Rattle.suite_compare.specs.{declared.verdicts.Bad.{Bad}, declared.judge.Judge.{Judge}}
use Rattle.suite_compare.specs.{Groups.{ArePlaces}, Kinds.{together_in}, Report.{finding}}

-- the kind of a pair in the old suite, and in the new one
abbrev pub old_kind : KindPairTable → ℕ → ℕ
old_kind table kind_pair = slice_index_or table.kind_pairs.old.items kind_pair 0

abbrev pub new_kind : KindPairTable → ℕ → ℕ
new_kind table kind_pair = slice_index_or table.kind_pairs.new.items kind_pair 0

-- the finding is that a search spent its budget
abbrev pub is_open : Option Finding → Bool
is_open None = false
is_open (Some Broken) = false
is_open (Some Open) = true

-- the names, if their finding is of the wanted sort
abbrev pub picked : (Option Finding → Bool) → Option Finding → List ℕ → List ℕ
picked wanted f names = if wanted f then names else []

-- The names of a pair of kinds, if the finding on it is of the wanted sort. The finding is by two
-- verdicts: that of a kind in the old suite with the pair's old kind, and the given one in the new
-- suite.
abbrev pub beside : (Option Finding → Bool) → Judge → KindPairTable → ℕ → Verdict → ℕ → List ℕ
beside wanted judge table first verdict kind_pair = picked wanted
    (finding (together_in judge first (old_kind table kind_pair)) verdict)
    (listed_for table.members.items kind_pair)

-- such names of all pairs whose kind in the new suite is the bad one
abbrev pub beside_all : (Option Finding → Bool) → Judge → KindPairTable → ℕ → Bad → List ℕ
beside_all wanted judge table first b =
    flat_map (beside wanted judge table first b.verdict) (listed_for table.by_new.items b.kind)

-- the names of each pair of kinds, and the pairs of each kind in the new suite
pub record IsKindPairTable (table : KindPairTable) : Type 0 where
  pub same : length table.kind_pairs.old.items ≡ length table.kind_pairs.new.items
  pub members_long : length table.members.items ≡ length table.kind_pairs.new.items
  pub placed : ArePlaces table.kind_pairs.pair_of.items table.members.items
  pub sorted : ArePlaces table.kind_pairs.new.items table.by_new.items
  pub news : (a : ℕ) → a < length table.kind_pairs.new.items →
      new_kind table a < length table.by_new.items

-- the partners, and those whose line is open, each list ascending
pub record ArePartners (judge : Judge) (table : KindPairTable) (first : ℕ) (list : List Bad)
    (partners : Partners) : Type 0 where
  pub told_ascending : Ascending partners.told
  pub undecided_ascending : Ascending partners.undecided
  pub told : (j : ℕ) → In j partners.told
      ↔ In j (flat_map (beside_all is_some judge table first) list)
  pub undecided_told : (j : ℕ) → In j partners.undecided
      ↔ In j (flat_map (beside_all is_open judge table first) list)
