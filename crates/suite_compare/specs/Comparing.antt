-- for the bodies of this crate alone
-- A comparison over kinds of names.
use Rattle.std.specs.Prelude.{◌≡◌, ℕ, ◌<◌, Bool, List, [], ◌∷◌, ◌++◌, filter, length}
use Rattle.std.specs.{Prelude.{slice_index_or}, List.{flat_map}}
use Rattle.row_book.specs.Repository.{Repository}
use Rattle.clause_solver.specs.declared.outcomes.Verdict.{Verdict}
use Rattle.relation_fields.specs.declared.packages.Home.{Home}
use Rattle.relation_fields.specs.declared.packages.PackageFacts.{PackageFacts}
use Rattle.suite_compare.specs.{Bad.{AreSingles}, Groups.{AreEach}}
use Rattle.suite_compare.specs.Kinds.{alone_in, kernel_in, AreKinds}
use Rattle.suite_compare.specs.{Sided.{named_verdict, AreVerdicts}, Names.{names_of_both}}
use Rattle.suite_compare.specs.Partners.{new_kind, old_kind, ArePartners}
use Rattle.suite_compare.specs.Report.{finding, is_yes, pair_line, single_line, with_later}
use Rattle.suite_compare.specs.{Telling.{no_partners}, declared.new_side.NewSide.{NewSide}}
use Rattle.suite_compare.specs.{declared.old_side.OldSide.{OldSide}, declared.side.Side.{Side}}
use Rattle.suite_compare.specs.declared.gather.KindPairTable.{KindPairTable}
use Rattle.suite_compare.specs.declared.gather.Partners.{Partners}
use Rattle.suite_compare.specs.declared.report.ReportLine.{ReportLine}
use Rattle.suite_compare.specs.{declared.verdicts.Bad.{Bad}, declared.judge.Judge.{Judge}}

-- for each of n names one of the kinds of a side
pub record IsSide (n : ℕ) (side : Side) (of : List ℕ) : Type 0 where
  pub long : length of ≡ n
  pub within : (i : ℕ) → i < n → slice_index_or of i 0 < length side.judge.kinds.items
  pub told : AreSingles side.judge side.singles.items

-- the name goes by itself
abbrev pub goes_alone : Side → ℕ → Bool
goes_alone side i = is_yes (alone_in side.judge (slice_index_or side.kind_of.items i 0))

-- the partners of each of the first n pairs of kinds, and of each pair
abbrev pub IsTableTo : ℕ → Judge → KindPairTable → List (List Bad) → List Partners → Type 0
IsTableTo n old table bad partners = AreEach (λ a beside. ArePartners old table (old_kind table a)
    (slice_index_or bad (new_kind table a) []) beside) no_partners n partners

abbrev pub IsTable : Judge → KindPairTable → List (List Bad) → List Partners → Type 0
IsTable old table bad partners =
    IsTableTo (length table.kind_pairs.new.items) old table bad partners

-- the lines of single names and of pairs of names, and so the report, by the verdicts on lists of
-- names
abbrev pub told_singles : (List (List ℕ) → Verdict) → (List (List ℕ) → Verdict) →
    List (List ℕ) → List ReportLine
told_singles old new names =
    flat_map (λ a. single_line a (finding (old (a ∷ [])) (new (a ∷ [])))) names

abbrev pub told_pairs : (List (List ℕ) → Verdict) → (List (List ℕ) → Verdict) →
    List (List ℕ) → List ReportLine
told_pairs old new names = with_later
    (λ a b. pair_line a b (finding (old (a ∷ (b ∷ []))) (new (a ∷ (b ∷ [])))))
    (filter (λ a. is_yes (new (a ∷ []))) names)

abbrev pub told_report : (List (List ℕ) → Verdict) → (List (List ℕ) → Verdict) →
    List (List ℕ) → List ReportLine
told_report old new names = told_singles old new names ++ told_pairs old new names

-- a side of these lists of classes, asked of this kernel within this budget
pub record IsSideBy (K : Repository) (budget : ℕ) (lists : List (List ℕ))
    (side : Side) : Type 0 where
  pub side_is : IsSide (length lists) side side.kind_of.items
  pub asked : kernel_in side.judge ≡ K
  pub spends : side.judge.budget ≡ budget
  pub kinds : AreKinds lists side.judge.kinds.items side.kind_of.items

-- the verdicts on names in the suite of an old side, within its budget
abbrev pub old_verdict : OldSide → List (List ℕ) → Verdict
old_verdict old = named_verdict old.view.now.limit old.view.now.kernel.hold old.view.now.suite.home
    old.view.now.suite.packages old.budget

-- the verdicts on names in another suite, by a kernel that was made as that of the old side
abbrev pub new_verdict : OldSide → Home → List PackageFacts → List (List ℕ) → Verdict
new_verdict old home stanzas =
    named_verdict old.view.now.limit old.view.now.kernel.hold home stanzas old.budget

-- the verdicts on the names of both sides
pub record AreBothVerdicts (made : NewSide) (v w : List (List ℕ) → Verdict) : Type 0 where
  pub old : AreVerdicts made.old.now made.common.kind_of.items made.common.names.items v
  pub new : AreVerdicts made.side made.side.kind_of.items made.common.names.items w

-- the names are those of the old side that other packages bear too, and the other side is that of
-- these packages
pub record IsNewSide (old : OldSide) (home : Home) (stanzas : List PackageFacts)
    (made : NewSide) : Type 0 where
  pub names_are : made.common.names.items ≡ names_of_both old.view.now.suite.packages stanzas
  pub are : AreBothVerdicts made (old_verdict old) (new_verdict old home stanzas)
