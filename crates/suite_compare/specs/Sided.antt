-- What one side of a comparison says of names: verdicts on them and on pairs of them.
use Rattle.std.specs.Prelude.{◌≡◌, ℕ, ◌<◌, Bool, List, [], ◌∷◌, length, map, slice_index_or}
use Rattle.row_book.specs.Book.{listed_for}
use Rattle.clause_solver.specs.declared.outcomes.Verdict.{Verdict}
use Rattle.relation_fields.specs.declared.packages.Home.{Home}
use Rattle.relation_fields.specs.declared.packages.PackageFacts.{PackageFacts}
use Rattle.repo_model.specs.Goals.{any_version}
use Rattle.suite_compare.specs.{Asking.{verdict_in}, Kinds.{alone_in, together_in}}
use Rattle.suite_compare.specs.{Props.{verdict-set}, declared.side.Side.{Side}}

-- the verdicts on names and on pairs of names are those of their kinds
pub record AreVerdicts (side : Side) (of : List ℕ) (names : List (List ℕ))
    (v : List (List ℕ) → Verdict) : Type 0 where
  pub single : (i : ℕ) → i < length names →
      v (listed_for names i ∷ []) ≡ alone_in side.judge (slice_index_or of i 0)
  pub pair : (i j : ℕ) → i < length names → j < length names →
      v (listed_for names i ∷ (listed_for names j ∷ []))
      ≡ together_in side.judge (slice_index_or of i 0) (slice_index_or of j 0)

-- this has one proof at most, so that a struct may keep it
pub AreVerdicts-prop : (side : Side) (of : List ℕ) (names : List (List ℕ)) (v : List (List ℕ) →
    Verdict) → IsProp (AreVerdicts side of names v)
AreVerdicts-prop side of names v = hlevel verdict-set

-- the verdicts on names in a suite, as they are asked of its packages
abbrev pub named_verdict : ℕ → Bool → Home → List PackageFacts → ℕ → List (List ℕ) → Verdict
named_verdict limit hold home stanzas budget names =
    verdict_in limit hold home stanzas budget (map any_version names)
