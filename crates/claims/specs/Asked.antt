-- The settings with which an index is searched: those that are given, or else the defaults.
use Rattle.std.specs.Prelude.{◌≡◌, ℕ, Bool, Option, unwrap_or}
use Rattle.suite_compare.specs.Indexes.{SearchedIndex}

-- a number that is not given is the default, 10,000 failed leaves and 65,536 clauses
abbrev pub IsSearched : Option ℕ → Option ℕ → Bool → SearchedIndex → Type 0
IsSearched budget limit hold s =
    (s.budget ≡ unwrap_or budget 10000) × (s.limit ≡ unwrap_or limit 65536) × (s.hold ≡ hold)
