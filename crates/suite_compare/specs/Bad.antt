-- Which kinds are bad with a kind: those that go by themselves, if the verdict on the two together
-- is not yes.
use Rattle.std.specs.Prelude.{◌≡◌, ℕ, ◌<◌, ◌==◌, ◌⊎◌, Bool, true, not, ◌&&◌, if◌then◌else◌, List}
use Rattle.std.specs.{Prelude.{[], ◌∷◌, length, map, slice_index_or}, List.{find}}
use Rattle.std.specs.Option.{option_map_or}
use Rattle.listed.specs.Lists.{In}
use Rattle.clause_solver.specs.declared.outcomes.Verdict.{Verdict}
use Rattle.clause_solver.specs.declared.outcomes.Verdict.TheVariants.{Yes, Spent}
use Rattle.suite_compare.specs.{declared.verdicts.Bad.{Bad}, declared.judge.Judge.{Judge}}
use Rattle.suite_compare.specs.{Groups.{AreEach}, Report.{is_yes}}
use Rattle.suite_compare.specs.Kinds.{alone, alone_in, kernel_in, together_in}

-- the verdict on each kind by itself
abbrev pub AreSingles : Judge → List Verdict → Type 0
AreSingles judge singles = singles ≡ map (alone (kernel_in judge) judge.budget) judge.kinds.items

abbrev pub bad : ℕ → Verdict → Bad
bad k verdict = record { kind = k; verdict = verdict }

-- a kind that goes by itself is bad with another one unless the verdict on both together is yes;
-- then it has an entry
abbrev pub is_bad : Judge → List Verdict → ℕ → ℕ → Bool
is_bad judge singles kind other =
    is_yes (slice_index_or singles other Spent) && not (is_yes (together_in judge kind other))

abbrev pub bad_entry : Judge → List Verdict → ℕ → ℕ → List Bad
bad_entry judge singles kind other =
    if is_bad judge singles kind other then bad other (together_in judge kind other) ∷ [] else []

-- kinds that go by themselves, with the verdict on both together, and each such kind unless that is
-- yes
pub record AreBad (judge : Judge) (kind : ℕ) (list : List Bad) : Type 0 where
  pub within : (b : Bad) → In b list → b.kind < length judge.kinds.items
  pub single : (b : Bad) → In b list → is_yes (alone_in judge b.kind) ≡ true
  pub verdict : (b : Bad) → In b list → b.verdict ≡ together_in judge kind b.kind
  pub whole : is_yes (alone_in judge kind) ≡ true → (k : ℕ) → k < length judge.kinds.items →
      is_yes (alone_in judge k) ≡ true →
      ((b : Bad) × In b list × (b.kind ≡ k)) ⊎ (together_in judge kind k ≡ Yes)

-- the verdict with a kind by a list of bad kinds: that of its entry, or else yes
abbrev pub entered_verdict : List Bad → ℕ → Verdict
entered_verdict list kind = option_map_or (λ b. b.verdict) (find (λ b. b.kind == kind) list) Yes

-- the bad kinds of each of the first n kinds
abbrev pub AreAllBadTo : Judge → List (List Bad) → ℕ → Type 0
AreAllBadTo judge lists n = AreEach (AreBad judge) [] n lists

-- the bad kinds of each kind
abbrev pub AreAllBad : Judge → List (List Bad) → Type 0
AreAllBad judge lists = AreAllBadTo judge lists (length judge.kinds.items)
