-- When no plan is made of two indexes. Each of these is a refusal, and the first of them is named:
--   1. both have a common architecture, and these differ;
--   2. more than 256 names differ;
--   3. the packages of the old index and those of the new one whose names differ are more than
--      200,000;
--   4. the two texts and two line feeds have more than 1,073,741,824 bytes.
use Rattle.std.specs.Prelude.{◌≡◌, ⊤, ℕ, ◌+◌, Bool, false, not, nat_lt, if◌then◌else◌, List, Option}
use Rattle.std.specs.{Prelude.{Some, None, filter, length}, Option.{option_or}, Str.{bytes_eq}}
use Rattle.repo_model.specs.Limits.{most_bytes, most_packages}
use Rattle.relation_fields.specs.declared.packages.Home.{Home}
use Rattle.relation_fields.specs.declared.packages.PackageFacts.{PackageFacts}
use Rattle.suite_compare.specs.Refusals.{home_in, packages_in}
use Rattle.migrate_plan.specs.{Differing.{differing}, Mix.{is_taken}}
use Rattle.migrate_plan.specs.declared.refusals.PlanError.{PlanError}
use Rattle.migrate_plan.specs.declared.refusals.PlanError.TheVariants.{Homes, Names, Packages}
use Rattle.migrate_plan.specs.declared.refusals.PlanError.TheVariants.{TooLong, Memory}

-- both are there, and differ
abbrev pub are_apart : Option (List ℕ) → Option (List ℕ) → Bool
are_apart (Some one) (Some other) = not (bytes_eq one other)
are_apart (Some one) None = false
are_apart None other = false

abbrev pub homes_refusal : Home → Home → Option PlanError
homes_refusal old new = if are_apart old.name new.name then Some Homes else None

-- a refusal of a count above the most that is allowed
abbrev pub above : ℕ → (ℕ → PlanError) → ℕ → Option PlanError
above most refusal count = if nat_lt most count then Some (refusal count) else None

-- the packages of the old index and those of the new one whose names are among these
abbrev pub packages_with : List PackageFacts → List PackageFacts → List (List ℕ) → ℕ
packages_with old new names = length old + length (filter (λ facts. is_taken names facts.name) new)

-- the bytes of two texts and two line feeds
abbrev pub bytes_with : List ℕ → List ℕ → ℕ
bytes_with old new = length old + length new + 2

-- the first refusal
unfoldable pub plan_refusal : List ℕ → List ℕ → Option PlanError
plan_refusal old new =
    let names = differing (packages_in old) (packages_in new) in
    option_or (homes_refusal (home_in old) (home_in new))
    (option_or (above 256 Names (length names))
    (option_or
    (above most_packages Packages (packages_with (packages_in old) (packages_in new) names))
    (above most_bytes TooLong (bytes_with old new))))

-- a fact for each refusal, and nothing for want of memory
abbrev pub UnlessOutOfMemory : PlanError → Type 0 → Type 0
UnlessOutOfMemory Homes P = P
UnlessOutOfMemory (Names count) P = P
UnlessOutOfMemory (Packages count) P = P
UnlessOutOfMemory (TooLong count) P = P
UnlessOutOfMemory Memory P = ⊤

-- a refusal is the one that is there, unless memory ran out
abbrev pub RefusesPlan : PlanError → Option PlanError → Type 0
RefusesPlan error there = UnlessOutOfMemory error (there ≡ Some error)
