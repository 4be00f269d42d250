-- The state of all packages of a suite.
use Rattle.std.proofs.{Common.{◌≡◌, ℕ, ◌<◌, true, false, List, length, map, inl, inr, arith}, Math.ListN.{get_or-eq_default}, lemmas.Bool.{both_ways, cases_lt}}
use Rattle.std.proofs.lemmas.List.{length-map}
use Rattle.relation_fields.specs.{declared.packages.Home.{Home}, declared.packages.PackageFacts.{PackageFacts}}
use Rattle.repo_model.proofs.{Packages.{length_clauses}, SoundSuite.{suite_sound}}
use Rattle.repo_model.specs.Repository.{suite_repository}
use Rattle.row_book.specs.{Sets.{Is}, Sound.{OfPackages}}
use Rattle.status_check.specs.{Report.{all_of, IsStateOf}, declared.report.OwnState.{OwnState}, States.{set_state}}
use Rattle.status_check.proofs.States.{one_state, state_there}

-- all packages are packages
pub among_all : (packages : List PackageFacts) (n : ℕ) → Is (all_of packages) n → n < length packages
among_all packages n i = elim (cases_lt n (length packages)) [
  | inl l ↦ l
  | inr past ↦
      let long : length (map (λ facts. true) packages) ≡ length packages = length-map packages (λ facts. true) in
      absurd (both_ways (all_of packages n) (get_or-eq_default (map (λ facts. true) packages) false (omega (arith, long, past))) i)
]

all_within : (home : Home) (packages : List PackageFacts) → OfPackages (suite_repository home packages) (all_of packages)
all_within home packages n i = let l = among_all packages n i in omega (arith, l, length_clauses home packages)

-- the state of all packages of a suite, as a function
pub own_there : (home : Home) (packages : List PackageFacts) → IsStateOf (suite_repository home packages) (all_of packages) (set_state (suite_repository home packages) (all_of packages))
own_there home packages = state_there (suite_repository home packages) (all_of packages) (suite_sound home packages) (all_within home packages)

pub own_is : (home : Home) (packages : List PackageFacts) (state : OwnState) → IsStateOf (suite_repository home packages) (all_of packages) state → state ≡ set_state (suite_repository home packages) (all_of packages)
own_is home packages state is = one_state (suite_repository home packages) (all_of packages) state (set_state (suite_repository home packages) (all_of packages)) is (own_there home packages)
