-- When no view is made of a suite.
use Rattle.std.specs.Prelude.{◌≡◌, ⊤, ℕ, Bool, List, map, Some, None}
use Rattle.row_book.specs.Rounds.{PassedRound, limit_at}
use Rattle.relation_fields.specs.declared.packages.Home.{Home}
use Rattle.relation_fields.specs.declared.packages.PackageFacts.{PackageFacts}
use Rattle.repo_model.specs.{Facts.{facts_of}, FirstFault.{first_fault, home_of, stanzas_of}}
use Rattle.repo_model.specs.{Repository.{suite_repository}, Stanzas.{stanza_at}}
use Rattle.suite_compare.specs.declared.refusals.LimitError.{LimitError}
use Rattle.suite_compare.specs.declared.refusals.LimitError.TheVariants.{Limit, Memory}
use Rattle.suite_compare.specs.declared.refusals.ViewError.{ViewError}
use Rattle.suite_compare.specs.declared.refusals.ViewError.TheVariants as view

-- the packages of an index, and its common architecture
abbrev pub packages_in : List ℕ → List PackageFacts
packages_in text = map facts_of (stanzas_of text)

abbrev pub home_in : List ℕ → Home
home_in text = record { name = home_of (stanzas_of text) }

-- the clause limit is passed, in this round and with this package, which has this name and version
pub record PassesLimit (home : Home) (stanzas : List PackageFacts) (limit : ℕ) (hold : Bool)
    (passed : PassedRound) (name version : List ℕ) : Type 0 where
  pub there : limit_at limit hold (suite_repository home stanzas) ≡ Some passed
  pub name_is : name ≡ (stanza_at stanzas passed.over).name
  pub version_is : version ≡ (stanza_at stanzas passed.over).version

-- a refusal is the limit that is passed, unless memory ran out
abbrev pub RefusesSuite : Home → List PackageFacts → ℕ → Bool → LimitError → Type 0
RefusesSuite home stanzas limit hold (Limit round gone over count name version) =
    PassesLimit home stanzas limit hold (record {
      number = round;
      gone = gone;
      over = over;
      count = count;
    }) name version
RefusesSuite home stanzas limit hold Memory = ⊤

-- a refusal is the first fault of the index, or the limit that an index without fault passes,
-- unless memory ran out
abbrev pub RefusesIndex : List ℕ → ℕ → Bool → ViewError → Type 0
RefusesIndex text limit hold (view.Index fault) = first_fault text ≡ Some fault
RefusesIndex text limit hold (view.Limit round gone over count name version) =
    (first_fault text ≡ None) × PassesLimit (home_in text) (packages_in text) limit hold
    (record { number = round; gone = gone; over = over; count = count }) name version
RefusesIndex text limit hold view.Memory = ⊤
