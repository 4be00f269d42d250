-- Which faults a status file never has.
use Rattle.std.specs.Prelude.{◌≡◌, ℕ, List, Some, None}
use Rattle.repo_model.specs.FirstFault.{first_fault}
use Rattle.repo_model.specs.declared.fault.IndexFault.TheVariants.{BadArchitecture, Mixed}
use Rattle.suite_compare.specs.Refusals.{home_in}
use Rattle.status_check.specs.Own.{status_fault}

-- against an index without a fault no architecture of a status file is one: an installed stanza
-- with such an architecture is foreign
abbrev pub NoArchitectureFault : Type 0
NoArchitectureFault = (index file : List ℕ) (line : ℕ) → first_fault index ≡ None
    → (¬ (status_fault (home_in index) file ≡ Some (BadArchitecture line)))
    × (¬ (status_fault (home_in index) file ≡ Some (Mixed line)))
