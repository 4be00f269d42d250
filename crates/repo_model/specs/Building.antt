-- for the bodies of this crate alone
-- A suite that is being read, stanza by stanza.
use Rattle.std.specs.{Prelude.{◌≡◌, Bool}, Coded.{Coded-set, coded_bool}}
use Rattle.virtual_provides.specs.Bearers.{IsBuiltFrom, IsBuiltFrom-prop}
use Rattle.repo_model.specs.Needs.{needs-prop, needs_of_all}
use Rattle.repo_model.specs.declared.building.Building.{Building}

-- the packages are found by their names and versions, and their elements are those that were read
pub record IsBuilt (building : Building) : Type 0 where
  pub named : IsBuiltFrom building.packages building.names
  pub noted : building.elements ≡ needs_of_all building.packages

-- This fact has one proof at most, so that a value may keep it.
pub IsBuilt-prop : (building : Building) → IsProp (IsBuilt building)
IsBuilt-prop building =
    let named : IsProp (IsBuiltFrom building.packages building.names) =
    IsBuiltFrom-prop building.packages building.names in
    let noted : IsProp (building.elements ≡ needs_of_all building.packages) =
    needs-prop building.elements building.packages in
    let bools : IsSet Bool = Coded-set coded_bool in
    hlevel (named, noted, bools)
