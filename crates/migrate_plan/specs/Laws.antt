-- What the test of packages decides.
use Rattle.std.specs.Prelude.{◌≡◌, ◌↔◌, true}
use Rattle.relation_fields.specs.declared.packages.PackageFacts.{PackageFacts}
use Rattle.migrate_plan.specs.Differing.{says_same}

-- equal texts of versions, needs, conflicts and provides
pub record SaysSame (one other : PackageFacts) : Type 0 where
  pub version : one.version ≡ other.version
  pub needs : one.needs ≡ other.needs
  pub against : one.against ≡ other.against
  pub provides : one.provides ≡ other.provides

-- packages say the same exactly if what they say is equal
abbrev pub TestIsEquality : Type 0
TestIsEquality = (one other : PackageFacts) → (says_same one other ≡ true ↔ SaysSame one other)
