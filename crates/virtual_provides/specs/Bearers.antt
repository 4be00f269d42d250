-- Packages under the names that they have and the names that they provide: Debian Policy 7.5.
use Rattle.std.specs.Prelude.{◌≡◌, ℕ, Bool, true, ◌⊎◌, List, Option, Some, None, slice_get}
use Rattle.std.specs.{Coded.{Coded-set, coded_bool}, Option.{option_and_then}}
use Rattle.deb_version.specs.Grammar.{is_version}
use Rattle.listed.specs.Lists.{In}
use Rattle.relation_fields.specs.declared.packages.PackageFacts.{PackageFacts}
use Rattle.relation_fields.specs.{declared.relations.Atom.{Atom}, declared.relations.Op.{Op}}
use Rattle.relation_fields.specs.declared.relations.Op.TheVariants.{Earlier, EarlierEqual, Exactly}
use Rattle.relation_fields.specs.declared.relations.Op.TheVariants.{LaterEqual, Later}
use Rattle.relation_fields.specs.declared.relations.Provide.{Provide}
use Rattle.package_register.specs.Registers.{numbers_exact, numbers_named, IsFound, IsRegisterOf}
use Rattle.package_register.specs.declared.register.Register.{Register}
use Rattle.virtual_provides.specs.declared.names.NameTable.{NameTable}

abbrev pub own_name : PackageFacts → List ℕ
own_name facts = facts.name

abbrev pub own_version : PackageFacts → List ℕ
own_version facts = facts.version

-- the version, if it is asked for exactly
abbrev pub version_asked : Op → List ℕ → Option (List ℕ)
version_asked Earlier version = None
version_asked EarlierEqual version = None
version_asked Exactly version = Some version
version_asked LaterEqual version = None
version_asked Later version = None

-- the version that an atom asks for exactly
abbrev pub exact_version : Atom → Option (List ℕ)
exact_version atom = option_and_then (λ bound. version_asked bound.op bound.version) atom.bound

-- what is gone through for an atom: all that is found under its name, or what is found under it
-- with the version that is asked for
abbrev pub AreFor : Register → Atom → List ℕ → Type 0
AreFor register atom numbers = (numbers ≡ numbers_named register atom.name)
    ⊎ ((version : List ℕ) × (exact_version atom ≡ Some version) × (is_version version ≡ true)
    × (numbers ≡ numbers_exact register atom.name version))

-- each provide of each package is found by the number of the package: under its name, and if it has
-- a version under the name with that version
abbrev pub HasProvides : List PackageFacts → Register → Type 0
HasProvides packages register = (n : ℕ) (facts : PackageFacts) → slice_get packages n ≡ Some facts →
    (provide : Provide) → In provide facts.provides →
    IsFound register provide.name provide.version n

-- each package is found by its own name and version, and by those of each of its provides
pub record IsBuiltFrom (packages : List PackageFacts) (table : NameTable) : Type 0 where
  pub own : IsRegisterOf own_name own_version packages table.register
  pub provided : HasProvides packages table.register

-- This fact has one proof at most, so that a value may keep it.
pub IsBuiltFrom-prop : (packages : List PackageFacts) (table : NameTable) →
    IsProp (IsBuiltFrom packages table)
IsBuiltFrom-prop packages table = let bools : IsSet Bool = Coded-set coded_bool in hlevel bools
