-- Registers: an item with a name and a version is found under its name, and under its name with
-- each version that compares as equal to its own. A register may give more numbers than these, but
-- never fewer.
use Rattle.std.specs.Prelude.{◌≡◌, ℕ, Bool, true, ◌&&◌, ◌⊎◌, List, ◌∷◌, ◌++◌, take, slice_get}
use Rattle.std.specs.{Prelude.{Option, Some}, Coded.{Coded-set, coded_bool}, Ordering.{is_eq}}
use Rattle.std.specs.Str.{bytes_eq}
use Rattle.deb_version.specs.{Grammar.{is_version}, Keys.{version_key}, Order.{version_order}}
use Rattle.listed.specs.Lists.{has}
use Rattle.package_register.specs.declared.register.Register.{Register}
use Rattle.package_register.specs.Hashed.{hash_of, numbers_under, HasNone}

-- the item has the name
abbrev pub has_name : {X : Type 0} → (X → List ℕ) → List ℕ → X → Bool
has_name name_of name x = bytes_eq name (name_of x)

-- the item has the name, and a version that compares as equal to this one
abbrev pub is_version_of : {X : Type 0} → (X → List ℕ) → (X → List ℕ) → List ℕ → List ℕ → X → Bool
is_version_of name_of version_of name version x =
    bytes_eq name (name_of x) && is_eq (version_order (version_of x) version)

-- the key of the version, a space and the name: equal versions of one name have one key
unfoldable pub package_key : List ℕ → List ℕ → List ℕ
package_key name version = version_key version ++ (32 ∷ name)

-- what is found under a name
abbrev pub numbers_named : Register → List ℕ → List ℕ
numbers_named register name = numbers_under register.names (hash_of name)

-- what is found under a name with a version: the first 16 of the name, and those under their key
abbrev pub numbers_exact : Register → List ℕ → List ℕ → List ℕ
numbers_exact register name version = take 16 (numbers_named register name)
    ++ numbers_under register.versions (hash_of (package_key name version))

-- what is gone through for a name and a version: all that is found under the name, or what is found
-- under it with the version
abbrev pub AreCandidates : Register → List ℕ → List ℕ → List ℕ → Type 0
AreCandidates register name version numbers = (numbers ≡ numbers_named register name)
    ⊎ ((is_version version ≡ true) × (numbers ≡ numbers_exact register name version))

-- The number is found under the name. If it has a version of its own, it is found under the name
-- with each version that compares as equal to that.
pub record IsFound (register : Register) (name : List ℕ) (version : Option (List ℕ))
    (n : ℕ) : Type 0 where
  pub named : has (numbers_named register name) n ≡ true
  pub exact : (own asked : List ℕ) → version ≡ Some own → is_version asked ≡ true →
      is_eq (version_order own asked) ≡ true → has (numbers_exact register name asked) n ≡ true

-- whatever was found before is still found
pub record Grows (old new : Register) : Type 0 where
  pub named : (name : List ℕ) (n : ℕ) → has (numbers_named old name) n ≡ true →
      has (numbers_named new name) n ≡ true
  pub exact : (name version : List ℕ) (n : ℕ) → has (numbers_exact old name version) n ≡ true →
      has (numbers_exact new name version) n ≡ true

-- nothing was filed
pub record IsBlank (register : Register) : Type 0 where
  pub names : HasNone register.names
  pub versions : HasNone register.versions

-- each item is found under its name and its version, by its place in the list
pub record IsRegisterOf {X : Type 0} (name_of version_of : X → List ℕ) (items : List X)
    (register : Register) : Type 0 where
  pub found : (n : ℕ) (x : X) → slice_get items n ≡ Some x →
      IsFound register (name_of x) (Some (version_of x)) n

-- These facts have one proof at most, so that a value may keep them.
pub IsFound-prop : (register : Register) (name : List ℕ) (version : Option (List ℕ)) (n : ℕ) →
    IsProp (IsFound register name version n)
IsFound-prop register name version n = let bools : IsSet Bool = Coded-set coded_bool in hlevel bools

pub IsRegisterOf-prop : {X : Type 0} (name_of version_of : X → List ℕ) (items : List X)
    (register : Register) → IsProp (IsRegisterOf name_of version_of items register)
IsRegisterOf-prop name_of version_of items register =
    let bools : IsSet Bool = Coded-set coded_bool in hlevel bools
