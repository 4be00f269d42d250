-- The pairs of packages that conflict. They are found from each package: with the earlier packages
-- of its name, and with those that meet one of its conflicts.
use Rattle.std.specs.Prelude.{◌≡◌, ◌≢◌, ℕ, ◌<◌, ◌↔◌, ◌⊎◌, Bool, List, max, min, take}
use Rattle.std.specs.Str.{bytes_eq}
use Rattle.relation_fields.specs.declared.packages.Home.{Home}
use Rattle.relation_fields.specs.declared.packages.PackageFacts.{PackageFacts}
use Rattle.relation_fields.specs.declared.relations.Atom.{Atom}
use Rattle.listed.specs.Lists.{In}
use Rattle.row_book.specs.declared.pair.Pair.{Pair}
use Rattle.package_register.specs.Numbers.{numbers_where}
use Rattle.repo_model.specs.{Meeting.{meeting}, Stanzas.{stanza_at}}

abbrev pub is_named : List ℕ → PackageFacts → Bool
is_named name facts = bytes_eq name facts.name

-- the pair of two packages
abbrev pub pair_of : ℕ → ℕ → Pair
pair_of m n = record { low = min m n; high = max m n }

-- the pair of the package and another one, which is among these
pub record IsPairWith (number : ℕ) (others : List ℕ) (pair : Pair) : Type 0 where
  pub other : ℕ
  pub inside : In other others
  pub apart : other ≢ number
  pub is : pair ≡ pair_of number other

-- the pair of the package and one that meets one of the atoms
pub record IsAgainst (home : Home) (packages : List PackageFacts) (number : ℕ) (atoms : List Atom)
    (pair : Pair) : Type 0 where
  pub atom : Atom
  pub inside : In atom atoms
  pub found : IsPairWith number (meeting home packages atom) pair

-- the pair of the package and an earlier one of the name
abbrev pub IsPairWithEarlier : List PackageFacts → ℕ → List ℕ → Pair → Type 0
IsPairWithEarlier packages number name =
    IsPairWith number (numbers_where (is_named name) (take number packages))

-- the pair is found from one of the first packages
pub record IsFound (home : Home) (packages : List PackageFacts) (count : ℕ)
    (pair : Pair) : Type 0 where
  pub number : ℕ
  pub below : number < count
  pub found : IsPairWithEarlier packages number (stanza_at packages number).name pair
      ⊎ IsAgainst home packages number (stanza_at packages number).against pair

-- the new pairs are the old ones and those of the kind
abbrev pub Adds : (Pair → Type 0) → List Pair → List Pair → Type 0
Adds kind old new = (pair : Pair) → (In pair new ↔ (In pair old ⊎ kind pair))
