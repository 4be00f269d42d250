-- What an index says of its packages: Debian Policy 5.3 and 7. The home is the common architecture
-- of its stanzas. This is a second definition, since that of `repo_model` names the first fault, in
-- the order of reading.
use Rattle.relation_fields.specs.Spelling.{SpellsAlternatives, SpellsAtom, SpellsProvide}
use Rattle.relation_fields.specs.{Grammar.{is_architecture}, declared.packages.Home.{Home}}
use Rattle.relation_fields.specs.declared.packages.PackageFacts.{PackageFacts}
use Rattle.std.specs.Prelude.{◌≡◌, ◌≢◌, ℕ, ◌<◌, Bool, true, false, not, ◌&&◌, ◌==◌, ◌⊎◌, List, []}
use Rattle.std.specs.Prelude.{◌++◌, Some, filter, length, codes, unwrap_or}
use Rattle.std.specs.{List.{AllZip, list_all, slice_split}, Ordering.{is_eq}, Str.{bytes_eq}}
use Rattle.deb_version.specs.{Grammar.{is_version}, Names.{is_name}, Order.{version_order}}
use Rattle.listed.specs.{Lists.{In}, Texts.{is_white_byte}}
use Rattle.repo_model.specs.Stanzas.{stanza_at}
use Rattle.claims.specs.Control.{stanza_groups, field_value, IsStanza}
use Rattle.coinst_words.specs.Usage.{Text}

-- the elements of a relation field: what is between its commas, 44, but for white space alone; a
-- missing field has none
abbrev pub relation_elements : Text → List Text → List Text
relation_elements key group = filter (λ e. not (list_all is_white_byte e))
    (slice_split (λ b. b == 44) (unwrap_or (field_value key group) []))

-- one package: the same name, and versions that compare as equal
abbrev pub is_one_package : Text → Text → Text → Text → Bool
is_one_package name version other_name other_version =
    bytes_eq name other_name && is_eq (version_order version other_version)

-- the architecture of a stanza: `all`, or that of the home
abbrev pub FitsHome : Home → Text → Type 0
FitsHome home architecture = (architecture ≡ codes "all")
    ⊎ ((home.name ≡ Some architecture) × (is_architecture architecture ≡ true))

-- The group is a stanza that says this of its package, but for the number of its line and whether
-- it has an architecture other than `all`. If it names no architecture, that is `all`.
pub record Says (home : Home) (group : List Text) (facts : PackageFacts) : Type 0 where
  pub stanza : IsStanza group
  pub name : (field_value (codes "package") group ≡ Some facts.name) × (is_name facts.name ≡ true)
  pub version : (field_value (codes "version") group ≡ Some facts.version)
      × (is_version facts.version ≡ true)
  pub architecture : FitsHome home
      (unwrap_or (field_value (codes "architecture") group) (codes "all"))
  pub needs : AllZip SpellsAlternatives
      (relation_elements (codes "pre-depends") group ++ relation_elements (codes "depends") group)
      facts.needs
  pub against : AllZip SpellsAtom
      (relation_elements (codes "conflicts") group ++ relation_elements (codes "breaks") group)
      facts.against
  pub provides : AllZip SpellsProvide (relation_elements (codes "provides") group) facts.provides

-- The groups say this of their packages, of any number, none of them twice. The home, if it has a
-- name, is the architecture of some stanza, and not `all`.
pub record GroupsSay (groups : List (List Text)) (home : Home)
    (stanzas : List PackageFacts) : Type 0 where
  pub each : AllZip (Says home) groups stanzas
  pub single : (m n : ℕ) → m < n → n < length stanzas →
      is_one_package (stanza_at stanzas n).name (stanza_at stanzas n).version
      (stanza_at stanzas m).name (stanza_at stanzas m).version ≡ false
  pub local : (a : Text) → home.name ≡ Some a → (a ≢ codes "all")
      × ((g : List Text) × In g groups × (field_value (codes "architecture") g ≡ Some a))

-- the text is an index of these packages
abbrev pub IndexSays : Text → Home → List PackageFacts → Type 0
IndexSays text home stanzas = GroupsSay (stanza_groups text) home stanzas

-- two packages with the same name, version and relations; their line numbers, and whether they have
-- an architecture other than `all`, are no part of that
abbrev pub SaysTheSame : PackageFacts → PackageFacts → Type 0
SaysTheSame one other = (one.name ≡ other.name) × (one.version ≡ other.version)
    × (one.needs ≡ other.needs) × (one.against ≡ other.against) × (one.provides ≡ other.provides)
