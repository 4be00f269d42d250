-- The package that a stanza describes: Debian Policy 5.3, 5.6 and 7.
use Rattle.std.specs.Prelude.{◌≡◌, ◌++◌, ℕ, Bool, true, ◌&&◌, if◌then◌else◌, List, Option, Some}
use Rattle.std.specs.{Prelude.{None, is_some, codes}, Option.{option_and_then}, Ordering.{is_eq}}
use Rattle.std.specs.Str.{bytes_eq}
use Rattle.deb_version.specs.{Grammar.{is_version}, Names.{is_name}, Order.{version_order}}
use Rattle.listed.specs.Lists.{In}
use Rattle.stanza_reader.specs.declared.stanza.FieldKind.TheVariants.{Package, Version}
use Rattle.stanza_reader.specs.declared.stanza.FieldKind.TheVariants.{Architecture, PreDepends}
use Rattle.stanza_reader.specs.declared.stanza.FieldKind.TheVariants.{Depends, Conflicts, Breaks}
use Rattle.stanza_reader.specs.declared.stanza.FieldKind.TheVariants.{Provides}
use Rattle.stanza_reader.specs.declared.stanza.RawStanza.{RawStanza}
use Rattle.relation_fields.specs.{Grammar.{atom_of, alternatives_of, provide_of}, Fields.{said_in}}
use Rattle.relation_fields.specs.declared.packages.PackageFacts.{PackageFacts}
use Rattle.repo_model.specs.Fields.{field_of, value_of}

abbrev pub is_all : List ℕ → Bool
is_all architecture = bytes_eq architecture (codes "all")

-- the architecture of a stanza; none if it is `all`, or if the stanza has no such field
unfoldable pub architecture_of : RawStanza → Option (List ℕ)
architecture_of stanza = option_and_then (λ field. if is_all field.value then None
    else Some field.value) (field_of Architecture stanza)

-- what a stanza says of its package; a missing relation field says nothing
unfoldable pub facts_of : RawStanza → PackageFacts
facts_of stanza = record {
  line = stanza.line;
  name = value_of Package stanza;
  version = value_of Version stanza;
  is_arch_dependent = is_some (architecture_of stanza);
  needs = said_in alternatives_of (value_of PreDepends stanza)
      ++ said_in alternatives_of (value_of Depends stanza);
  against = said_in atom_of (value_of Conflicts stanza) ++ said_in atom_of (value_of Breaks stanza);
  provides = said_in provide_of (value_of Provides stanza);
}

-- whether two packages have the same name, and versions that compare as equal
abbrev pub is_same_package : PackageFacts → PackageFacts → Bool
is_same_package one other =
    bytes_eq one.name other.name && is_eq (version_order one.version other.version)

-- each package has a name and a version that their grammars allow
abbrev pub AreNamedPackages : List PackageFacts → Type 0
AreNamedPackages packages = (facts : PackageFacts) → In facts packages →
    (is_name facts.name ≡ true) × (is_version facts.version ≡ true)
