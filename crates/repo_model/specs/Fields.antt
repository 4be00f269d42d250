-- The fields of a stanza by their kinds.
use Rattle.std.specs.Prelude.{ℕ, ◌≤◌, Bool, ◌==◌, List, [], Option, find, length}
use Rattle.std.specs.{List.{AllByRecursion}, Option.{option_map_or}}
use Rattle.repo_model.specs.Limits.{most_bytes}
use Rattle.stanza_reader.specs.declared.stanza.FieldKind.{FieldKind}
use Rattle.stanza_reader.specs.declared.stanza.FieldKind.TheVariants.{Package, Version}
use Rattle.stanza_reader.specs.declared.stanza.FieldKind.TheVariants.{Architecture, PreDepends}
use Rattle.stanza_reader.specs.declared.stanza.FieldKind.TheVariants.{Depends, Conflicts, Breaks}
use Rattle.stanza_reader.specs.declared.stanza.FieldKind.TheVariants.{Provides, Status}
use Rattle.stanza_reader.specs.declared.stanza.RawField.{RawField}
use Rattle.stanza_reader.specs.declared.stanza.RawStanza.{RawStanza}

-- the place of each kind in the list of kinds
abbrev pub kind_place : FieldKind → ℕ
kind_place Package = 0
kind_place Version = 1
kind_place Architecture = 2
kind_place PreDepends = 3
kind_place Depends = 4
kind_place Conflicts = 5
kind_place Breaks = 6
kind_place Provides = 7
kind_place Status = 8

abbrev pub is_kind : FieldKind → FieldKind → Bool
is_kind kind other = kind_place other == kind_place kind

-- the field of the kind, if there is one
abbrev pub field_among : FieldKind → List RawField → Option RawField
field_among kind fields = find (λ field. is_kind kind field.kind) fields

abbrev pub field_of : FieldKind → RawStanza → Option RawField
field_of kind stanza = field_among kind stanza.fields

-- the value of the field; that of a missing field is empty
abbrev pub value_among : FieldKind → List RawField → List ℕ
value_among kind fields = option_map_or (λ field. field.value) (field_among kind fields) []

abbrev pub value_of : FieldKind → RawStanza → List ℕ
value_of kind stanza = value_among kind stanza.fields

-- no value is longer than the greatest index
abbrev pub IsShort : RawField → Type 0
IsShort field = length field.value ≤ most_bytes

abbrev pub HasShortValues : RawStanza → Type 0
HasShortValues stanza = AllByRecursion IsShort stanza.fields
