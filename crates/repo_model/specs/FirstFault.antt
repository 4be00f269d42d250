-- The first fault of an index. Each stanza is checked in this order, and each of these is a fault:
--   - 200,000 stanzas or more come before it;
--   - a line has a bad shape; the first such line is named;
--   - a field line has the name of an earlier one; the first such line is named;
--   - there is no field `Package`, and then no field `Version`;
--   - a value is bad: that of `Package`, of `Version`, of `Architecture`, and then an element of
--     `Pre-Depends`, of `Depends`, of `Conflicts`, of `Breaks`, of `Provides`; a field that is not
--     there has no bad value;
--   - an earlier stanza has the same name and an equal version; the first such stanza is named;
--   - the value of its field `Architecture` is not `all`, and differs from that of the first
--     earlier stanza with such a value, if there is one.
-- The first stanza with a fault decides. `stanza_reader` says which shapes are bad, and which names
-- are repeated.
use Rattle.std.specs.Prelude.{ℕ, Bool, true, nat_le, ◌||◌, if◌then◌else◌, List, [], ◌∷◌, Option}
use Rattle.std.specs.Prelude.{Some, None, Result, Ok, Err, map, find, take, is_some, length}
use Rattle.std.specs.List.{enumerate_from, filter_map}
use Rattle.std.specs.Option.{option_map, option_map_or, option_and_then, option_or}
use Rattle.std.specs.{Result.{result_ok}, Str.{bytes_eq}}
use Rattle.deb_version.specs.{Names.{is_name}, Grammar.{is_version}}
use Rattle.stanza_reader.specs.{Stanzas.{readings}, declared.stanza.FieldKind.{FieldKind}}
use Rattle.stanza_reader.specs.declared.stanza.FieldKind.TheVariants.{Package, Version}
use Rattle.stanza_reader.specs.declared.stanza.FieldKind.TheVariants.{Architecture, PreDepends}
use Rattle.stanza_reader.specs.declared.stanza.FieldKind.TheVariants.{Depends, Conflicts, Breaks}
use Rattle.stanza_reader.specs.declared.stanza.FieldKind.TheVariants.{Provides}
use Rattle.stanza_reader.specs.declared.stanza.RawField.{RawField}
use Rattle.stanza_reader.specs.declared.stanza.RawStanza.{RawStanza}
use Rattle.stanza_reader.specs.declared.fault.StanzaFault.{StanzaFault}
use Rattle.relation_fields.specs.Grammar.{is_architecture, atom_of, alternatives_of, provide_of}
use Rattle.relation_fields.specs.Fields.{first_outside}
use Rattle.relation_fields.specs.declared.packages.PackageFacts.{PackageFacts}
use Rattle.repo_model.specs.Fields.{field_of}
use Rattle.repo_model.specs.Facts.{facts_of, is_same_package, is_all, architecture_of}
use Rattle.repo_model.specs.declared.fault.IndexFault.{IndexFault}
use Rattle.repo_model.specs.declared.fault.IndexFault.TheVariants.{Stanza, MissingPackage}
use Rattle.repo_model.specs.declared.fault.IndexFault.TheVariants.{MissingVersion, BadPackage}
use Rattle.repo_model.specs.declared.fault.IndexFault.TheVariants.{BadVersion, BadArchitecture}
use Rattle.repo_model.specs.declared.fault.IndexFault.TheVariants.{BadRelation, Duplicate, Mixed}
use Rattle.repo_model.specs.declared.fault.IndexFault.TheVariants.{TooMany}
use Rattle.repo_model.specs.Limits.{most_packages}

-- the first that is there
abbrev pub first_present : {X : Type 0} → List (Option X) → Option X
first_present [] = None
first_present (found ∷ more) = option_or found (first_present more)

-- the fault of a stanza that has no field of the kind
abbrev pub missing : FieldKind → IndexFault → RawStanza → Option IndexFault
missing kind fault stanza = if is_some (field_of kind stanza) then None else Some fault

-- the fault of a field whose value fails the test
abbrev pub unless_good : (List ℕ → Bool) → (ℕ → IndexFault) → RawField → Option IndexFault
unless_good is_good fault field = if is_good field.value then None else Some (fault field.line)

-- the fault of the stanza's field of the kind, if there is one and its value fails the test
abbrev pub bad_value : FieldKind → (List ℕ → Bool) → (ℕ → IndexFault) →
    RawStanza → Option IndexFault
bad_value kind is_good fault stanza =
    option_and_then (unless_good is_good fault) (field_of kind stanza)

-- the fault of a relation field with elements outside the grammar: it names the first of them
abbrev pub unless_said : {X : Type 0} → (List ℕ → Option X) → RawField → Option IndexFault
unless_said one field = option_map (BadRelation field.line) (first_outside one field.value)

-- the fault of the stanza's relation field of the kind, if there is one and it has an element
-- outside the grammar
abbrev pub bad_relation : {X : Type 0} → FieldKind → (List ℕ → Option X) →
    RawStanza → Option IndexFault
bad_relation kind one stanza = option_and_then (unless_said one) (field_of kind stanza)

-- a field is missing
unfoldable pub presence_fault : RawStanza → Option IndexFault
presence_fault stanza = first_present (
    missing Package (MissingPackage stanza.line) stanza
    ∷ missing Version (MissingVersion stanza.line) stanza ∷ [])

-- a value is bad
unfoldable pub value_fault : RawStanza → Option IndexFault
value_fault stanza = first_present (
    bad_value Package is_name BadPackage stanza
    ∷ bad_value Version is_version BadVersion stanza
    ∷ bad_value Architecture is_architecture BadArchitecture stanza
    ∷ bad_relation PreDepends alternatives_of stanza
    ∷ bad_relation Depends alternatives_of stanza
    ∷ bad_relation Conflicts atom_of stanza
    ∷ bad_relation Breaks atom_of stanza
    ∷ bad_relation Provides provide_of stanza ∷ [])

-- a field is missing, or else a value is bad
abbrev pub own_fault : RawStanza → Option IndexFault
own_fault stanza = option_or (presence_fault stanza) (value_fault stanza)

-- an earlier stanza is the same package, among the packages of the stanzas before this one
unfoldable pub duplicate_fault : List PackageFacts → RawStanza → Option IndexFault
duplicate_fault before stanza = option_map (λ first.
    Duplicate first.line stanza.line) (find (is_same_package (facts_of stanza)) before)

-- the common architecture of some stanzas: that of the first that has one other than `all`
unfoldable pub home_of : List RawStanza → Option (List ℕ)
home_of stanzas = first_present (map architecture_of stanzas)

-- there is no home, or it is this architecture
abbrev pub is_at_home : Option (List ℕ) → List ℕ → Bool
is_at_home home architecture = option_map_or (bytes_eq architecture) home true

-- an architecture other than the common one of the stanzas before this one
unfoldable pub mixed_fault : Option (List ℕ) → RawStanza → Option IndexFault
mixed_fault home stanza =
    option_and_then (λ field. if is_all field.value || is_at_home home field.value then None
    else Some (Mixed field.line)) (field_of Architecture stanza)

-- the fault of a stanza that was read, with the packages and the common architecture of the stanzas
-- before this one
abbrev pub stanza_fault : List PackageFacts → Option (List ℕ) → RawStanza → Option IndexFault
stanza_fault before home stanza =
    first_present (own_fault stanza ∷ duplicate_fault before stanza ∷ mixed_fault home stanza ∷ [])

-- the fault of what is read of a stanza, in its lines or else in the stanza, with the stanzas
-- before it
abbrev pub reading_fault : List RawStanza → Result RawStanza StanzaFault → Option IndexFault
reading_fault before (Ok stanza) = stanza_fault (map facts_of before) (home_of before) stanza
reading_fault before (Err fault) = Some (Stanza fault)

-- the stanzas among what is read
abbrev pub stanzas_in : List (Result RawStanza StanzaFault) → List RawStanza
stanzas_in all = filter_map result_ok all

-- a stanza too many, or else the fault of what is read of it, with what is read of the stanzas
-- before this one
abbrev pub fault_behind : List (Result RawStanza StanzaFault) →
    Result RawStanza StanzaFault → Option IndexFault
fault_behind before reading = if nat_le most_packages (length before) then Some TooMany
    else reading_fault (stanzas_in before) reading

-- the faults of the stanzas from the n-th on, counted from 0, each with all before it among the
-- stanzas of the index
abbrev pub faults_from : List (Result RawStanza StanzaFault) → ℕ →
    List (Result RawStanza StanzaFault) → List (Option IndexFault)
faults_from all n more = map (λ e. fault_behind (take e.0 all) e.1) (enumerate_from n more)

-- the fault of the first stanza that has one
unfoldable pub first_fault : List ℕ → Option IndexFault
first_fault text = first_present (faults_from (readings text) 0 (readings text))

-- the stanzas of an index, without those that have a fault of their lines
unfoldable pub stanzas_of : List ℕ → List RawStanza
stanzas_of text = stanzas_in (readings text)
