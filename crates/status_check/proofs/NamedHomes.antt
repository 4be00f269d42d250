-- An index without a fault has no home, or one with the name of an architecture.
use Rattle.std.proofs.Common.{◌≡◌, ℕ, ◌+◌, Bool, true, false, cond, List, [], ◌∷◌, length, take, map, Option, Some, None, Result, Ok, Err, refl}
use Rattle.std.specs.{Prelude.{nat_le}, Option.{option_and_then, option_or}}
use Rattle.deb_version.specs.{Grammar.{is_version}, Names.{is_name}}
use Rattle.relation_fields.specs.Grammar.{is_architecture}
use Rattle.stanza_reader.specs.{Stanzas.{readings}, declared.fault.StanzaFault.{StanzaFault}}
use Rattle.stanza_reader.specs.declared.stanza.FieldKind.TheVariants as kind
use Rattle.stanza_reader.specs.{declared.stanza.RawField.{RawField}, declared.stanza.RawStanza.{RawStanza}}
use Rattle.repo_model.specs.{Facts.{architecture_of, is_all}, Fields.{field_of}}
use Rattle.repo_model.specs.FirstFault.{bad_value, fault_behind, faults_from, first_fault, first_present, home_of, own_fault, presence_fault, reading_fault}
use Rattle.repo_model.specs.{FirstFault.{stanzas_in, stanzas_of, unless_good, value_fault}, declared.fault.IndexFault.{IndexFault}}
use Rattle.repo_model.specs.{declared.fault.IndexFault.TheVariants.{BadArchitecture, BadPackage, BadVersion, TooMany}, Limits.{most_packages}}
use Rattle.repo_model.proofs.WellFormed.{none_of}

abbrev pub IsNamedHome : Option (List ℕ) → Type 0
IsNamedHome None = Unit {0}
IsNamedHome (Some name) = is_architecture name ≡ true

first_named : (there more : Option (List ℕ)) → IsNamedHome there → IsNamedHome more → IsNamedHome (option_or there more)
first_named None more h k = k
first_named (Some name) more h k = h

-- a stanza with no bad architecture
named_stanza : (stanza : RawStanza) → bad_value kind.Architecture is_architecture BadArchitecture stanza ≡ None → IsNamedHome (architecture_of stanza)
unfolding architecture_of
named_stanza stanza = by (field_of kind.Architecture stanza)
  where
    good : (b : Bool) (fault : IndexFault) → cond b None (Some fault) ≡ None → b ≡ true
    good true fault e = refl
    good false fault e = cc

    named : (field : RawField) (all : Bool) → is_architecture field.value ≡ true → IsNamedHome (cond all None (Some field.value))
    named field true fine = tt
    named field false fine = fine

    by : (found : Option RawField) → option_and_then (unless_good is_architecture BadArchitecture) found ≡ None
        → IsNamedHome (option_and_then (λ (field : RawField). cond (is_all field.value) None (Some field.value)) found)
    by None fine = tt
    by (Some field) fine = named field (is_all field.value) (good (is_architecture field.value) (BadArchitecture field.line) fine)

fine_architecture : (stanza : RawStanza) → own_fault stanza ≡ None → bad_value kind.Architecture is_architecture BadArchitecture stanza ≡ None
unfolding value_fault
fine_architecture stanza e =
    let values = none_of (presence_fault stanza) (value_fault stanza) e in
    let behind_name = none_of (bad_value kind.Package is_name BadPackage stanza) _ values.1 in
    let behind_version = none_of (bad_value kind.Version is_version BadVersion stanza) _ behind_name.1 in
    (none_of (bad_value kind.Architecture is_architecture BadArchitecture stanza) _ behind_version.1).0

few : (b : Bool) (there : Option IndexFault) → cond b (Some TooMany) there ≡ None → there ≡ None
few true there e = cc
few false there e = e

named_from : (all : List (Result RawStanza StanzaFault)) (n : ℕ) (more : List (Result RawStanza StanzaFault)) → first_present (faults_from all n more) ≡ None → IsNamedHome (home_of (stanzas_in more))
unfolding home_of
named_from all n [] e = tt
named_from all n (Ok stanza ∷ more) e =
    let both = none_of (fault_behind (take n all) (Ok stanza)) (first_present (faults_from all (n + 1) more)) e in
    let fine = few (nat_le most_packages (length (take n all))) (reading_fault (stanzas_in (take n all)) (Ok stanza)) both.0 in
    first_named (architecture_of stanza) (first_present (map architecture_of (stanzas_in more))) (named_stanza stanza (fine_architecture stanza (none_of (own_fault stanza) _ fine).0)) (named_from all (n + 1) more both.1)
named_from all n (Err fault ∷ more) e = named_from all (n + 1) more (none_of (fault_behind (take n all) (Err fault)) (first_present (faults_from all (n + 1) more)) e).1

pub named_home : (index : List ℕ) → first_fault index ≡ None → IsNamedHome (home_of (stanzas_of index))
unfolding first_fault stanzas_of
named_home index e = named_from (readings index) 0 (readings index) e
