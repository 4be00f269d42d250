-- A stanza without a fault of its own describes a package whose name and version are in their grammars.
use Rattle.std.proofs.Common.{◌≡◌, ℕ, Bool, true, false, List, [], Option, Some, None, refl, ap, ◌∙◌}
use Rattle.std.specs.{Prelude.{is_some, if◌then◌else◌}, Option.{option_or, option_and_then, option_map_or}}
use Rattle.deb_version.specs.{Grammar.{is_version}, Names.{is_name}}
use Rattle.relation_fields.specs.declared.packages.PackageFacts.{PackageFacts}
use Rattle.stanza_reader.specs.{declared.stanza.FieldKind.{FieldKind}, declared.stanza.FieldKind.TheVariants.{Package, Version}}
use Rattle.stanza_reader.specs.{declared.stanza.RawField.{RawField}, declared.stanza.RawStanza.{RawStanza}}
use Rattle.repo_model.specs.{Facts.{facts_of}, Fields.{field_of, value_of}}
use Rattle.repo_model.specs.{FirstFault.{missing, unless_good, bad_value, presence_fault, value_fault, own_fault}, declared.fault.IndexFault.{IndexFault}}
use Rattle.repo_model.specs.declared.fault.IndexFault.TheVariants.{MissingPackage, MissingVersion, BadPackage, BadVersion}

-- the name and the version are in their grammars
abbrev pub IsWellFormed : PackageFacts → Type 0
IsWellFormed facts = (is_name facts.name ≡ true) × (is_version facts.version ≡ true)

-- where neither of two checks finds a fault, each finds none
pub none_of : (there more : Option IndexFault) → option_or there more ≡ None → (there ≡ None) × (more ≡ None)
none_of None more e = (refl, e)
none_of (Some fault) more e = cc

-- the value of a field that is there and passes its test
passes : (kind : FieldKind) (is_good : List ℕ → Bool) (bad : ℕ → IndexFault) (lacking : IndexFault) (stanza : RawStanza)
    → missing kind lacking stanza ≡ None → bad_value kind is_good bad stanza ≡ None → is_good (value_of kind stanza) ≡ true
passes kind is_good bad lacking stanza = by (field_of kind stanza)
  where
    good : (b : Bool) (fault : IndexFault) → (if b then None else Some fault) ≡ None → b ≡ true
    good true fault e = refl
    good false fault e = cc

    by : (field : Option RawField) → (if is_some field then None else Some lacking) ≡ None → option_and_then (unless_good is_good bad) field ≡ None
        → is_good (option_map_or (λ f. f.value) field []) ≡ true
    by None there fine = cc
    by (Some field) there fine = good (is_good field.value) (bad field.line) fine

pub facts_well_formed : (stanza : RawStanza) (facts : PackageFacts) → own_fault stanza ≡ None → facts ≡ facts_of stanza → IsWellFormed facts
unfolding presence_fault value_fault facts_of
facts_well_formed stanza facts fine e =
    let all = none_of (presence_fault stanza) (value_fault stanza) fine in
    let there = none_of (missing Package (MissingPackage stanza.line) stanza) _ all.0 in
    let there_too = none_of (missing Version (MissingVersion stanza.line) stanza) _ there.1 in
    let good = none_of (bad_value Package is_name BadPackage stanza) _ all.1 in
    let good_too = none_of (bad_value Version is_version BadVersion stanza) _ good.1 in (
      ap (λ (own : PackageFacts). is_name own.name) e ∙ passes Package is_name BadPackage (MissingPackage stanza.line) stanza there.0 good.0,
      ap (λ (own : PackageFacts). is_version own.version) e ∙ passes Version is_version BadVersion (MissingVersion stanza.line) stanza there_too.0 good_too.0,
    )
