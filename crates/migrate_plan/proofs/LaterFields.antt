-- What a stanza says, and whether it has a fault of its own, does not depend on the numbers of its lines.
use Rattle.std.proofs.Common.{◌≡◌, ℕ, ◌+◌, Bool, true, false, cond, List, [], ◌∷◌, Option, Some, None, map, refl, ap, ◌∙◌}
use Rattle.std.specs.{Prelude.{is_some, if◌then◌else◌}, Option.{option_and_then, option_map, option_map_or, option_or}}
use Rattle.deb_version.specs.{Grammar.{is_version}, Names.{is_name}}
use Rattle.relation_fields.specs.{Fields.{first_outside}, Grammar.{alternatives_of, atom_of, is_architecture, provide_of}}
use Rattle.stanza_reader.specs.declared.stanza.FieldKind.{FieldKind}
use Rattle.stanza_reader.specs.declared.stanza.FieldKind.TheVariants.{Package, Version, Architecture, PreDepends, Depends, Conflicts, Breaks, Provides}
use Rattle.stanza_reader.specs.{declared.stanza.RawField.{RawField}, declared.stanza.RawStanza.{RawStanza}}
use Rattle.repo_model.specs.{Facts.{architecture_of, facts_of, is_all}, Fields.{field_among, field_of, is_kind, value_of}}
use Rattle.repo_model.specs.FirstFault.{bad_relation, bad_value, missing, own_fault, presence_fault, unless_good, unless_said, value_fault}
use Rattle.repo_model.specs.declared.fault.IndexFault.{IndexFault}
use Rattle.repo_model.specs.declared.fault.IndexFault.TheVariants.{BadArchitecture, BadPackage, BadRelation, BadVersion, MissingPackage, MissingVersion}
use Rattle.migrate_plan.proofs.Shifted.{later_field, later_stanza, none_parts}

find_step : (more : ℕ) (field : RawField) (found : Option RawField) (b : Bool) → cond b (Some (later_field more field)) (option_map (later_field more) found) ≡ option_map (later_field more) (cond b (Some field) found)
find_step more field found true = refl
find_step more field found false = refl

found_later : (more : ℕ) (kind : FieldKind) (fields : List RawField) → field_among kind (map (later_field more) fields) ≡ option_map (later_field more) (field_among kind fields)
found_later more kind [] = refl
found_later more kind (field ∷ fields) =
    ap (λ found. cond (is_kind kind field.kind) (Some (later_field more field)) found) (found_later more kind fields)
    ∙ find_step more field (field_among kind fields) (is_kind kind field.kind)

pub field_later : (more : ℕ) (kind : FieldKind) (stanza : RawStanza) → field_of kind (later_stanza more stanza) ≡ option_map (later_field more) (field_of kind stanza)
field_later more kind stanza = found_later more kind stanza.fields

value_by : (more : ℕ) (field : Option RawField) → option_map_or (λ f. f.value) (option_map (later_field more) field) [] ≡ option_map_or (λ f. f.value) field []
value_by more None = refl
value_by more (Some field) = refl

pub value_later : (more : ℕ) (kind : FieldKind) (stanza : RawStanza) → value_of kind (later_stanza more stanza) ≡ value_of kind stanza
value_later more kind stanza = ap (λ (field : Option RawField). option_map_or (λ f. f.value) field []) (field_later more kind stanza) ∙ value_by more (field_of kind stanza)

pub name_later : (more : ℕ) (stanza : RawStanza) → (facts_of (later_stanza more stanza)).name ≡ (facts_of stanza).name
unfolding facts_of
name_later more stanza = value_later more Package stanza

pub version_later : (more : ℕ) (stanza : RawStanza) → (facts_of (later_stanza more stanza)).version ≡ (facts_of stanza).version
unfolding facts_of
version_later more stanza = value_later more Version stanza

architecture_by : (more : ℕ) (field : Option RawField) → option_and_then (λ f. if is_all f.value then None else Some f.value) (option_map (later_field more) field)
    ≡ option_and_then (λ f. if is_all f.value then None else Some f.value) field
architecture_by more None = refl
architecture_by more (Some field) = refl

pub architecture_later : (more : ℕ) (stanza : RawStanza) → architecture_of (later_stanza more stanza) ≡ architecture_of stanza
unfolding architecture_of
architecture_later more stanza =
    ap (λ (field : Option RawField). option_and_then (λ f. if is_all f.value then None else Some f.value) field) (field_later more Architecture stanza) ∙ architecture_by more (field_of Architecture stanza)

missing_fine : (more : ℕ) (kind : FieldKind) (fault other : IndexFault) (stanza : RawStanza) → missing kind fault stanza ≡ None → missing kind other (later_stanza more stanza) ≡ None
missing_fine more kind fault other stanza e = ap (λ (field : Option RawField). if is_some field then None else Some other) (field_later more kind stanza) ∙ by (field_of kind stanza) e
  where
    by : (field : Option RawField) → (if is_some field then None else Some fault) ≡ None → (if is_some (option_map (later_field more) field) then None else Some other) ≡ None
    by None h = absurd (let never : ⊥ = cc in never)
    by (Some field) h = refl

bad_fine : (more : ℕ) (kind : FieldKind) (is_good : List ℕ → Bool) (fault : ℕ → IndexFault) (stanza : RawStanza) → bad_value kind is_good fault stanza ≡ None → bad_value kind is_good fault (later_stanza more stanza) ≡ None
bad_fine more kind is_good fault stanza e = ap (option_and_then (unless_good is_good fault)) (field_later more kind stanza) ∙ by (field_of kind stanza) e
  where
    good : (b : Bool) (one other : IndexFault) → (if b then None else Some one) ≡ None → (if b then None else Some other) ≡ None
    good true one other h = refl
    good false one other h = cc

    by : (field : Option RawField) → option_and_then (unless_good is_good fault) field ≡ None → option_and_then (unless_good is_good fault) (option_map (later_field more) field) ≡ None
    by None h = refl
    by (Some field) h = good (is_good field.value) (fault field.line) (fault (field.line + more)) h

said_fine : {X : Type 0} (more : ℕ) (kind : FieldKind) (one : List ℕ → Option X) (stanza : RawStanza) → bad_relation kind one stanza ≡ None → bad_relation kind one (later_stanza more stanza) ≡ None
said_fine more kind one stanza e = ap (option_and_then (unless_said one)) (field_later more kind stanza) ∙ by (field_of kind stanza) e
  where
    outside : (found : Option ℕ) (line other : ℕ) → option_map (BadRelation line) found ≡ None → option_map (BadRelation other) found ≡ None
    outside None line other h = refl
    outside (Some element) line other h = cc

    by : (field : Option RawField) → option_and_then (unless_said one) field ≡ None → option_and_then (unless_said one) (option_map (later_field more) field) ≡ None
    by None h = refl
    by (Some field) h = outside (first_outside one field.value) field.line (field.line + more) h

-- where each of two checks stays without a fault, so does the first fault of both
both_fine : (a b a' b' : Option IndexFault) → (a ≡ None → a' ≡ None) → (b ≡ None → b' ≡ None) → option_or a b ≡ None → option_or a' b' ≡ None
both_fine a b a' b' first second e = let parts = none_parts a b e in ap (λ found. option_or found b') (first parts.0) ∙ second parts.1

pub own_later : (more : ℕ) (stanza : RawStanza) → own_fault stanza ≡ None → own_fault (later_stanza more stanza) ≡ None
unfolding presence_fault value_fault
own_later more stanza =
    both_fine _ _ _ _
    (both_fine _ _ _ _ (missing_fine more Package (MissingPackage stanza.line) (MissingPackage (stanza.line + more)) stanza)
    (both_fine _ _ _ _ (missing_fine more Version (MissingVersion stanza.line) (MissingVersion (stanza.line + more)) stanza) (λ e. e)))
    (both_fine _ _ _ _ (bad_fine more Package is_name BadPackage stanza)
    (both_fine _ _ _ _ (bad_fine more Version is_version BadVersion stanza)
    (both_fine _ _ _ _ (bad_fine more Architecture is_architecture BadArchitecture stanza)
    (both_fine _ _ _ _ (said_fine more PreDepends alternatives_of stanza)
    (both_fine _ _ _ _ (said_fine more Depends alternatives_of stanza)
    (both_fine _ _ _ _ (said_fine more Conflicts atom_of stanza)
    (both_fine _ _ _ _ (said_fine more Breaks atom_of stanza)
    (both_fine _ _ _ _ (said_fine more Provides provide_of stanza) (λ e. e)))))))))
