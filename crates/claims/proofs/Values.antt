-- The value of a field, by its kind and by its name.
use Rattle.std.proofs.Common.{◌≡◌, Bool, true, false, cond, List, [], ◌∷◌, ◌++◌, Option, Some, None, refl, sym, ap, ◌∙◌}
use Rattle.std.specs.{Prelude.{codes, find, if◌then◌else◌}, List.{list_any, cons_option}, Option.{option_map, option_map_or}, Str.{bytes_eq}}
use Rattle.deb_version.specs.Grammar.{is_colon}
use Rattle.listed.specs.Texts.{trim_both}
use Rattle.listed.proofs.Lists.{same_bytes}
use Rattle.stanza_reader.specs.{Fields.{behind_colon, continued, kind_of, lowered, name_of, trimmed}, Lines.{Line, is_continuation}}
use Rattle.stanza_reader.specs.{Stanzas.{texts, line_fault, first_line_fault, kept_field, kept_fields}, declared.stanza.FieldKind.{FieldKind}}
use Rattle.stanza_reader.specs.declared.stanza.FieldKind.TheVariants.{Package, Version, Architecture, PreDepends, Depends, Conflicts, Breaks, Provides, Status}
use Rattle.stanza_reader.specs.declared.stanza.RawField.{RawField}
use Rattle.repo_model.specs.Fields.{is_kind, field_among}
use Rattle.coinst_words.specs.Usage.{Text}
use Rattle.claims.specs.Control.{fields, name_key, field_value}
use Rattle.claims.proofs.Control.{cut_append, trimmed_both, shaped, name_whole, none_of}

-- the name of the field of a kind
abbrev pub key : FieldKind → Text
key Package = codes "package"
key Version = codes "version"
key Architecture = codes "architecture"
key PreDepends = codes "pre-depends"
key Depends = codes "depends"
key Conflicts = codes "conflicts"
key Breaks = codes "breaks"
key Provides = codes "provides"
key Status = codes "status"

kinds_apart : (other kind : FieldKind) → is_kind kind other ≡ bytes_eq (key other) (key kind)
kinds_apart Package kind = elim kind as (λ v. is_kind v Package ≡ bytes_eq (key Package) (key v)) [ Package ↦ refl | Version ↦ refl | Architecture ↦ refl | PreDepends ↦ refl | Depends ↦ refl | Conflicts ↦ refl | Breaks ↦ refl | Provides ↦ refl | Status ↦ refl ]
kinds_apart Version kind = elim kind as (λ v. is_kind v Version ≡ bytes_eq (key Version) (key v)) [ Package ↦ refl | Version ↦ refl | Architecture ↦ refl | PreDepends ↦ refl | Depends ↦ refl | Conflicts ↦ refl | Breaks ↦ refl | Provides ↦ refl | Status ↦ refl ]
kinds_apart Architecture kind = elim kind as (λ v. is_kind v Architecture ≡ bytes_eq (key Architecture) (key v)) [ Package ↦ refl | Version ↦ refl | Architecture ↦ refl | PreDepends ↦ refl | Depends ↦ refl | Conflicts ↦ refl | Breaks ↦ refl | Provides ↦ refl | Status ↦ refl ]
kinds_apart PreDepends kind = elim kind as (λ v. is_kind v PreDepends ≡ bytes_eq (key PreDepends) (key v)) [ Package ↦ refl | Version ↦ refl | Architecture ↦ refl | PreDepends ↦ refl | Depends ↦ refl | Conflicts ↦ refl | Breaks ↦ refl | Provides ↦ refl | Status ↦ refl ]
kinds_apart Depends kind = elim kind as (λ v. is_kind v Depends ≡ bytes_eq (key Depends) (key v)) [ Package ↦ refl | Version ↦ refl | Architecture ↦ refl | PreDepends ↦ refl | Depends ↦ refl | Conflicts ↦ refl | Breaks ↦ refl | Provides ↦ refl | Status ↦ refl ]
kinds_apart Conflicts kind = elim kind as (λ v. is_kind v Conflicts ≡ bytes_eq (key Conflicts) (key v)) [ Package ↦ refl | Version ↦ refl | Architecture ↦ refl | PreDepends ↦ refl | Depends ↦ refl | Conflicts ↦ refl | Breaks ↦ refl | Provides ↦ refl | Status ↦ refl ]
kinds_apart Breaks kind = elim kind as (λ v. is_kind v Breaks ≡ bytes_eq (key Breaks) (key v)) [ Package ↦ refl | Version ↦ refl | Architecture ↦ refl | PreDepends ↦ refl | Depends ↦ refl | Conflicts ↦ refl | Breaks ↦ refl | Provides ↦ refl | Status ↦ refl ]
kinds_apart Provides kind = elim kind as (λ v. is_kind v Provides ≡ bytes_eq (key Provides) (key v)) [ Package ↦ refl | Version ↦ refl | Architecture ↦ refl | PreDepends ↦ refl | Depends ↦ refl | Conflicts ↦ refl | Breaks ↦ refl | Provides ↦ refl | Status ↦ refl ]
kinds_apart Status kind = elim kind as (λ v. is_kind v Status ≡ bytes_eq (key Status) (key v)) [ Package ↦ refl | Version ↦ refl | Architecture ↦ refl | PreDepends ↦ refl | Depends ↦ refl | Conflicts ↦ refl | Breaks ↦ refl | Provides ↦ refl | Status ↦ refl ]

-- the kind that a name in lower case tells
kind_by : Text → Option FieldKind
kind_by low =
    if bytes_eq low (key Package) then Some Package
    else if bytes_eq low (key Version) then Some Version
    else if bytes_eq low (key Architecture) then Some Architecture
    else if bytes_eq low (key PreDepends) then Some PreDepends
    else if bytes_eq low (key Depends) then Some Depends
    else if bytes_eq low (key Conflicts) then Some Conflicts
    else if bytes_eq low (key Breaks) then Some Breaks
    else if bytes_eq low (key Provides) then Some Provides
    else if bytes_eq low (key Status) then Some Status
    else None

kind_lowered : (name : Text) → kind_of name ≡ kind_by (lowered name)
unfolding kind_by
kind_lowered name = refl

told : FieldKind → Option FieldKind → Bool
told kind found = option_map_or (is_kind kind) found false

-- at each step the name is that of the kind, or the later ones are asked
step : (kind other : FieldKind) (low : Text) (rest : Option FieldKind) → (bytes_eq low (key other) ≡ false → told kind rest ≡ bytes_eq low (key kind)) → told kind (if bytes_eq low (key other) then Some other else rest) ≡ bytes_eq low (key kind)
unfolding told
step kind other low rest later = go (bytes_eq low (key other)) refl
  where
    go : (b : Bool) → bytes_eq low (key other) ≡ b → told kind (cond b (Some other) rest) ≡ bytes_eq low (key kind)
    go true e = kinds_apart other kind ∙ ap (λ t. bytes_eq t (key kind)) (sym (same_bytes low (key other) e))
    go false e = later e

kind_told : (kind : FieldKind) (low : Text) → told kind (kind_by low) ≡ bytes_eq low (key kind)
unfolding told kind_by
kind_told kind low =
    step kind Package low _ (λ f0.
    step kind Version low _ (λ f1.
    step kind Architecture low _ (λ f2.
    step kind PreDepends low _ (λ f3.
    step kind Depends low _ (λ f4.
    step kind Conflicts low _ (λ f5.
    step kind Breaks low _ (λ f6.
    step kind Provides low _ (λ f7.
    step kind Status low _ (λ f8.
    elim kind as (λ v. told v None ≡ bytes_eq low (key v)) [ Package ↦ sym f0 | Version ↦ sym f1 | Architecture ↦ sym f2 | PreDepends ↦ sym f3 | Depends ↦ sym f4 | Conflicts ↦ sym f5 | Breaks ↦ sym f6 | Provides ↦ sym f7 | Status ↦ sym f8 ])))))))))

pub kind_is : (kind : FieldKind) (name : Text) → option_map_or (is_kind kind) (kind_of name) false ≡ bytes_eq (lowered name) (key kind)
unfolding told
kind_is kind name = ap (told kind) (kind_lowered name) ∙ kind_told kind (lowered name)

-- the value of the first field that is kept of a kind
abbrev pub kept_value : FieldKind → List RawField → Option Text
kept_value kind kept = option_map (λ field. field.value) (field_among kind kept)

value_step : (kind : FieldKind) (line : Line) (more : List Line) → list_any is_colon line.text ≡ true → kept_value kind (kept_fields more) ≡ field_value (key kind) (texts more)
    → (all : List Text) → fields all ≡ (line.text ++ continued (texts more)) ∷ fields (texts more) → kept_value kind (cons_option (kept_field line more) (kept_fields more)) ≡ field_value (key kind) all
value_step kind line more colon later all is = go (kind_of (name_of line.text)) refl
  where
    named : (found : Option FieldKind) → kind_of (name_of line.text) ≡ found → bytes_eq (name_key (line.text ++ continued (texts more))) (key kind) ≡ option_map_or (is_kind kind) found false
    named found e = ap (λ name. bytes_eq (lowered name) (key kind)) (name_whole line.text (continued (texts more)) colon) ∙ sym (kind_is kind (name_of line.text)) ∙ ap (λ f. option_map_or (is_kind kind) f false) e

    value : trimmed (behind_colon line.text ++ continued (texts more)) ≡ trim_both (behind_colon (line.text ++ continued (texts more)))
    value = trimmed_both (behind_colon line.text ++ continued (texts more)) ∙ ap trim_both (sym (cut_append is_colon line.text (continued (texts more)) colon).1)

    first : field_value (key kind) all ≡ option_map (λ field. trim_both (behind_colon field)) (cond (bytes_eq (name_key (line.text ++ continued (texts more))) (key kind)) (Some (line.text ++ continued (texts more))) (find (λ field. bytes_eq (name_key field) (key kind)) (fields (texts more))))
    first = ap (λ fs. option_map (λ field. trim_both (behind_colon field)) (find (λ field. bytes_eq (name_key field) (key kind)) fs)) is

    found_field : (b : Bool) → (other : FieldKind) → is_kind kind other ≡ b → bytes_eq (name_key (line.text ++ continued (texts more))) (key kind) ≡ b
        → kept_value kind (record { kind = other; line = line.number; value = trimmed (behind_colon line.text ++ continued (texts more)) } ∷ kept_fields more) ≡ field_value (key kind) all
    found_field true other at same = rw at (ap Some value ∙ sym (first ∙ ap (λ b. option_map (λ field. trim_both (behind_colon field)) (cond b (Some (line.text ++ continued (texts more))) (find (λ field. bytes_eq (name_key field) (key kind)) (fields (texts more))))) same))
    found_field false other at same = rw at (later ∙ sym (first ∙ ap (λ b. option_map (λ field. trim_both (behind_colon field)) (cond b (Some (line.text ++ continued (texts more))) (find (λ field. bytes_eq (name_key field) (key kind)) (fields (texts more))))) same))

    go : (found : Option FieldKind) → kind_of (name_of line.text) ≡ found
        → kept_value kind (cons_option (option_map (λ other. record { kind = other; line = line.number; value = trimmed (behind_colon line.text ++ continued (texts more)) }) (kind_of (name_of line.text))) (kept_fields more)) ≡ field_value (key kind) all
    go None e = rw e (later ∙ sym (first ∙ ap (λ b. option_map (λ field. trim_both (behind_colon field)) (cond b (Some (line.text ++ continued (texts more))) (find (λ field. bytes_eq (name_key field) (key kind)) (fields (texts more))))) (named None e)))
    go (Some other) e = rw e (found_field (is_kind kind other) other refl (named (Some other) e))

pub value_is : (kind : FieldKind) (group : List Line) → first_line_fault group ≡ None → kept_value kind (kept_fields group) ≡ field_value (key kind) (texts group)
value_is kind [] shape = refl
value_is kind (line ∷ more) shape = go (is_continuation line.text) refl (value_is kind more)
  where
    both : (line_fault line ≡ None) × (first_line_fault more ≡ None)
    both = none_of (line_fault line) (first_line_fault more) shape

    go : (b : Bool) → is_continuation line.text ≡ b → (first_line_fault more ≡ None → kept_value kind (kept_fields more) ≡ field_value (key kind) (texts more)) → kept_value kind (kept_fields (line ∷ more)) ≡ field_value (key kind) (texts (line ∷ more))
    go true e later = rw e (later both.1)
    go false e later =
        ap (kept_value kind) (let kept : kept_fields (line ∷ more) ≡ cons_option (kept_field line more) (kept_fields more) = rw e refl in kept)
        ∙ value_step kind line more (shaped line both.0 e).colon (later both.1) (texts (line ∷ more)) (rw e refl)
