-- No architecture of a status file is a fault.
use Rattle.std.proofs.Common.{◌≡◌, ℕ, zero, suc, ◌+◌, Bool, true, false, not, ◌||◌, cond, inl, inr, List, [], ◌∷◌, take, map, find, length, Option, Some, None}
use Rattle.std.proofs.Common.{Result, Ok, Err, refl, ap, sym, ◌∙◌, subst}
use Rattle.std.proofs.{lemmas.Bool.{and_parts, or_cases, or_left, or_right, both_ways, not-true, not-false}, lemmas.List.{take-map}}
use Rattle.std.proofs.lemmas.Slice.Eq.{bytes_eq-Decides}
use Rattle.std.specs.{Prelude.{codes, nat_le, is_some}, Option.{option_and_then, option_map, option_map_or, option_or}, Str.{bytes_eq}}
use Rattle.deb_version.specs.{Grammar.{is_version}, Names.{is_name}}
use Rattle.relation_fields.specs.{Fields.{first_outside}, Grammar.{is_architecture, alternatives_of, atom_of, provide_of}, declared.packages.Home.{Home}}
use Rattle.relation_fields.specs.declared.packages.PackageFacts.{PackageFacts}
use Rattle.stanza_reader.specs.{Blanking.{blanked, picked}, Stanzas.{readings, stanzas}, declared.fault.StanzaFault.{StanzaFault}}
use Rattle.stanza_reader.specs.declared.stanza.FieldKind.{FieldKind}
use Rattle.stanza_reader.specs.declared.stanza.FieldKind.TheVariants as kind
use Rattle.stanza_reader.specs.{declared.stanza.RawField.{RawField}, declared.stanza.RawStanza.{RawStanza}}
use Rattle.stanza_reader.proofs.BlankLemmas.{good, good_readings, map_picked, readings_picked}
use Rattle.repo_model.specs.{Facts.{architecture_of, facts_of, is_all, is_same_package}, Fields.{field_of}}
use Rattle.repo_model.specs.FirstFault.{bad_relation, bad_value, duplicate_fault, fault_behind, faults_from, first_fault, first_present, home_of, is_at_home}
use Rattle.repo_model.specs.FirstFault.{missing, mixed_fault, presence_fault, stanza_fault, stanzas_in, unless_good, value_fault}
use Rattle.repo_model.specs.declared.fault.IndexFault.{IndexFault}
use Rattle.repo_model.specs.declared.fault.IndexFault.TheVariants.{Stanza, MissingPackage, MissingVersion, BadPackage, BadVersion, BadArchitecture, BadRelation}
use Rattle.repo_model.specs.{declared.fault.IndexFault.TheVariants.{Duplicate, Mixed, TooMany, Memory}, Limits.{most_packages}}
use Rattle.suite_compare.specs.Refusals.{home_in}
use Rattle.status_check.specs.{Installed.{is_elsewhere, is_installed, is_of_home, is_own}, Laws.{NoArchitectureFault}, Own.{own_stanzas_text, status_fault}}
use Rattle.status_check.proofs.{NamedHomes.{IsNamedHome, named_home}, OwnTexts.{all_stanzas, lines_faulty, lines_fine, stanzas_good}}

-- whether a fault is of an architecture
abbrev is_of_architecture : IndexFault → Bool
is_of_architecture (Stanza fault) = false
is_of_architecture (MissingPackage line) = false
is_of_architecture (MissingVersion line) = false
is_of_architecture (BadPackage line) = false
is_of_architecture (BadVersion line) = false
is_of_architecture (BadArchitecture line) = true
is_of_architecture (BadRelation line element) = false
is_of_architecture (Duplicate first_line line) = false
is_of_architecture (Mixed line) = true
is_of_architecture TooMany = false
is_of_architecture Memory = false

-- a fault that may be there is not of an architecture
abbrev Passes : Option IndexFault → Type 0
Passes None = Unit {0}
Passes (Some fault) = is_of_architecture fault ≡ false

first_passes : (there more : Option IndexFault) → Passes there → Passes more → Passes (option_or there more)
first_passes None more h k = k
first_passes (Some fault) more h k = h

abbrev AreOwn : Home → List RawStanza → Type 0
AreOwn home [] = Unit {0}
AreOwn home (stanza ∷ more) = (is_own home stanza ≡ true) × AreOwn home more

own_take : (home : Home) (n : ℕ) (all : List RawStanza) → AreOwn home all → AreOwn home (take n all)
own_take home zero all own = tt
own_take home (suc n) [] own = tt
own_take home (suc n) (stanza ∷ more) own = (own.0, own_take home n more own.1)

own_picked : (home : Home) (all : List RawStanza) → AreOwn home (picked (map (is_own home) all) all)
own_picked home [] = tt
own_picked home (stanza ∷ more) = go (own_picked home more) (is_own home stanza) refl
  where
    go : AreOwn home (picked (map (is_own home) more) more) → (b : Bool) → is_own home stanza ≡ b → AreOwn home (picked (map (is_own home) (stanza ∷ more)) (stanza ∷ more))
    go later true own = let kept : picked (map (is_own home) (stanza ∷ more)) (stanza ∷ more) ≡ stanza ∷ picked (map (is_own home) more) more = rw own refl in subst (AreOwn home) (sym kept) (own, later)
    go later false other = let kept : picked (map (is_own home) (stanza ∷ more)) (stanza ∷ more) ≡ picked (map (is_own home) more) more = rw other refl in subst (AreOwn home) (sym kept) later

-- the architecture of an own stanza is `all` or the home
known : (home : Home) (stanza : RawStanza) (field : RawField) → is_own home stanza ≡ true → field_of kind.Architecture stanza ≡ Some field → (is_all field.value || is_of_home home field.value) ≡ true
known home stanza field own e =
    let here : is_elsewhere home stanza ≡ not (is_all field.value || is_of_home home field.value) = ap (λ found. option_map_or (λ (f : RawField). not (is_all f.value || is_of_home home f.value)) found false) e in
    not-false (is_all field.value || is_of_home home field.value) (sym here ∙ not-true (is_elsewhere home stanza) (and_parts (is_installed stanza) (not (is_elsewhere home stanza)) own).1)

named_value : (name : Option (List ℕ)) (value : List ℕ) → IsNamedHome name → option_map_or (bytes_eq value) name false ≡ true → is_architecture value ≡ true
named_value None value named e = cc
named_value (Some name) value named e = ap is_architecture ((bytes_eq-Decides value name).0 e) ∙ named

good_value : (home : Home) (value : List ℕ) → IsNamedHome home.name → (is_all value || is_of_home home value) ≡ true → is_architecture value ≡ true
good_value home value named e = elim (or_cases (is_all value) (is_of_home home value) e) [
  | inl all ↦ ap is_architecture ((bytes_eq-Decides value (codes "all")).0 all)
  | inr own ↦ named_value home.name value named own
]

missing_passes : (which : FieldKind) (fault : IndexFault) (stanza : RawStanza) → is_of_architecture fault ≡ false → Passes (missing which fault stanza)
missing_passes which fault stanza h = by (is_some (field_of which stanza))
  where
    by : (b : Bool) → Passes (cond b None (Some fault))
    by true = tt
    by false = h

value_passes : (which : FieldKind) (is_good : List ℕ → Bool) (fault : ℕ → IndexFault) (stanza : RawStanza) → ((line : ℕ) → is_of_architecture (fault line) ≡ false) → Passes (bad_value which is_good fault stanza)
value_passes which is_good fault stanza h = go (field_of which stanza)
  where
    by : (field : RawField) (b : Bool) → Passes (cond b None (Some (fault field.line)))
    by field true = tt
    by field false = h field.line

    go : (found : Option RawField) → Passes (option_and_then (unless_good is_good fault) found)
    go None = tt
    go (Some field) = by field (is_good field.value)

architecture_passes : (home : Home) (stanza : RawStanza) → IsNamedHome home.name → is_own home stanza ≡ true → Passes (bad_value kind.Architecture is_architecture BadArchitecture stanza)
architecture_passes home stanza named own = go (field_of kind.Architecture stanza) refl
  where
    go : (found : Option RawField) → field_of kind.Architecture stanza ≡ found → Passes (option_and_then (unless_good is_architecture BadArchitecture) found)
    go None e = tt
    go (Some field) e =
        let fine : is_architecture field.value ≡ true = good_value home field.value named (known home stanza field own e) in
        let none : cond (is_architecture field.value) None (Some (BadArchitecture field.line)) ≡ None = ap (λ b. cond b None (Some (BadArchitecture field.line))) fine in
        subst Passes (sym none) tt

relation_passes : {X : Type 0} (which : FieldKind) (one : List ℕ → Option X) (stanza : RawStanza) → Passes (bad_relation which one stanza)
relation_passes which one stanza = go (field_of which stanza)
  where
    by : (field : RawField) (outside : Option ℕ) → Passes (option_map (BadRelation field.line) outside)
    by field None = tt
    by field (Some element) = refl

    go : (found : Option RawField) → Passes (option_and_then (λ (field : RawField). option_map (BadRelation field.line) (first_outside one field.value)) found)
    go None = tt
    go (Some field) = by field (first_outside one field.value)

presence_passes : (stanza : RawStanza) → Passes (presence_fault stanza)
unfolding presence_fault
presence_passes stanza =
    first_passes _ _ (missing_passes kind.Package (MissingPackage stanza.line) stanza refl) (first_passes _ _ (missing_passes kind.Version (MissingVersion stanza.line) stanza refl) tt)

values_pass : (home : Home) (stanza : RawStanza) → IsNamedHome home.name → is_own home stanza ≡ true → Passes (value_fault stanza)
unfolding value_fault
values_pass home stanza named own =
    first_passes _ _ (value_passes kind.Package is_name BadPackage stanza (λ line. refl))
    (first_passes _ _ (value_passes kind.Version is_version BadVersion stanza (λ line. refl))
    (first_passes _ _ (architecture_passes home stanza named own)
    (first_passes _ _ (relation_passes kind.PreDepends alternatives_of stanza)
    (first_passes _ _ (relation_passes kind.Depends alternatives_of stanza)
    (first_passes _ _ (relation_passes kind.Conflicts atom_of stanza)
    (first_passes _ _ (relation_passes kind.Breaks atom_of stanza)
    (first_passes _ _ (relation_passes kind.Provides provide_of stanza) tt)))))))

duplicate_passes : (before : List PackageFacts) (stanza : RawStanza) → Passes (duplicate_fault before stanza)
unfolding duplicate_fault
duplicate_passes before stanza = go (find (is_same_package (facts_of stanza)) before)
  where
    go : (found : Option PackageFacts) → Passes (option_map (λ (first : PackageFacts). Duplicate first.line stanza.line) found)
    go None = tt
    go (Some first) = refl

-- an own stanza with an architecture other than `all` has that of the home
of_home : (home : Home) (stanza : RawStanza) (architecture : List ℕ) → is_own home stanza ≡ true → architecture_of stanza ≡ Some architecture → is_of_home home architecture ≡ true
unfolding architecture_of
of_home home stanza architecture own is = go (field_of kind.Architecture stanza) refl is
  where
    by : (field : RawField) (b : Bool) → is_all field.value ≡ b → field_of kind.Architecture stanza ≡ Some field → cond b None (Some field.value) ≡ Some architecture → is_of_home home architecture ≡ true
    by field true all e h = cc
    by field false other e h =
        let same : field.value ≡ architecture = cc in
        let either : (false || is_of_home home field.value) ≡ true = ap (λ b. b || is_of_home home field.value) (sym other) ∙ known home stanza field own e in
        ap (is_of_home home) (sym same) ∙ either

    go : (found : Option RawField) → field_of kind.Architecture stanza ≡ found → option_and_then (λ (field : RawField). cond (is_all field.value) None (Some field.value)) found ≡ Some architecture → is_of_home home architecture ≡ true
    go None e h = cc
    go (Some field) e h = by field (is_all field.value) refl e h

same_home : (name : Option (List ℕ)) (value other : List ℕ) → option_map_or (bytes_eq value) name false ≡ true → option_map_or (bytes_eq other) name false ≡ true → bytes_eq value other ≡ true
same_home None value other e h = cc
same_home (Some name) value other e h = (bytes_eq-Decides value other).1 ((bytes_eq-Decides value name).0 e ∙ sym ((bytes_eq-Decides other name).0 h))

-- the own stanzas have no other home
at_home : (home : Home) (before : List RawStanza) (value : List ℕ) → AreOwn home before → is_of_home home value ≡ true → is_at_home (first_present (map architecture_of before)) value ≡ true
at_home home [] value own e = refl
at_home home (stanza ∷ more) value own e = go (at_home home more value own.1 e) (architecture_of stanza) refl
  where
    go : is_at_home (first_present (map architecture_of more)) value ≡ true → (found : Option (List ℕ)) → architecture_of stanza ≡ found → is_at_home (option_or found (first_present (map architecture_of more))) value ≡ true
    go later None is = later
    go later (Some architecture) is = same_home home.name value architecture e (of_home home stanza architecture own.0 is)

mixed_passes : (home : Home) (before : List RawStanza) (stanza : RawStanza) → AreOwn home before → is_own home stanza ≡ true → Passes (mixed_fault (home_of before) stanza)
unfolding mixed_fault home_of
mixed_passes home before stanza all own = go (field_of kind.Architecture stanza) refl
  where
    fine : (field : RawField) → field_of kind.Architecture stanza ≡ Some field → (is_all field.value || is_at_home (first_present (map architecture_of before)) field.value) ≡ true
    fine field e = elim (or_cases (is_all field.value) (is_of_home home field.value) (known home stanza field own e)) [
      | inl every ↦ or_left (is_all field.value) (is_at_home (first_present (map architecture_of before)) field.value) every
      | inr one ↦ or_right (is_all field.value) (is_at_home (first_present (map architecture_of before)) field.value) (at_home home before field.value all one)
    ]

    go : (found : Option RawField) → field_of kind.Architecture stanza ≡ found
        → Passes (option_and_then (λ (field : RawField). cond (is_all field.value || is_at_home (first_present (map architecture_of before)) field.value) None (Some (Mixed field.line))) found)
    go None e = tt
    go (Some field) e =
        let none : cond (is_all field.value || is_at_home (first_present (map architecture_of before)) field.value) None (Some (Mixed field.line)) ≡ None = ap (λ b. cond b None (Some (Mixed field.line))) (fine field e) in
        subst Passes (sym none) tt

stanza_passes : (home : Home) (before : List RawStanza) (stanza : RawStanza) → IsNamedHome home.name → AreOwn home before → is_own home stanza ≡ true → Passes (stanza_fault (map facts_of before) (home_of before) stanza)
stanza_passes home before stanza named all own =
    first_passes _ _ (first_passes _ _ (presence_passes stanza) (values_pass home stanza named own))
    (first_passes _ _ (duplicate_passes (map facts_of before) stanza) (first_passes _ _ (mixed_passes home before stanza all own) tt))

behind_passes : (home : Home) (before : List RawStanza) (stanza : RawStanza) → IsNamedHome home.name → AreOwn home before → is_own home stanza ≡ true → Passes (fault_behind (map good before) (Ok stanza))
behind_passes home before stanza named all own = by (nat_le most_packages (length (map good before)))
  where
    passes : Passes (stanza_fault (map facts_of (stanzas_in (map good before))) (home_of (stanzas_in (map good before))) stanza)
    passes = subst (λ xs. Passes (stanza_fault (map facts_of xs) (home_of xs) stanza)) (sym (stanzas_good before)) (stanza_passes home before stanza named all own)

    by : (b : Bool) → Passes (cond b (Some TooMany) (stanza_fault (map facts_of (stanzas_in (map good before))) (home_of (stanzas_in (map good before))) stanza))
    by true = refl
    by false = passes

faults_pass : (home : Home) (all : List RawStanza) (n : ℕ) (more : List RawStanza) → IsNamedHome home.name → AreOwn home all → AreOwn home more → Passes (first_present (faults_from (map good all) n (map good more)))
faults_pass home all n [] named own left = tt
faults_pass home all n (stanza ∷ more) named own left =
    first_passes _ _
    (subst (λ front. Passes (fault_behind front (Ok stanza))) (sym (take-map good n all)) (behind_passes home (take n all) stanza named (own_take home n all own) left.0))
    (faults_pass home all (n + 1) more named own left.1)

own_readings : (home : Home) (file : List ℕ) (all : List RawStanza) → stanzas file ≡ Ok all → readings (own_stanzas_text home file) ≡ map good (picked (map (is_own home) all) all)
unfolding own_stanzas_text
own_readings home file all e =
    ap (λ xs. readings (blanked (map (is_own home) xs) file)) (all_stanzas file all e) ∙ readings_picked (map (is_own home) all) file ∙ ap (picked (map (is_own home) all)) (good_readings (readings file) all e)
    ∙ sym (map_picked good (map (is_own home) all) all)

own_passes : (home : Home) (file : List ℕ) (all : List RawStanza) → IsNamedHome home.name → stanzas file ≡ Ok all → Passes (first_fault (own_stanzas_text home file))
unfolding first_fault
own_passes home file all named e =
    subst (λ read. Passes (first_present (faults_from read 0 read))) (sym (own_readings home file all e))
    (faults_pass home (picked (map (is_own home) all) all) 0 (picked (map (is_own home) all) all) named (own_picked home all) (own_picked home all))

status_passes : (home : Home) (file : List ℕ) → IsNamedHome home.name → Passes (status_fault home file)
status_passes home file named = go (stanzas file) refl
  where
    go : (read : Result (List RawStanza) StanzaFault) → stanzas file ≡ read → Passes (status_fault home file)
    go (Ok all) e = subst (λ there. Passes (option_or there (first_fault (own_stanzas_text home file)))) (sym (lines_fine file all e)) (own_passes home file all named e)
    go (Err fault) e = subst (λ there. Passes (option_or there (first_fault (own_stanzas_text home file)))) (sym (lines_faulty file fault e)) refl

never : (there : Option IndexFault) (fault : IndexFault) → Passes there → is_of_architecture fault ≡ true → there ≡ Some fault → ⊥
never there fault passes h e = both_ways (is_of_architecture fault) (subst Passes e passes) h

pub no_architecture_fault : NoArchitectureFault
no_architecture_fault index file line fine =
    let passes : Passes (status_fault (home_in index) file) = status_passes (home_in index) file (named_home index fine) in
    (never (status_fault (home_in index) file) (BadArchitecture line) passes refl, never (status_fault (home_in index) file) (Mixed line) passes refl)
