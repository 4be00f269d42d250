-- An index without a fault is an index of the packages that are read of it.
use Rattle.relation_fields.specs.Spelling.{SpellsAlternatives, SpellsAtom, SpellsProvide}
use Rattle.std.proofs.Common.{◌≡◌, ℕ, zero, suc, ◌+◌, ◌<◌, Bool, true, false, not, cond, ◌||◌, List, [], ◌∷◌, ◌++◌, Option, Some, None, Result, Ok, Err, length}
use Rattle.std.proofs.{Common.{take, map, refl, sym, ap, ◌∙◌, subst, inl, inr, ◌⊎◌, arith, length-append, append_assoc}, Math.Seq.{take-append_seam}}
use Rattle.std.proofs.lemmas.List.{append-nil, length-map, map-append}
use Rattle.std.specs.{Prelude.{nat_le, codes, unwrap_or, is_some, ◌==◌}, List.{AllZip, filter, list_all, slice_split}}
use Rattle.std.specs.{Option.{option_map, option_map_or, option_and_then, option_or}, Str.{bytes_eq}}
use Rattle.deb_version.specs.Names.{is_name}
use Rattle.deb_version.specs.Grammar as grammar
use Rattle.listed.specs.{Lists.{In, here, there}, Texts.{is_white_byte}}
use Rattle.listed.proofs.Lists.{In_append_cases, In_at, In_cases, In_map, In_none, same_bytes}
use Rattle.relation_fields.specs.{Fields.{first_outside, said_in, written}, Grammar.{atom_of, alternatives_of, provide_of, is_architecture}, Spelling.{Reads}}
use Rattle.relation_fields.specs.{declared.packages.Home.{Home}, declared.packages.PackageFacts.{PackageFacts}}
use Rattle.relation_fields.proofs.Faults.{field_said}
use Rattle.stanza_reader.specs.Lines.{Line, lines, numbered}
use Rattle.stanza_reader.specs.Stanzas as reader
use Rattle.stanza_reader.specs.{Stanzas.{texts, readings, stanza_of}, declared.stanza.FieldKind.{FieldKind}}
use Rattle.stanza_reader.specs.declared.stanza.FieldKind.TheVariants.{Package, Version, Architecture, PreDepends, Depends, Conflicts, Breaks, Provides}
use Rattle.stanza_reader.specs.{declared.stanza.RawField.{RawField}, declared.stanza.RawStanza.{RawStanza}, declared.fault.StanzaFault.{StanzaFault}}
use Rattle.repo_model.specs.Facts.{facts_of, is_all, is_same_package, architecture_of}
use Rattle.repo_model.specs.Fields as kinds
use Rattle.repo_model.specs.Fields.{field_of}
use Rattle.repo_model.specs.FirstFault.{first_present, missing, unless_good, bad_value, unless_said, bad_relation, presence_fault, value_fault, own_fault}
use Rattle.repo_model.specs.FirstFault.{duplicate_fault, mixed_fault, is_at_home, home_of, stanza_fault, fault_behind, faults_from, first_fault, stanzas_in}
use Rattle.repo_model.specs.{FirstFault.{stanzas_of}, Limits.{most_packages}, Stanzas.{stanza_at, no_stanza}, declared.fault.IndexFault.{IndexFault}}
use Rattle.repo_model.specs.declared.fault.IndexFault.TheVariants.{Stanza, MissingPackage, MissingVersion, BadPackage, BadVersion, BadArchitecture, BadRelation}
use Rattle.repo_model.specs.declared.fault.IndexFault.TheVariants.{Mixed, TooMany}
use Rattle.repo_model.proofs.Accepted as accepting
use Rattle.repo_model.proofs.{Accepted.{AreSingle}, Steps.{home_of-push}, WellFormed.{none_of, facts_well_formed}}
use Rattle.coinst_words.specs.Usage.{Text}
use Rattle.claims.specs.{Control.{stanza_groups, field_value}, Index.{relation_elements, FitsHome, Says, IndexSays, SaysTheSame}}
use Rattle.claims.specs.Laws.{IndexesAreOne, IndexesAreRead}
use Rattle.relation_fields.proofs.Readings.{alternatives_read, atoms_read, provides_read}
use Rattle.claims.proofs.{Control.{groups_are_theirs, group_is_read, IsRead}, Values.{key, kept_value, value_is}}

-- lists side by side
pub zip_map : {A B C D : Type 0} (R : A → B → Type 0) (S : C → D → Type 0) (f : A → C) (g : B → D) (xs : List A) (ys : List B)
    → ((x : A) (y : B) → In y ys → R x y → S (f x) (g y)) → AllZip R xs ys → AllZip S (map f xs) (map g ys)
zip_map R S f g [] [] to z = tt
zip_map R S f g [] (y ∷ ys) to z = absurd z
zip_map R S f g (x ∷ xs) [] to z = absurd z
zip_map R S f g (x ∷ xs) (y ∷ ys) to z = (to x y here z.0, zip_map R S f g xs ys (λ a b i. to a b (there i)) z.1)

zip_append : {A B : Type 0} (R : A → B → Type 0) (xs : List A) (ys : List B) (more : List A) (others : List B) → AllZip R xs ys → AllZip R more others → AllZip R (xs ++ more) (ys ++ others)
zip_append R [] [] more others z w = w
zip_append R [] (y ∷ ys) more others z w = absurd z
zip_append R (x ∷ xs) [] more others z w = absurd z
zip_append R (x ∷ xs) (y ∷ ys) more others z w = (z.0, zip_append R xs ys more others z.1 w)

pub zip_in : {A B : Type 0} (R : A → B → Type 0) (xs : List A) (ys : List B) (y : B) → AllZip R xs ys → In y ys → (x : A) × In x xs × R x y
zip_in R [] [] y z i = absurd (In_none i)
zip_in R [] (w ∷ ys) y z i = absurd z
zip_in R (x ∷ xs) [] y z i = absurd z
zip_in R (x ∷ xs) (w ∷ ys) y z i = elim (In_cases i) [
  | inl same ↦ (x, here, subst (R x) (sym same) z.0)
  | inr j ↦ let more = zip_in R xs ys y z.1 j in (more.0, there more.1, more.2)
]

-- the fields of a stanza that has no fault of its own
present : (kind : FieldKind) (fault : IndexFault) (s : RawStanza) → missing kind fault s ≡ None → kept_value kind s.fields ≡ Some (kinds.value_of kind s)
present kind fault s = go (field_of kind s)
  where
    go : (found : Option RawField) → cond (is_some found) None (Some fault) ≡ None → option_map (λ f. f.value) found ≡ Some (option_map_or (λ f. f.value) found [])
    go None e = cc
    go (Some field) e = refl

good : (kind : FieldKind) (is_good : Text → Bool) (bad : ℕ → IndexFault) (s : RawStanza) → bad_value kind is_good bad s ≡ None → (field : RawField) → field_of kind s ≡ Some field → is_good field.value ≡ true
good kind is_good bad s none field at = go (is_good field.value) refl (ap (option_and_then (unless_good is_good bad)) (sym at) ∙ none)
  where
    go : (b : Bool) → is_good field.value ≡ b → cond (is_good field.value) None (Some (bad field.line)) ≡ None → is_good field.value ≡ true
    go true e h = e
    go false e h = cc (rw e at h)

elements_are : (kind : FieldKind) (group : List Text) (s : RawStanza) → kept_value kind s.fields ≡ field_value (key kind) group → relation_elements (key kind) group ≡ written (kinds.value_of kind s)
elements_are kind group s e = ap (λ v. filter (λ element. not (list_all is_white_byte element)) (slice_split (λ b. b == 44) v)) (ap (λ v. unwrap_or v []) (sym e) ∙ filled (field_of kind s))
  where
    filled : (found : Option RawField) → unwrap_or (option_map (λ f. f.value) found) [] ≡ option_map_or (λ f. f.value) found []
    filled None = refl
    filled (Some field) = refl

said : {X : Type 0} (one : Text → Option X) (Spells : Text → X → Type 0) → Reads one Spells → (kind : FieldKind) (s : RawStanza) → bad_relation kind one s ≡ None
    → AllZip Spells (written (kinds.value_of kind s)) (said_in one (kinds.value_of kind s))
unfolding said_in
said one Spells reads kind s = go (field_of kind s)
  where
    none : (found : Option ℕ) (line : ℕ) → option_map (BadRelation line) found ≡ None → found ≡ None
    none None line e = refl
    none (Some n) line e = cc

    go : (found : Option RawField) → option_and_then (unless_said one) found ≡ None → AllZip Spells (written (option_map_or (λ f. f.value) found [])) (said_in one (option_map_or (λ f. f.value) found []))
    go None e = tt
    go (Some field) e = field_said one Spells reads field.value (none (first_outside one field.value) field.line e)

-- the relations of a stanza
spelled : {X : Type 0} (one : Text → Option X) (Spells : Text → X → Type 0) → Reads one Spells → (kind : FieldKind) (group : List Text) (s : RawStanza)
    → kept_value kind s.fields ≡ field_value (key kind) group → bad_relation kind one s ≡ None → AllZip Spells (relation_elements (key kind) group) (said_in one (kinds.value_of kind s))
spelled one Spells reads kind group s e none = subst (λ es. AllZip Spells es (said_in one (kinds.value_of kind s))) (sym (elements_are kind group s e)) (said one Spells reads kind s none)

-- the architecture of a stanza is that of the home
abbrev pub Local : Option Text → RawStanza → Type 0
Local home s = (field : RawField) → field_of Architecture s ≡ Some field → (is_all field.value ≡ true) ⊎ (home ≡ Some field.value)

fits : (home : Home) (group : List Text) (s : RawStanza) → kept_value Architecture s.fields ≡ field_value (key Architecture) group → bad_value Architecture is_architecture BadArchitecture s ≡ None → Local home.name s
    → FitsHome home (unwrap_or (field_value (codes "architecture") group) (codes "all"))
fits home group s e none local = subst (λ v. FitsHome home (unwrap_or v (codes "all"))) e (go (field_of Architecture s) refl)
  where
    go : (found : Option RawField) → field_of Architecture s ≡ found → FitsHome home (unwrap_or (option_map (λ f. f.value) found) (codes "all"))
    go None at = inl refl
    go (Some field) at = elim (local field at) [
      | inl all ↦ inl (same_bytes field.value (codes "all") all)
      | inr same ↦ inr (same, good Architecture is_architecture BadArchitecture s none field at)
    ]

pub says : (home : Home) (group : List Line) (s : RawStanza) → IsRead group s → own_fault s ≡ None → Local home.name s → Says home (texts group) (facts_of s)
unfolding presence_fault value_fault facts_of
says home group s r none local =
    let value : (kind : FieldKind) → kept_value kind s.fields ≡ field_value (key kind) (texts group) = λ kind. ap (kept_value kind) r.kept ∙ value_is kind group r.shape in
    let all = none_of (presence_fault s) (value_fault s) none in
    let name_there = none_of (missing Package (MissingPackage s.line) s) _ all.0 in
    let version_there = none_of (missing Version (MissingVersion s.line) s) _ name_there.1 in
    let names = none_of (bad_value Package is_name BadPackage s) _ all.1 in
    let versions = none_of (bad_value Version grammar.is_version BadVersion s) _ names.1 in
    let architectures = none_of (bad_value Architecture is_architecture BadArchitecture s) _ versions.1 in
    let pre_depends = none_of (bad_relation PreDepends alternatives_of s) _ architectures.1 in
    let depends = none_of (bad_relation Depends alternatives_of s) _ pre_depends.1 in
    let conflicts = none_of (bad_relation Conflicts atom_of s) _ depends.1 in
    let breaks = none_of (bad_relation Breaks atom_of s) _ conflicts.1 in
    let provides = none_of (bad_relation Provides provide_of s) _ breaks.1 in
    let formed = facts_well_formed s (facts_of s) none refl in
    record {
      stanza = r.stanza;
      name = (sym (value Package) ∙ present Package (MissingPackage s.line) s name_there.0, formed.0);
      version = (sym (value Version) ∙ present Version (MissingVersion s.line) s version_there.0, formed.1);
      architecture = fits home (texts group) s (value Architecture) architectures.0 local;
      needs = zip_append SpellsAlternatives (relation_elements (key PreDepends) (texts group)) (said_in alternatives_of (kinds.value_of PreDepends s)) (relation_elements (key Depends) (texts group)) (said_in alternatives_of (kinds.value_of Depends s))
          (spelled alternatives_of SpellsAlternatives alternatives_read PreDepends (texts group) s (value PreDepends) pre_depends.0)
          (spelled alternatives_of SpellsAlternatives alternatives_read Depends (texts group) s (value Depends) depends.0);
      against = zip_append SpellsAtom (relation_elements (key Conflicts) (texts group)) (said_in atom_of (kinds.value_of Conflicts s)) (relation_elements (key Breaks) (texts group)) (said_in atom_of (kinds.value_of Breaks s))
          (spelled atom_of SpellsAtom atoms_read Conflicts (texts group) s (value Conflicts) conflicts.0)
          (spelled atom_of SpellsAtom atoms_read Breaks (texts group) s (value Breaks) breaks.0);
      provides = spelled provide_of SpellsProvide provides_read Provides (texts group) s (value Provides) provides.0;
    }

-- stanzas without faults, none with another architecture than the common one
record Faultless (stanzas : List RawStanza) : Type 0 where
  own : (s : RawStanza) → In s stanzas → own_fault s ≡ None
  local : (s : RawStanza) → In s stanzas → Local (home_of stanzas) s

still : (home more : Option Text) (s : RawStanza) → Local home s → Local (option_or home more) s
still home more s local field at = elim (local field at) [ inl all ↦ inl all | inr same ↦ inr (ap (λ h. option_or h more) same) ]

-- a stanza that brings no other architecture
brings : (home : Option Text) (s : RawStanza) → mixed_fault home s ≡ None → Local (option_or home (architecture_of s)) s
unfolding mixed_fault architecture_of
brings home s none field at = go (is_all field.value) refl (ap (option_and_then (λ (f : RawField). cond (is_all f.value || is_at_home home f.value) None (Some (Mixed f.line)))) (sym at) ∙ none)
  where
    own : is_all field.value ≡ false → option_and_then (λ (f : RawField). cond (is_all f.value) None (Some f.value)) (field_of Architecture s) ≡ Some field.value
    own e = ap (option_and_then (λ (f : RawField). cond (is_all f.value) None (Some f.value))) at ∙ rw e refl

    same : (h : Text) (b : Bool) → bytes_eq field.value h ≡ b → cond b None (Some (Mixed field.line)) ≡ None → h ≡ field.value
    same h true e none = sym (same_bytes field.value h e)
    same h false e none = cc

    by : (known : Option Text) → cond (is_at_home known field.value) None (Some (Mixed field.line)) ≡ None → is_all field.value ≡ false
        → option_or known (option_and_then (λ (f : RawField). cond (is_all f.value) None (Some f.value)) (field_of Architecture s)) ≡ Some field.value
    by None none e = own e
    by (Some h) none e = ap Some (same h (bytes_eq field.value h) refl none)

    go : (b : Bool) → is_all field.value ≡ b → cond (is_all field.value || is_at_home home field.value) None (Some (Mixed field.line)) ≡ None
        → (is_all field.value ≡ true) ⊎ (option_or home (option_and_then (λ (f : RawField). cond (is_all f.value) None (Some f.value)) (field_of Architecture s)) ≡ Some field.value)
    go true e h = inl e
    go false e h = inr (by home (subst (λ b. cond (b || is_at_home home field.value) None (Some (Mixed field.line)) ≡ None) e h) e)

faultless_more : (before : List RawStanza) (s : RawStanza) → stanza_fault (map facts_of before) (home_of before) s ≡ None → Faultless before → Faultless (before ++ s ∷ [])
faultless_more before s none f =
    let own = none_of (own_fault s) _ none in
    let new = none_of (duplicate_fault (map facts_of before) s) _ own.1 in
    let mixed = none_of (mixed_fault (home_of before) s) _ new.1 in
    record {
      own = λ t i. elim (In_append_cases before (s ∷ []) t i) [
        | inl j ↦ f.own t j
        | inr j ↦ elim (In_cases j) [
          | inl same ↦ subst (λ u. own_fault u ≡ None) (sym same) own.0
          | inr k ↦ absurd (In_none k)
        ]
      ];
      local = λ t i. subst (λ home. Local home t) (sym (home_of-push before s)) (elim (In_append_cases before (s ∷ []) t i) [
        | inl j ↦ still (home_of before) (architecture_of s) t (f.local t j)
        | inr j ↦ elim (In_cases j) [
          | inl same ↦ subst (Local (option_or (home_of before) (architecture_of s))) (sym same) (brings (home_of before) s mixed.0)
          | inr k ↦ absurd (In_none k)
        ]
      ]);
    }

abbrev pub ok : RawStanza → Result RawStanza StanzaFault
ok s = Ok s

pub stanzas_ok : (before : List RawStanza) → stanzas_in (map ok before) ≡ before
stanzas_ok [] = refl
stanzas_ok (s ∷ before) = ap (λ more. s ∷ more) (stanzas_ok before)

early : (n : ℕ) (x : Option IndexFault) → cond (nat_le most_packages n) (Some TooMany) x ≡ None → x ≡ None
early n x = go (nat_le most_packages n)
  where
    go : (b : Bool) → cond b (Some TooMany) x ≡ None → x ≡ None
    go true e = cc
    go false e = e

-- where no reading has a fault, each is a stanza
record Stanzas (all : List (Result RawStanza StanzaFault)) : Type 0 where
  stanzas : List RawStanza
  read : all ≡ map ok stanzas
  faultless : Faultless stanzas

walk : (all : List (Result RawStanza StanzaFault)) (before : List RawStanza) (more : List (Result RawStanza StanzaFault)) → all ≡ map ok before ++ more → Faultless before
    → first_present (faults_from all (length before) more) ≡ None → Stanzas all
walk all before [] is f none = record { stanzas = before; read = is ∙ append-nil (map ok before); faultless = f }
walk all before (Ok s ∷ more) is f none =
    let both = none_of (fault_behind (take (length before) all) (Ok s)) (first_present (faults_from all (length before + 1) more)) none in
    let front : take (length before) all ≡ map ok before
    = ap (take (length before)) is ∙ ap (λ n. take n (map ok before ++ Ok s ∷ more)) (let long : length before ≡ length (map ok before) = simp length-map in long) ∙ take-append_seam (map ok before) (Ok s ∷ more) in
    let own : fault_behind (map ok before) (Ok s) ≡ None = subst (λ xs. fault_behind xs (Ok s) ≡ None) front both.0 in
    let now : stanza_fault (map facts_of (stanzas_in (map ok before))) (home_of (stanzas_in (map ok before))) s ≡ None = early (length (map ok before)) _ own in
    let known : stanza_fault (map facts_of before) (home_of before) s ≡ None = subst (λ ss. stanza_fault (map facts_of ss) (home_of ss) s ≡ None) (stanzas_ok before) now in
    walk all (before ++ s ∷ []) more (is ∙ sym (ap (λ xs. xs ++ more) (map-append ok before (s ∷ [])) ∙ append_assoc (map ok before) (Ok s ∷ []) more))
    (faultless_more before s known f) (subst (λ n. first_present (faults_from all n more) ≡ None) (sym (length-append before (s ∷ []))) both.1)
walk all before (Err fault ∷ more) is f none =
    let both = none_of (fault_behind (take (length before) all) (Err fault)) (first_present (faults_from all (length before + 1) more)) none in
    let never : Some (Stanza fault) ≡ None = early (length (take (length before) all)) (Some (Stanza fault)) both.0 in
    absurd (let no : ⊥ = cc in no)

pub zip_ok : (groups : List (List Line)) (stanzas : List RawStanza) → map stanza_of groups ≡ map ok stanzas → AllZip (λ g s. stanza_of g ≡ Ok s) groups stanzas
zip_ok [] [] e = tt
zip_ok [] (s ∷ ss) e = absurd (let no : ⊥ = cc in no)
zip_ok (g ∷ gs) [] e = absurd (let no : ⊥ = cc in no)
zip_ok (g ∷ gs) (s ∷ ss) e = (let first : stanza_of g ≡ Ok s = cc in first, zip_ok gs ss (let rest : map stanza_of gs ≡ map ok ss = cc in rest))

single_at : (xs : List PackageFacts) → AreSingle xs → (m n : ℕ) → m < n → n < length xs → is_same_package (stanza_at xs n) (stanza_at xs m) ≡ false
single_at [] a m n less l = absurd (omega arith)
single_at (s ∷ more) a zero zero less l = absurd (omega arith)
single_at (s ∷ more) a zero (suc n) less l = a.0 (stanza_at more n) (In_at more n no_stanza (omega arith))
single_at (s ∷ more) a (suc m) zero less l = absurd (omega arith)
single_at (s ∷ more) a (suc m) (suc n) less l = single_at more a.1 m n (omega arith) (omega arith)

-- the home is the architecture of some stanza
pub first_there : (ss : List RawStanza) (a : Text) → first_present (map architecture_of ss) ≡ Some a → (s : RawStanza) × In s ss × (architecture_of s ≡ Some a)
first_there [] a e = absurd (let no : ⊥ = cc in no)
first_there (s ∷ ss) a e = go (architecture_of s) refl (first_there ss a) e
  where
    go : (found : Option Text) → architecture_of s ≡ found → (first_present (map architecture_of ss) ≡ Some a → (t : RawStanza) × In t ss × (architecture_of t ≡ Some a))
        → option_or found (first_present (map architecture_of ss)) ≡ Some a → (t : RawStanza) × In t (s ∷ ss) × (architecture_of t ≡ Some a)
    go None at later h = let more = later h in (more.0, there more.1, more.2)
    go (Some b) at later h = (s, here, at ∙ h)

pub own_field : (s : RawStanza) (a : Text) → architecture_of s ≡ Some a → (field : RawField) × (field_of Architecture s ≡ Some field) × (is_all field.value ≡ false) × (field.value ≡ a)
unfolding architecture_of
own_field s a e = go (field_of Architecture s) refl e
  where
    by : (field : RawField) (b : Bool) → is_all field.value ≡ b → cond b None (Some field.value) ≡ Some a → (is_all field.value ≡ false) × (field.value ≡ a)
    by field true at h = absurd (let no : ⊥ = cc in no)
    by field false at h = (at, let same : field.value ≡ a = cc in same)

    go : (found : Option RawField) → field_of Architecture s ≡ found → option_and_then (λ (f : RawField). cond (is_all f.value) None (Some f.value)) found ≡ Some a
        → (field : RawField) × (field_of Architecture s ≡ Some field) × (is_all field.value ≡ false) × (field.value ≡ a)
    go None at h = absurd (let no : ⊥ = cc in no)
    go (Some field) at h = let both = by field (is_all field.value) refl h in (field, at, both.0, both.1)

pub indexes_are_read : IndexesAreRead
unfolding first_fault stanzas_of readings home_of
indexes_are_read text none =
    let gs : List (List Line) = reader.groups (numbered 1 (lines text)) in
    let w = walk (readings text) [] (readings text) refl (record { own = λ s i. absurd (In_none i); local = λ s i. absurd (In_none i) }) none in
    let ss : List RawStanza = w.stanzas in
    let same : stanzas_of text ≡ ss = ap stanzas_in w.read ∙ stanzas_ok ss in
    let pairs : AllZip (λ g s. stanza_of g ≡ Ok s) gs ss = zip_ok gs ss w.read in
    let single : AreSingle (map facts_of ss) = subst (λ all. AreSingle (map facts_of all)) same (accepting.accepted text none).single in
    let home : Home = record { name = home_of ss } in
    let index : IndexSays text home (map facts_of ss) = record {
      each = subst (λ all. AllZip (Says home) all (map facts_of ss)) (groups_are_theirs text)
          (zip_map (λ g s. stanza_of g ≡ Ok s) (Says home) texts facts_of gs ss (λ g s i e. says home g s (group_is_read g s e) (w.faultless.own s i) (w.faultless.local s i)) pairs);
      single = λ m n less l. single_at (map facts_of ss) single m n less l;
      local = λ a e.
          let it = first_there ss a e in
          let own = own_field it.0 a it.2 in
          let g = zip_in (λ g s. stanza_of g ≡ Ok s) gs ss it.0 pairs it.1 in
          let r = group_is_read g.0 it.0 g.2 in (
            (λ all. let yes : is_all own.0.value ≡ true = rw (own.3, all) refl in absurd (let no : ⊥ = cc (yes, own.2) in no)),
            (
              texts g.0,
              subst (In (texts g.0)) (groups_are_theirs text) (In_map texts gs g.0 g.1),
              sym (ap (kept_value Architecture) r.kept ∙ value_is Architecture g.0 r.shape) ∙ ap (option_map (λ f. f.value)) own.1 ∙ ap Some own.3,
            ),
          );
    } in
    subst (λ all. IndexSays text (record { name = home_of all }) (map facts_of all)) (sym same) index

-- what spells two values has one
zip_one : {X : Type 0} (one : Text → Option X) (Spells : Text → X → Type 0) → Reads one Spells → (texts : List Text) (xs ys : List X) → AllZip Spells texts xs → AllZip Spells texts ys → xs ≡ ys
zip_one one Spells reads [] [] [] z w = refl
zip_one one Spells reads [] [] (y ∷ ys) z w = absurd w
zip_one one Spells reads [] (x ∷ xs) ys z w = absurd z
zip_one one Spells reads (t ∷ ts) [] ys z w = absurd z
zip_one one Spells reads (t ∷ ts) (x ∷ xs) [] z w = absurd w
zip_one one Spells reads (t ∷ ts) (x ∷ xs) (y ∷ ys) z w =
    let rest : xs ≡ ys = zip_one one Spells reads ts xs ys z.1 w.1 in
    let first : Some x ≡ Some y = sym ((reads t x).1 z.0) ∙ (reads t y).1 w.0 in
    let same : x ≡ y = cc in
    ap (λ a. a ∷ xs) same ∙ ap (λ more. y ∷ more) rest

pub same_text : (a b : Text) → Some a ≡ Some b → a ≡ b
same_text a b e = cc

pub says_one : (h k : Home) (group : List Text) (s t : PackageFacts) → Says h group s → Says k group t → SaysTheSame s t
says_one h k group s t a b = (
  same_text s.name t.name (sym a.name.0 ∙ b.name.0),
  same_text s.version t.version (sym a.version.0 ∙ b.version.0),
  zip_one alternatives_of SpellsAlternatives alternatives_read (relation_elements (codes "pre-depends") group ++ relation_elements (codes "depends") group) s.needs t.needs a.needs b.needs,
  zip_one atom_of SpellsAtom atoms_read (relation_elements (codes "conflicts") group ++ relation_elements (codes "breaks") group) s.against t.against a.against b.against,
  zip_one provide_of SpellsProvide provides_read (relation_elements (codes "provides") group) s.provides t.provides a.provides b.provides,
)

pub zip_both : {A B C : Type 0} (R : A → B → Type 0) (S : A → C → Type 0) (T : B → C → Type 0) → ((x : A) (y : B) (z : C) → R x y → S x z → T y z) → (xs : List A) (ys : List B) (zs : List C) → AllZip R xs ys → AllZip S xs zs → AllZip T ys zs
zip_both R S T f [] [] [] r s = tt
zip_both R S T f [] [] (z ∷ zs) r s = absurd s
zip_both R S T f [] (y ∷ ys) zs r s = absurd r
zip_both R S T f (x ∷ xs) [] zs r s = absurd r
zip_both R S T f (x ∷ xs) (y ∷ ys) [] r s = absurd s
zip_both R S T f (x ∷ xs) (y ∷ ys) (z ∷ zs) r s = (f x y z r.0 s.0, zip_both R S T f xs ys zs r.1 s.1)

pub zip_left : {A B : Type 0} (R : A → B → Type 0) (xs : List A) (ys : List B) (x : A) → AllZip R xs ys → In x xs → (y : B) × R x y
zip_left R [] ys x z i = absurd (In_none i)
zip_left R (w ∷ xs) [] x z i = absurd z
zip_left R (w ∷ xs) (y ∷ ys) x z i = elim (In_cases i) [
  | inl same ↦ (y, subst (λ v. R v y) (sym same) z.0)
  | inr j ↦ zip_left R xs ys x z.1 j
]

-- a home with a name is that of each reading
home_at : (text : Text) (h k : Home) (ss ts : List PackageFacts) (a : Text) → IndexSays text h ss → IndexSays text k ts → h.name ≡ Some a → k.name ≡ Some a
home_at text h k ss ts a i j e =
    let it = i.local a e in
    let s = zip_left (Says k) (stanza_groups text) ts it.1.0 j.each it.1.1 in
    elim (subst (λ v. FitsHome k (unwrap_or v (codes "all"))) it.1.2 s.1.architecture) [
      | inl all ↦ absurd (it.0 all)
      | inr same ↦ same.0
    ]

same_home : (h k : Home) → ((a : Text) → h.name ≡ Some a → k.name ≡ Some a) → ((a : Text) → k.name ≡ Some a → h.name ≡ Some a) → (x y : Option Text) → h.name ≡ x → k.name ≡ y → h.name ≡ k.name
same_home h k f g None None d e = d ∙ sym e
same_home h k f g (Some a) y d e = d ∙ sym (f a d)
same_home h k f g None (Some b) d e = g b e ∙ sym e

pub indexes_are_one : IndexesAreOne
indexes_are_one text h k ss ts i j = (
  let named : Option Text → Home = λ n. record { name = n } in ap named (same_home h k (λ a. home_at text h k ss ts a i j) (λ a. home_at text k h ts ss a j i) h.name k.name refl refl),
  zip_both (Says h) (Says k) SaysTheSame (λ group s t. says_one h k group s t) (stanza_groups text) ss ts i.each j.each,
)
