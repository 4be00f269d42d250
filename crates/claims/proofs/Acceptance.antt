-- An index, as the relation has it, has no fault where its packages are no more than may be.
use Rattle.relation_fields.specs.Spelling.{SpellsAlternatives, SpellsAtom, SpellsProvide, Reads}
use Rattle.std.proofs.Common.{◌≡◌, ◌≢◌, ℕ, suc, ◌+◌, ◌<◌, ◌≤◌, Bool, true, false, not, cond, ◌&&◌, ◌||◌, List, [], ◌∷◌, ◌++◌, Option, Some, None, length, take}
use Rattle.std.proofs.{Common.{map, refl, sym, ap, ◌∙◌, subst, inl, inr, ◌⊎◌, arith, length-append, append_assoc}, Math.Seq.{take-append_seam}}
use Rattle.std.proofs.{lemmas.Bool.{and_parts, cases_Bool, false_from_ne_true}, lemmas.Bool.Decides.{nat_tests}}
use Rattle.std.proofs.{lemmas.List.{append-nil, length-map, map-append}, lemmas.List.Elements.{AllZip-get_or}, lemmas.List.Folds.{list_all-append}}
use Rattle.std.proofs.{lemmas.Slice.Eq.{bytes_eq-Decides}, lemmas.Slice.Zip.{AllZip-long}}
use Rattle.std.specs.Prelude.{slice_index_or, nat_le, nat_lt, codes, unwrap_or, is_some, ◌==◌}
use Rattle.std.specs.List.{AllZip, filter, list_all, list_any, position, position_or_len, slice_split}
use Rattle.std.specs.{Option.{is_none, option_map, option_and_then, option_or}, Ordering.{is_eq}, Str.{bytes_eq}}
use Rattle.deb_version.specs.{Grammar.{is_colon, is_version}, Names.{is_name}}
use Rattle.listed.specs.{Lists.{In, here, there}, Texts.{is_white_byte}}
use Rattle.listed.proofs.Lists.{In_append_left, In_append_right, In_cases, In_map, In_map_cases, In_none, In_place, filter_from, find_not, map_alike}
use Rattle.relation_fields.specs.Fields as whole
use Rattle.relation_fields.specs.{Fields.{first_outside, is_outside, written}, Grammar.{atom_of, alternatives_of, provide_of, is_architecture}}
use Rattle.relation_fields.specs.{Texts.{is_white}, declared.packages.Home.{Home}, declared.packages.PackageFacts.{PackageFacts}}
use Rattle.stanza_reader.specs.Fields.{continued, is_field_name, is_field_name_byte, is_same_name, lowered, name_of}
use Rattle.stanza_reader.specs.Lines.{Line, is_continuation, lines, numbered}
use Rattle.stanza_reader.specs.Stanzas as reader
use Rattle.stanza_reader.specs.Stanzas.{texts, first_line_fault, first_number, group_shape_fault, has_name, kept_fields, line_fault, readings, repeat_fault}
use Rattle.stanza_reader.specs.{Stanzas.{stanza_of, unless_fault}, declared.stanza.FieldKind.{FieldKind}}
use Rattle.stanza_reader.specs.declared.stanza.FieldKind.TheVariants.{Package, Version, Architecture, PreDepends, Depends, Conflicts, Breaks, Provides}
use Rattle.stanza_reader.specs.{declared.stanza.RawField.{RawField}, declared.stanza.RawStanza.{RawStanza}}
use Rattle.stanza_reader.specs.declared.fault.StanzaFault.TheVariants.{LoneContinuation, Repeated}
use Rattle.repo_model.specs.{Facts.{facts_of, is_all, is_same_package, architecture_of}, Fields.{field_of}}
use Rattle.repo_model.specs.FirstFault.{first_present, missing, unless_good, bad_value, unless_said, bad_relation, presence_fault, value_fault, own_fault}
use Rattle.repo_model.specs.FirstFault.{duplicate_fault, mixed_fault, is_at_home, home_of, stanza_fault, reading_fault, fault_behind, faults_from, first_fault}
use Rattle.repo_model.specs.{FirstFault.{stanzas_in}, Limits.{most_packages}, Stanzas.{stanza_at, no_stanza}, declared.fault.IndexFault.{IndexFault}}
use Rattle.repo_model.specs.declared.fault.IndexFault.TheVariants.{MissingPackage, MissingVersion, BadPackage, BadVersion, BadArchitecture, BadRelation}
use Rattle.repo_model.specs.declared.fault.IndexFault.TheVariants.{Duplicate, Mixed, TooMany}
use Rattle.repo_model.proofs.{Accepted.{AreSingle}, Refusing.{none_behind}}
use Rattle.coinst_words.specs.Usage.{Text}
use Rattle.claims.specs.{Control.{fields, name_key, field_value, AreDistinct, IsStanza}, Index.{relation_elements, FitsHome, Says, SaysTheSame}}
use Rattle.claims.specs.Laws.{IndexesAreAccepted}
use Rattle.stanza_reader.proofs.LineLemmas.{cut_later}
use Rattle.deb_version.specs.Order.{version_order}
use Rattle.claims.proofs.Control.{groups_are_theirs, group_is_read, name_whole, none_of, shaped}
use Rattle.claims.proofs.Index.{first_there, Local, ok, own_field, same_text, says, says_one, stanzas_ok, zip_both, zip_left}
use Rattle.claims.proofs.Values.{key, kept_value, value_is}
use Rattle.relation_fields.proofs.Readings.{alternatives_read, atoms_read, provides_read}
use Rattle.std.proofs.lemmas.Simd.{map-map}

none_any : {A : Type 0} (p : A → Bool) (xs : List A) → ((x : A) → In x xs → p x ≡ false) → list_any p xs ≡ false
none_any p [] f = refl
none_any p (x ∷ xs) f = ap (λ b. b || list_any p xs) (f x here) ∙ none_any p xs (λ y i. f y (there i))

or_last : (a b : Bool) → b ≡ true → (a || b) ≡ true
or_last true b e = refl
or_last false b e = e

not_at_most : (most n : ℕ) → n < most → nat_le most n ≡ false
not_at_most most n l = grind (arith, nat_tests)

-- a line without a colon, with the continuation lines behind it, is no field
name_past : (line more : Text) → list_any is_colon line ≡ false → name_of (line ++ more) ≡ line ++ name_of more
name_past [] more none = refl
name_past (b ∷ bs) more none = go (is_colon b) refl none (name_past bs more)
  where
    go : (t : Bool) → is_colon b ≡ t → (t || list_any is_colon bs) ≡ false → (list_any is_colon bs ≡ false → name_of (bs ++ more) ≡ bs ++ name_of more) → name_of ((b ∷ bs) ++ more) ≡ (b ∷ bs) ++ name_of more
    go true at h later = let wrong : true ≡ false = h in absurd (let never : ⊥ = cc in never)
    go false at h later = (cut_later is_colon b (bs ++ more) at).0 ∙ ap (λ t. b ∷ t) (later h)

feed_in_name : (line more : Text) → is_field_name (line ++ 10 ∷ more) ≡ true → ⊥
feed_in_name [] more e = let wrong : false ≡ true = e in let never : ⊥ = cc in never
feed_in_name (b ∷ bs) more e =
    let all = (and_parts (not (b == 35 || b == 45)) (list_all is_field_name_byte ((b ∷ bs) ++ 10 ∷ more)) e).1 in
    let both = and_parts (list_all is_field_name_byte (b ∷ bs)) (list_all is_field_name_byte (10 ∷ more)) (sym (list_all-append is_field_name_byte (b ∷ bs) (10 ∷ more)) ∙ all) in
    let last : false ≡ true = both.1 in
    let never : ⊥ = cc in never

behind_ends : (rest : List Text) → (continued rest ≡ []) ⊎ ((more : Text) × (continued rest ≡ 10 ∷ more))
behind_ends [] = inl refl
behind_ends (l ∷ rest) = go (is_continuation l) refl
  where
    go : (b : Bool) → is_continuation l ≡ b → (continued (l ∷ rest) ≡ []) ⊎ ((more : Text) × (continued (l ∷ rest) ≡ 10 ∷ more))
    go true e = inr (l ++ continued rest, rw e refl)
    go false e = inl (rw e refl)

colon_there : (line : Text) (rest : List Text) → (list_any is_colon (line ++ continued rest) && is_field_name (name_of (line ++ continued rest))) ≡ true → list_any is_colon line ≡ true
colon_there line rest good =
    elim (cases_Bool (list_any is_colon line)) [
      | inl colon ↦ colon
      | inr none ↦ elim (behind_ends rest) [
        | inl empty ↦
            let both = and_parts (list_any is_colon (line ++ continued rest)) (is_field_name (name_of (line ++ continued rest))) good in
            ap (list_any is_colon) (sym (append-nil line) ∙ ap (λ t. line ++ t) (sym empty)) ∙ both.0
        | inr more ↦
            let both = and_parts (list_any is_colon (line ++ continued rest)) (is_field_name (name_of (line ++ continued rest))) good in
            let name : name_of (line ++ continued rest) ≡ line ++ 10 ∷ name_of more.0
            = ap (λ t. name_of (line ++ t)) more.1 ∙ name_past line (10 ∷ more.0) none ∙ ap (λ t. line ++ t) (cut_later is_colon 10 more.0 refl).0 in
            absurd (feed_in_name line (name_of more.0) (ap is_field_name (sym name) ∙ both.1))
      ]
    ]

shape_none : (group : List Line) → ((field : Text) → In field (fields (texts group)) → (list_any is_colon field && is_field_name (name_of field)) ≡ true) → first_line_fault group ≡ None
shape_none [] named = refl
shape_none (line ∷ more) named = go (is_continuation line.text) refl (shape_none more)
  where
    go : (b : Bool) → is_continuation line.text ≡ b → (((field : Text) → In field (fields (texts more)) → (list_any is_colon field && is_field_name (name_of field)) ≡ true) → first_line_fault more ≡ None) → first_line_fault (line ∷ more) ≡ None
    go true e later =
        let same : fields (texts (line ∷ more)) ≡ fields (texts more) = rw e refl in
        let first : line_fault line ≡ None = rw e refl in
        ap (λ f. option_or f (first_line_fault more)) first ∙ later (λ field i. named field (subst (In field) (sym same) i))
    go false e later =
        let all : fields (texts (line ∷ more)) ≡ (line.text ++ continued (texts more)) ∷ fields (texts more) = rw e refl in
        let good = named (line.text ++ continued (texts more)) (subst (In (line.text ++ continued (texts more))) (sym all) here) in
        let colon : list_any is_colon line.text ≡ true = colon_there line.text (texts more) good in
        let name : is_field_name (name_of line.text) ≡ true
        = ap is_field_name (sym (name_whole line.text (continued (texts more)) colon)) ∙ (and_parts (list_any is_colon (line.text ++ continued (texts more))) (is_field_name (name_of (line.text ++ continued (texts more)))) good).1 in
        let first : line_fault line ≡ None = rw (e, colon, name) refl in
        ap (λ f. option_or f (first_line_fault more)) first ∙ later (λ field i. named field (subst (In field) (sym all) (there i)))

repeat_none : (before : List Text) (group : List Line) → first_line_fault group ≡ None → AreDistinct (map name_key (fields (texts group)))
    → ((k : Text) → In k (map name_key (fields (texts group))) → (name : Text) → In name before → lowered name ≢ k) → repeat_fault before group ≡ None
repeat_none before [] shape once new = refl
repeat_none before (line ∷ more) shape once new = go (is_continuation line.text) refl (λ names. repeat_none names more)
  where
    both : (line_fault line ≡ None) × (first_line_fault more ≡ None)
    both = none_of (line_fault line) (first_line_fault more) shape

    go : (b : Bool) → is_continuation line.text ≡ b
        → ((names : List Text) → first_line_fault more ≡ None → AreDistinct (map name_key (fields (texts more))) → ((k : Text) → In k (map name_key (fields (texts more))) → (name : Text) → In name names → lowered name ≢ k) → repeat_fault names more ≡ None)
        → repeat_fault before (line ∷ more) ≡ None
    go true e later =
        let same : map name_key (fields (texts (line ∷ more))) ≡ map name_key (fields (texts more)) = rw e refl in
        let left : repeat_fault before (line ∷ more) ≡ repeat_fault before more = rw e refl in
        left ∙ later before both.1 (subst AreDistinct same once) (λ k i. new k (subst (In k) (sym same) i))
    go false e later =
        let whole = line.text ++ continued (texts more) in
        let keys : map name_key (fields (texts (line ∷ more))) ≡ name_key whole ∷ map name_key (fields (texts more)) = rw e refl in
        let key : name_key whole ≡ lowered (name_of line.text) = ap lowered (name_whole line.text (continued (texts more)) (shaped line both.0 e).colon) in
        let distinct : AreDistinct (name_key whole ∷ map name_key (fields (texts more))) = subst AreDistinct keys once in
        let fresh : has_name before (name_of line.text) ≡ false
        = none_any (λ o. is_same_name o (name_of line.text)) before (λ o i. false_from_ne_true (is_same_name o (name_of line.text)) (λ yes.
        new (name_key whole) (subst (In (name_key whole)) (sym keys) here) o i ((bytes_eq-Decides (lowered o) (lowered (name_of line.text))).0 yes ∙ sym key))) in
        let left : repeat_fault before (line ∷ more) ≡ cond (has_name before (name_of line.text)) (Some (Repeated line.number)) (repeat_fault (name_of line.text ∷ before) more) = rw e refl in
        left ∙ ap (λ b. cond b (Some (Repeated line.number)) (repeat_fault (name_of line.text ∷ before) more)) fresh
        ∙ later (name_of line.text ∷ before) both.1 distinct.1 (λ k i name j. elim (In_cases j) [
          | inl same ↦ λ equal. distinct.0 k i (key ∙ ap lowered (sym same) ∙ equal)
          | inr l ↦ new k (subst (In k) (sym keys) (there i)) name l
        ])

-- the stanza of a group
abbrev raw : List Line → RawStanza
raw group = record { line = first_number group; fields = kept_fields group }

starts_well : (group : List Line) → is_continuation (slice_index_or (texts group) 0 []) ≡ false → first_line_fault group ≡ None → group_shape_fault group ≡ None
starts_well [] first shape = refl
starts_well (line ∷ more) first shape = ap (λ b. cond b (Some (LoneContinuation line.number)) (first_line_fault (line ∷ more))) first ∙ shape

stanza_ok : (group : List Line) → IsStanza (texts group) → stanza_of group ≡ ok (raw group)
unfolding stanza_of
stanza_ok group s =
    let shape = shape_none group s.named in
    let again = repeat_none [] group shape s.once (λ k i name j. absurd (In_none j)) in
    ap (λ f. unless_fault f (raw group)) (ap (λ f. option_or f (repeat_fault [] group)) (starts_well group s.first shape) ∙ again)

-- nothing passes
past_all : {A : Type 0} (p : A → Bool) (xs : List A) → ((x : A) → In x xs → p x ≡ false) → position_or_len p xs ≡ length xs
past_all p [] f = refl
past_all p (x ∷ xs) f =
    let first : position_or_len p (x ∷ xs) ≡ 1 + position_or_len p xs = ap (λ b. cond (not b) (1 + position_or_len p xs) 0) (f x here) in
    let more : position_or_len p xs ≡ length xs = past_all p xs (λ y i. f y (there i)) in
    let size : 1 + length xs ≡ length (x ∷ xs) = omega arith in
    first ∙ ap (λ n. 1 + n) more ∙ size

nowhere : {A : Type 0} (p : A → Bool) (xs : List A) → ((x : A) → In x xs → p x ≡ false) → position p xs ≡ None
nowhere p xs f =
    let none : nat_lt (length xs) (length xs) ≡ false = grind (arith, nat_tests) in
    ap (λ n. cond (nat_lt n (length xs)) (Some n) None) (past_all p xs f) ∙ ap (λ b. cond b (Some (length xs)) None) none

outside_none : {X : Type 0} (one : Text → Option X) (Spells : Text → X → Type 0) → Reads one Spells → (value : Text) → ((t : Text) → In t (written value) → (x : X) × Spells t x) → first_outside one value ≡ None
unfolding first_outside
outside_none one Spells reads value f = ap (option_map (λ place. place + 1)) (nowhere (is_outside one) (whole.elements value) (λ t i. inside t i (is_white t) refl))
  where
    inside : (t : Text) → In t (whole.elements value) → (b : Bool) → is_white t ≡ b → is_outside one t ≡ false
    inside t i true e = ap (λ b. not b && is_none (one t)) e
    inside t i false e =
        let x = f t (filter_from (λ u. not (is_white u)) (whole.elements value) t i (ap not e)) in
        ap (λ b. not b && is_none (one t)) e ∙ ap is_none ((reads t x.0).1 x.1)

relation_none : {X : Type 0} (one : Text → Option X) (Spells : Text → X → Type 0) → Reads one Spells → (kind : FieldKind) (group : List Text) (s : RawStanza) → kept_value kind s.fields ≡ field_value (key kind) group
    → ((t : Text) → In t (relation_elements (key kind) group) → (x : X) × Spells t x) → bad_relation kind one s ≡ None
relation_none one Spells reads kind group s e f = go (field_of kind s) refl
  where
    go : (found : Option RawField) → field_of kind s ≡ found → option_and_then (unless_said one) (field_of kind s) ≡ None
    go None at = ap (option_and_then (unless_said one)) at
    go (Some field) at =
        let value : field_value (key kind) group ≡ Some field.value = sym e ∙ ap (option_map (λ f. f.value)) at in
        let same : relation_elements (key kind) group ≡ written field.value = ap (λ v. filter (λ element. not (list_all is_white_byte element)) (slice_split (λ b. b == 44) (unwrap_or v []))) value in
        ap (option_and_then (unless_said one)) at ∙ ap (option_map (BadRelation field.line)) (outside_none one Spells reads field.value (λ t i. f t (subst (In t) (sym same) i)))

there_is : (kind : FieldKind) (fault : IndexFault) (s : RawStanza) (v : Text) → kept_value kind s.fields ≡ Some v → missing kind fault s ≡ None
there_is kind fault s v = go (field_of kind s)
  where
    go : (found : Option RawField) → option_map (λ f. f.value) found ≡ Some v → cond (is_some found) None (Some fault) ≡ None
    go None e = cc
    go (Some field) e = refl

good_value : (kind : FieldKind) (is_good : Text → Bool) (bad : ℕ → IndexFault) (s : RawStanza) → ((v : Text) → kept_value kind s.fields ≡ Some v → is_good v ≡ true) → bad_value kind is_good bad s ≡ None
good_value kind is_good bad s = go (field_of kind s)
  where
    go : (found : Option RawField) → ((v : Text) → option_map (λ f. f.value) found ≡ Some v → is_good v ≡ true) → option_and_then (unless_good is_good bad) found ≡ None
    go None f = refl
    go (Some field) f = ap (λ b. cond b None (Some (bad field.line))) (f field.value refl)

-- what is said of a group, of its stanza
module _ (home : Home) (group : List Line) (facts : PackageFacts) (s : Says home (texts group) facts) where
  shaped_well : first_line_fault group ≡ None
  shaped_well = shape_none group s.stanza.named

  value : (kind : FieldKind) → kept_value kind (kept_fields group) ≡ field_value (key kind) (texts group)
  value kind = value_is kind group shaped_well

  fits_home : (v : Text) → kept_value Architecture (kept_fields group) ≡ Some v → FitsHome home v
  fits_home v e = subst (λ w. FitsHome home (unwrap_or w (codes "all"))) (sym (value Architecture) ∙ e) s.architecture

  pub is_local : Local home.name (raw group)
  is_local field at = elim (fits_home field.value (ap (option_map (λ f. f.value)) at)) [
    | inl all ↦ inl ((bytes_eq-Decides field.value (codes "all")).1 all)
    | inr same ↦ inr same.0
  ]

  architecture_good : (v : Text) → kept_value Architecture (kept_fields group) ≡ Some v → is_architecture v ≡ true
  architecture_good v e = elim (fits_home v e) [
    | inl all ↦ ap is_architecture all
    | inr same ↦ same.1
  ]

  same_value : (test : Text → Bool) (v : Text) (kind : FieldKind) → field_value (key kind) (texts group) ≡ Some v → test v ≡ true → (w : Text) → kept_value kind (kept_fields group) ≡ Some w → test w ≡ true
  same_value test v kind at good w e = let same : v ≡ w = same_text v w (sym at ∙ sym (value kind) ∙ e) in subst (λ t. test t ≡ true) same good

  in_zip : {X : Type 0} (Spells : Text → X → Type 0) (ts : List Text) (xs : List X) → AllZip Spells ts xs → (t : Text) → In t ts → (x : X) × Spells t x
  in_zip Spells ts xs z t i = zip_left Spells ts xs t z i

  pub own_none : own_fault (raw group) ≡ None
  unfolding presence_fault value_fault
  own_none =
      let r = raw group in
      let needs = in_zip SpellsAlternatives (relation_elements (key PreDepends) (texts group) ++ relation_elements (key Depends) (texts group)) facts.needs s.needs in
      let against = in_zip SpellsAtom (relation_elements (key Conflicts) (texts group) ++ relation_elements (key Breaks) (texts group)) facts.against s.against in
      none_behind (presence_fault r) (value_fault r)
      (none_behind (missing Package (MissingPackage r.line) r) _ (there_is Package (MissingPackage r.line) r facts.name (value Package ∙ s.name.0))
      (none_behind (missing Version (MissingVersion r.line) r) _ (there_is Version (MissingVersion r.line) r facts.version (value Version ∙ s.version.0)) refl))
      (none_behind (bad_value Package is_name BadPackage r) _ (good_value Package is_name BadPackage r (same_value is_name facts.name Package s.name.0 s.name.1))
      (none_behind (bad_value Version is_version BadVersion r) _ (good_value Version is_version BadVersion r (same_value is_version facts.version Version s.version.0 s.version.1))
      (none_behind (bad_value Architecture is_architecture BadArchitecture r) _ (good_value Architecture is_architecture BadArchitecture r architecture_good)
      (none_behind (bad_relation PreDepends alternatives_of r) _ (relation_none alternatives_of SpellsAlternatives alternatives_read PreDepends (texts group) r (value PreDepends) (λ t i. needs t (In_append_left (relation_elements (key PreDepends) (texts group)) (relation_elements (key Depends) (texts group)) t i)))
      (none_behind (bad_relation Depends alternatives_of r) _ (relation_none alternatives_of SpellsAlternatives alternatives_read Depends (texts group) r (value Depends) (λ t i. needs t (In_append_right (relation_elements (key PreDepends) (texts group)) (relation_elements (key Depends) (texts group)) t i)))
      (none_behind (bad_relation Conflicts atom_of r) _ (relation_none atom_of SpellsAtom atoms_read Conflicts (texts group) r (value Conflicts) (λ t i. against t (In_append_left (relation_elements (key Conflicts) (texts group)) (relation_elements (key Breaks) (texts group)) t i)))
      (none_behind (bad_relation Breaks atom_of r) _ (relation_none atom_of SpellsAtom atoms_read Breaks (texts group) r (value Breaks) (λ t i. against t (In_append_right (relation_elements (key Conflicts) (texts group)) (relation_elements (key Breaks) (texts group)) t i)))
      (none_behind (bad_relation Provides provide_of r) _ (relation_none provide_of SpellsProvide provides_read Provides (texts group) r (value Provides) (in_zip SpellsProvide (relation_elements (key Provides) (texts group)) facts.provides s.provides)) refl))))))))

  pub says_own : Says home (texts group) (facts_of (raw group))
  says_own = says home group (raw group) (group_is_read group (raw group) (stanza_ok group s.stanza)) own_none is_local

single_before : (xs : List PackageFacts) (x : PackageFacts) (more : List PackageFacts) → AreSingle (xs ++ x ∷ more) → (t : PackageFacts) → In t xs → is_same_package x t ≡ false
single_before [] x more a t i = absurd (In_none i)
single_before (y ∷ ys) x more a t i = elim (In_cases i) [
  | inl same ↦ subst (λ u. is_same_package x u ≡ false) (sym same) (a.0 x (In_append_right ys (x ∷ more) x here))
  | inr j ↦ single_before ys x more a.1 t j
]

pub single_list : (xs : List PackageFacts) → ((m n : ℕ) → m < n → n < length xs → is_same_package (stanza_at xs n) (stanza_at xs m) ≡ false) → AreSingle xs
single_list [] f = tt
single_list (x ∷ xs) f = (
  (λ t i. let at = In_place xs t no_stanza i in subst (λ u. is_same_package u x ≡ false) at.2 (f 0 (suc at.0) (omega arith) (omega (arith, at.1)))),
  single_list xs (λ m n less l. f (suc m) (suc n) (omega arith) (omega arith)),
)

-- no other architecture than that of the home
mixed_none : (home : Option Text) (before : List RawStanza) (s : RawStanza) → ((t : RawStanza) → In t before → Local home t) → Local home s → mixed_fault (home_of before) s ≡ None
unfolding mixed_fault home_of
mixed_none home before s earlier own = go (field_of Architecture s) refl
  where
    known : (field : RawField) → home ≡ Some field.value → (it : Option Text) → first_present (map architecture_of before) ≡ it → is_at_home it field.value ≡ true
    known field same None e = refl
    known field same (Some h) e =
        let first = first_there before h e in
        let f = own_field first.0 h first.2 in
        elim (earlier first.0 first.1 f.0 f.1) [
          | inl all ↦ absurd (let never : ⊥ = cc (sym f.2 ∙ all) in never)
          | inr at ↦ (bytes_eq-Decides field.value h).1 (same_text field.value h (sym same ∙ at ∙ ap Some f.3))
        ]

    kept : (field : RawField) → field_of Architecture s ≡ Some field → (is_all field.value || is_at_home (first_present (map architecture_of before)) field.value) ≡ true
    kept field at = elim (own field at) [
      | inl all ↦ ap (λ b. b || is_at_home (first_present (map architecture_of before)) field.value) all
      | inr same ↦ or_last (is_all field.value) (is_at_home (first_present (map architecture_of before)) field.value) (known field same (first_present (map architecture_of before)) refl)
    ]

    go : (found : Option RawField) → field_of Architecture s ≡ found → option_and_then (λ (field : RawField). cond (is_all field.value || is_at_home (first_present (map architecture_of before)) field.value) None (Some (Mixed field.line))) (field_of Architecture s) ≡ None
    go None at = ap (option_and_then (λ (field : RawField). cond (is_all field.value || is_at_home (first_present (map architecture_of before)) field.value) None (Some (Mixed field.line)))) at
    go (Some field) at =
        ap (option_and_then (λ (f : RawField). cond (is_all f.value || is_at_home (first_present (map architecture_of before)) f.value) None (Some (Mixed f.line)))) at
        ∙ ap (λ b. cond b None (Some (Mixed field.line))) (kept field at)

module _ (home : Option Text) (ss : List RawStanza) (few : length ss ≤ most_packages) (own : (s : RawStanza) → In s ss → own_fault s ≡ None) (local : (s : RawStanza) → In s ss → Local home s) (single : AreSingle (map facts_of ss)) where
  stanza_none : (before : List RawStanza) (s : RawStanza) (more : List RawStanza) → ss ≡ before ++ s ∷ more → stanza_fault (map facts_of before) (home_of before) s ≡ None
  unfolding duplicate_fault
  stanza_none before s more is =
      let all : AreSingle (map facts_of before ++ facts_of s ∷ map facts_of more) = subst AreSingle (ap (map facts_of) is ∙ map-append facts_of before (s ∷ more)) single in
      let in_ss : (t : RawStanza) → In t before → In t ss = λ t i. subst (In t) (sym is) (In_append_left before (s ∷ more) t i) in
      let self : In s ss = subst (In s) (sym is) (In_append_right before (s ∷ more) s here) in
      none_behind (own_fault s) _ (own s self)
      (none_behind (duplicate_fault (map facts_of before) s) _
      (ap (option_map (λ (first : PackageFacts). Duplicate first.line s.line)) (find_not (is_same_package (facts_of s)) (map facts_of before) (single_before (map facts_of before) (facts_of s) (map facts_of more) all)))
      (none_behind (mixed_fault (home_of before) s) _ (mixed_none home before s (λ t i. local t (in_ss t i)) (local s self)) refl))

  walk_on : (before more : List RawStanza) → ss ≡ before ++ more → first_present (faults_from (map ok ss) (length before) (map ok more)) ≡ None
  walk_on before [] is = refl
  walk_on before (s ∷ more) is =
      let front : take (length before) (map ok ss) ≡ map ok before
      = ap (λ xs. take (length before) (map ok xs)) is ∙ ap (take (length before)) (map-append ok before (s ∷ more)) ∙ ap (λ n. take n (map ok before ++ map ok (s ∷ more))) (let long : length before ≡ length (map ok before) = simp length-map in long) ∙ take-append_seam (map ok before) (map ok (s ∷ more)) in
      let size : length (map ok before) ≡ length before = simp length-map in
      let whole_size : length ss ≡ length before + length (s ∷ more) = ap length is ∙ length-append before (s ∷ more) in
      let room : nat_le most_packages (length (map ok before)) ≡ false = not_at_most most_packages (length (map ok before)) (omega (arith, size, whole_size, few)) in
      let own_none : reading_fault (stanzas_in (map ok before)) (ok s) ≡ None = subst (λ xs. stanza_fault (map facts_of xs) (home_of xs) s ≡ None) (sym (stanzas_ok before)) (stanza_none before s more is) in
      let first : fault_behind (map ok before) (ok s) ≡ None = ap (λ b. cond b (Some TooMany) (reading_fault (stanzas_in (map ok before)) (ok s))) room ∙ own_none in
      let next : ss ≡ (before ++ s ∷ []) ++ more = is ∙ sym (append_assoc before (s ∷ []) more) in
      none_behind (fault_behind (take (length before) (map ok ss)) (ok s)) (first_present (faults_from (map ok ss) (length before + 1) (map ok more)))
      (subst (λ xs. fault_behind xs (ok s) ≡ None) (sym front) first)
      (subst (λ n. first_present (faults_from (map ok ss) n (map ok more)) ≡ None) (length-append before (s ∷ [])) (walk_on (before ++ s ∷ []) more next))

each_says : (home : Home) (gs : List (List Line)) → ((g : List Line) → In g gs → Says home (texts g) (facts_of (raw g))) → AllZip (Says home) (map texts gs) (map facts_of (map raw gs))
each_says home [] f = tt
each_says home (g ∷ gs) f = (f g here, each_says home gs (λ h i. f h (there i)))

pub indexes_are_accepted : IndexesAreAccepted
unfolding first_fault readings
indexes_are_accepted text home stanzas i few =
    let gs : List (List Line) = reader.groups (numbered 1 (lines text)) in
    let each : AllZip (Says home) (map texts gs) stanzas = subst (λ all. AllZip (Says home) all stanzas) (sym (groups_are_theirs text)) i.each in
    let said : (g : List Line) → In g gs → (facts : PackageFacts) × Says home (texts g) facts = λ g j. zip_left (Says home) (map texts gs) stanzas (texts g) each (In_map texts gs g j) in
    let ss : List RawStanza = map raw gs in
    let read : readings text ≡ map ok ss = map_alike stanza_of (λ g. ok (raw g)) gs (λ g j. stanza_ok g (said g j).1.stanza) ∙ sym (map-map ok raw gs) in
    let zip : AllZip SaysTheSame (map facts_of ss) stanzas
    = zip_both (Says home) (Says home) SaysTheSame (λ g s t. says_one home home g s t) (map texts gs) (map facts_of ss) stanzas (each_says home gs (λ g j. says_own home g (said g j).0 (said g j).1)) each in
    let long : length stanzas ≡ length (map facts_of ss) = AllZip-long SaysTheSame (map facts_of ss) stanzas zip in
    let size : length (map facts_of ss) ≡ length ss = simp length-map in
    let own : (s : RawStanza) → In s ss → own_fault s ≡ None
    = λ s j. let g = In_map_cases raw gs s j in subst (λ t. own_fault t ≡ None) (sym g.2) (own_none home g.0 (said g.0 g.1).0 (said g.0 g.1).1) in
    let local : (s : RawStanza) → In s ss → Local home.name s
    = λ s j. let g = In_map_cases raw gs s j in subst (Local home.name) (sym g.2) (is_local home g.0 (said g.0 g.1).0 (said g.0 g.1).1) in
    let single : AreSingle (map facts_of ss)
    = single_list (map facts_of ss) (λ m n less l.
    let a : SaysTheSame (stanza_at (map facts_of ss) n) (stanza_at stanzas n) = AllZip-get_or SaysTheSame (map facts_of ss) stanzas n no_stanza no_stanza zip l in
    let b : SaysTheSame (stanza_at (map facts_of ss) m) (stanza_at stanzas m) = AllZip-get_or SaysTheSame (map facts_of ss) stanzas m no_stanza no_stanza zip (omega arith) in
    let names : bytes_eq (stanza_at (map facts_of ss) n).name (stanza_at (map facts_of ss) m).name ≡ bytes_eq (stanza_at stanzas n).name (stanza_at stanzas m).name
    = ap (λ t. bytes_eq t (stanza_at (map facts_of ss) m).name) a.0 ∙ ap (bytes_eq (stanza_at stanzas n).name) b.0 in
    let orders : version_order (stanza_at (map facts_of ss) n).version (stanza_at (map facts_of ss) m).version ≡ version_order (stanza_at stanzas n).version (stanza_at stanzas m).version
    = ap (λ t. version_order t (stanza_at (map facts_of ss) m).version) a.1 ∙ ap (version_order (stanza_at stanzas n).version) b.1 in
    ap (λ t. t && is_eq (version_order (stanza_at (map facts_of ss) n).version (stanza_at (map facts_of ss) m).version)) names
    ∙ ap (λ o. bytes_eq (stanza_at stanzas n).name (stanza_at stanzas m).name && is_eq o) orders
    ∙ i.single m n less (omega (arith, long, l))) in
    ap (λ all. first_present (faults_from all 0 all)) read ∙ walk_on home.name ss (omega (arith, long, size, few)) own local single [] ss refl
