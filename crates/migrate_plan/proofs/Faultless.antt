-- Stanzas that are those of an index without a fault: they are few, none has a fault of its own, no two are of the same
-- package, and those that have an architecture have the same.
use Rattle.std.proofs.Common.{◌≡◌, ℕ, ◌+◌, ◌≤◌, Bool, true, false, List, [], ◌∷◌, ◌++◌, length, take, map, Option, Some, None, Result, Ok, Err, refl, sym, ap}
use Rattle.std.proofs.{Common.{◌∙◌, subst, ◌⊎◌, inl, inr, arith, length-append, append_assoc}, Math.Seq.{take-append_seam}}
use Rattle.std.proofs.{lemmas.List.{append-nil, length-map, map-append}, lemmas.Bool.Decides.{nat_tests}, lemmas.Slice.Eq.{bytes_eq-Decides}}
use Rattle.std.specs.{Prelude.{nat_le, find, ◌||◌, if◌then◌else◌}, Option.{option_and_then, option_map, option_or}, Str.{bytes_eq}}
use Rattle.stanza_reader.specs.{Stanzas.{readings}, declared.stanza.FieldKind.TheVariants.{Architecture}, declared.stanza.RawField.{RawField}}
use Rattle.stanza_reader.specs.{declared.stanza.RawStanza.{RawStanza}, declared.fault.StanzaFault.{StanzaFault}}
use Rattle.relation_fields.specs.declared.packages.PackageFacts.{PackageFacts}
use Rattle.listed.specs.Lists.{In, here, there}
use Rattle.listed.proofs.Lists.{In_append_cases, In_append_left, In_cases, In_map, In_map_cases, In_none, find_none, find_not}
use Rattle.repo_model.specs.{Facts.{architecture_of, facts_of, is_all, is_same_package}, Fields.{field_of}}
use Rattle.repo_model.specs.FirstFault.{duplicate_fault, fault_behind, faults_from, first_fault, first_present, home_of, is_at_home, mixed_fault, own_fault}
use Rattle.repo_model.specs.{FirstFault.{reading_fault, stanza_fault, stanzas_in, stanzas_of}, declared.fault.IndexFault.{IndexFault}}
use Rattle.repo_model.specs.{declared.fault.IndexFault.TheVariants.{Duplicate, Mixed, TooMany}, Limits.{most_packages}}
use Rattle.repo_model.proofs.{Refusing.{none_behind}, WellFormed.{none_of}, Steps.{home_of-push, stanzas_in-ok}}
use Rattle.migrate_plan.proofs.Shifted.{ok_of}

-- a stanza has no fault behind these
pub record Fits (before : List RawStanza) (stanza : RawStanza) : Type 0 where
  pub room : length before + 1 ≤ most_packages
  pub fine : stanza_fault (map facts_of before) (home_of before) stanza ≡ None

-- each of some stanzas behind these and those before it
abbrev pub AllFit : List RawStanza → List RawStanza → Type 0
AllFit before [] = Unit {0}
AllFit before (stanza ∷ more) = Fits before stanza × AllFit (before ++ stanza ∷ []) more

early : (n : ℕ) (x : Option IndexFault) → (if nat_le most_packages n then Some TooMany else x) ≡ None → (n + 1 ≤ most_packages) × (x ≡ None)
early n x e = go (nat_le most_packages n) refl e
  where
    go : (b : Bool) → nat_le most_packages n ≡ b → (if b then Some TooMany else x) ≡ None → (n + 1 ≤ most_packages) × (x ≡ None)
    go true is h = absurd (let never : ⊥ = cc in never)
    go false is h = (grind (arith, nat_tests, is), h)

not_early : (n : ℕ) → n + 1 ≤ most_packages → nat_le most_packages n ≡ false
not_early n h = grind (arith, nat_tests)

-- what stands behind a front of stanzas, where nothing has a fault, are stanzas that fit
record Walked (before : List RawStanza) (more : List (Result RawStanza StanzaFault)) : Type 0 where
  stanzas : List RawStanza
  are : more ≡ map ok_of stanzas
  fit : AllFit before stanzas

walk_step : (before : List RawStanza) (reading : Result RawStanza StanzaFault) (more : List (Result RawStanza StanzaFault)) → length before + 1 ≤ most_packages → reading_fault before reading ≡ None
    → ((stanza : RawStanza) → reading ≡ ok_of stanza → Walked (before ++ stanza ∷ []) more) → Walked before (reading ∷ more)
walk_step before (Err fault) more room fine later = absurd (let never : ⊥ = cc in never)
walk_step before (Ok stanza) more room fine later =
    let next = later stanza refl in
    record { stanzas = stanza ∷ next.stanzas; are = ap (λ others. ok_of stanza ∷ others) next.are; fit = (record { room = room; fine = fine }, next.fit) }

walk : (all : List (Result RawStanza StanzaFault)) (before : List RawStanza) (more : List (Result RawStanza StanzaFault)) → all ≡ map ok_of before ++ more
    → first_present (faults_from all (length before) more) ≡ None → Walked before more
walk all before [] whole none = record { stanzas = []; are = refl; fit = tt }
walk all before (reading ∷ more) whole none =
    let both = none_of (fault_behind (take (length before) all) reading) (first_present (faults_from all (length before + 1) more)) none in
    let front : take (length before) all ≡ map ok_of before =
    ap (take (length before)) whole ∙ ap (λ n. take n (map ok_of before ++ reading ∷ more)) (sym (length-map before ok_of)) ∙ take-append_seam (map ok_of before) (reading ∷ more) in
    let own : fault_behind (map ok_of before) reading ≡ None = subst (λ xs. fault_behind xs reading ≡ None) front both.0 in
    let now = early (length (map ok_of before)) (reading_fault (stanzas_in (map ok_of before)) reading) own in
    let fine : reading_fault before reading ≡ None = subst (λ xs. reading_fault xs reading ≡ None) (stanzas_in-ok before) now.1 in
    let room : length before + 1 ≤ most_packages = subst (λ n. n + 1 ≤ most_packages) (length-map before ok_of) now.0 in
    walk_step before reading more room fine (λ stanza is.
    let longer : length (before ++ stanza ∷ []) ≡ length before + 1 = length-append before (stanza ∷ []) in
    walk all (before ++ stanza ∷ []) more
    (whole ∙ ap (λ r. map ok_of before ++ r ∷ more) is ∙ sym (append_assoc (map ok_of before) (ok_of stanza ∷ []) more) ∙ ap (λ front. front ++ more) (sym (map-append ok_of before (stanza ∷ []))))
    (subst (λ n. first_present (faults_from all n more) ≡ None) (sym longer) both.1))

-- an index without a fault reads as its stanzas, and they fit
pub record ReadsFine (text : List ℕ) : Type 0 where
  pub are : readings text ≡ map ok_of (stanzas_of text)
  pub fit : AllFit [] (stanzas_of text)

pub reads_fine : (text : List ℕ) → first_fault text ≡ None → ReadsFine text
unfolding first_fault stanzas_of
reads_fine text none =
    let w = walk (readings text) [] (readings text) refl none in
    let same : stanzas_in (readings text) ≡ w.stanzas = ap stanzas_in w.are ∙ stanzas_in-ok w.stanzas in
    record { are = w.are ∙ ap (map ok_of) (sym same); fit = subst (AllFit []) (sym same) w.fit }

-- stanzas that fit have no fault among all of them
no_faults : (before stanzas : List RawStanza) → AllFit before stanzas → first_present (faults_from (map ok_of (before ++ stanzas)) (length before) (map ok_of stanzas)) ≡ None
no_faults before [] fit = refl
no_faults before (stanza ∷ more) fit =
    let all : List (Result RawStanza StanzaFault) = map ok_of (before ++ stanza ∷ more) in
    let front : take (length before) all ≡ map ok_of before =
    ap (take (length before)) (map-append ok_of before (stanza ∷ more)) ∙ ap (λ n. take n (map ok_of before ++ map ok_of (stanza ∷ more))) (sym (length-map before ok_of)) ∙ take-append_seam (map ok_of before) (map ok_of (stanza ∷ more)) in
    let first : fault_behind (take (length before) all) (Ok stanza) ≡ None =
    ap (λ xs. fault_behind xs (Ok stanza)) front
    ∙ ap (λ n. if nat_le most_packages n then Some TooMany else reading_fault (stanzas_in (map ok_of before)) (Ok stanza)) (length-map before ok_of)
    ∙ ap (λ b. if b then Some TooMany else reading_fault (stanzas_in (map ok_of before)) (Ok stanza)) (not_early (length before) fit.0.room)
    ∙ ap (λ xs. reading_fault xs (Ok stanza)) (stanzas_in-ok before) ∙ fit.0.fine in
    let longer : length (before ++ stanza ∷ []) ≡ length before + 1 = length-append before (stanza ∷ []) in
    let rest : first_present (faults_from (map ok_of ((before ++ stanza ∷ []) ++ more)) (length (before ++ stanza ∷ [])) (map ok_of more)) ≡ None = no_faults (before ++ stanza ∷ []) more fit.1 in
    let same : first_present (faults_from all (length before + 1) (map ok_of more)) ≡ None =
    ap (λ xs. first_present (faults_from (map ok_of xs) (length before + 1) (map ok_of more))) (sym (append_assoc before (stanza ∷ []) more))
    ∙ ap (λ n. first_present (faults_from (map ok_of ((before ++ stanza ∷ []) ++ more)) n (map ok_of more))) (sym longer) ∙ rest in
    none_behind (fault_behind (take (length before) all) (Ok stanza)) (first_present (faults_from all (length before + 1) (map ok_of more))) first same

-- a text that reads as stanzas that fit is an index without a fault
pub faultless : (text : List ℕ) (stanzas : List RawStanza) → readings text ≡ map ok_of stanzas → AllFit [] stanzas → first_fault text ≡ None
unfolding first_fault
faultless text stanzas are fit = ap (λ all. first_present (faults_from all 0 all)) are ∙ no_faults [] stanzas fit

-- a later stanza is not of the package of an earlier one
abbrev pub AreOthers : RawStanza → RawStanza → Type 0
AreOthers earlier later = is_same_package (facts_of later) (facts_of earlier) ≡ false

-- no two stanzas are of the same package
abbrev pub Apart : List RawStanza → Type 0
Apart [] = Unit {0}
Apart (stanza ∷ more) = ((later : RawStanza) → In later more → AreOthers stanza later) × Apart more

-- a stanza has no architecture, or this one
abbrev pub IsAt : Option (List ℕ) → RawStanza → Type 0
IsAt home stanza = (architecture_of stanza ≡ None) ⊎ (architecture_of stanza ≡ home)

pub record Sound (home : Option (List ℕ)) (stanzas : List RawStanza) : Type 0 where
  pub own : (stanza : RawStanza) → In stanza stanzas → own_fault stanza ≡ None
  pub apart : Apart stanzas
  pub at : (stanza : RawStanza) → In stanza stanzas → IsAt home stanza

apart_push : (xs : List RawStanza) (x : RawStanza) → Apart xs → ((t : RawStanza) → In t xs → AreOthers t x) → Apart (xs ++ x ∷ [])
apart_push [] x s f = ((λ t i. absurd (In_none i)), tt)
apart_push (y ∷ ys) x s f = (
  (λ t i. elim (In_append_cases ys (x ∷ []) t i) [
    | inl j ↦ s.0 t j
    | inr j ↦ elim (In_cases j) [ inl is ↦ subst (λ u. AreOthers y u) (sym is) (f y here) | inr k ↦ absurd (In_none k) ]
  ]),
  apart_push ys x s.1 (λ t i. f t (there i)),
)

no_duplicate : (before : List RawStanza) (stanza : RawStanza) → duplicate_fault (map facts_of before) stanza ≡ None → (t : RawStanza) → In t before → AreOthers t stanza
unfolding duplicate_fault
no_duplicate before stanza e t i =
    find_none (is_same_package (facts_of stanza)) (map facts_of before) (none (find (is_same_package (facts_of stanza)) (map facts_of before)) e) (facts_of t) (In_map facts_of before t i)
  where
    none : (found : Option PackageFacts) → option_map (λ first. Duplicate first.line stanza.line) found ≡ None → found ≡ None
    none None h = refl
    none (Some first) h = absurd (let never : ⊥ = cc in never)

-- where it is not of another architecture, the stanza is at the home with it
at_with : (home : Option (List ℕ)) (stanza : RawStanza) → mixed_fault home stanza ≡ None → IsAt (option_or home (architecture_of stanza)) stanza
unfolding mixed_fault architecture_of
at_with None stanza e = inr refl
at_with (Some home) stanza e = by (field_of Architecture stanza) e
  where
    tests : (line : ℕ) (value : List ℕ) (all same : Bool) → bytes_eq value home ≡ same → (if all || same then None else Some (Mixed line)) ≡ None
        → ((if all then None else Some value) ≡ None) ⊎ ((if all then None else Some value) ≡ Some home)
    tests line value true same is h = inl refl
    tests line value false true is h = inr (ap Some ((bytes_eq-Decides value home).0 is))
    tests line value false false is h = absurd (let never : ⊥ = cc in never)

    by : (field : Option RawField) → option_and_then (λ f. if is_all f.value || is_at_home (Some home) f.value then None else Some (Mixed f.line)) field ≡ None
        → (option_and_then (λ f. if is_all f.value then None else Some f.value) field ≡ None) ⊎ (option_and_then (λ f. if is_all f.value then None else Some f.value) field ≡ Some home)
    by None h = inl refl
    by (Some field) h = tests field.line field.value (is_all field.value) (bytes_eq field.value home) refl h

pub at_longer : (home more : Option (List ℕ)) (stanza : RawStanza) → IsAt home stanza → IsAt (option_or home more) stanza
at_longer None more stanza h = elim h [ inl e ↦ inl e | inr e ↦ inl e ]
at_longer (Some home) more stanza h = h

sound_push : (before : List RawStanza) (stanza : RawStanza) → Fits before stanza → Sound (home_of before) before → Sound (home_of (before ++ stanza ∷ [])) (before ++ stanza ∷ [])
sound_push before stanza fits s =
    let own = none_of (own_fault stanza) _ fits.fine in
    let rest = none_of (duplicate_fault (map facts_of before) stanza) _ own.1 in
    let home = none_of (mixed_fault (home_of before) stanza) None rest.1 in
    record {
      own = λ t i. elim (In_append_cases before (stanza ∷ []) t i) [
        | inl j ↦ s.own t j
        | inr j ↦ elim (In_cases j) [ inl is ↦ subst (λ u. own_fault u ≡ None) (sym is) own.0 | inr k ↦ absurd (In_none k) ]
      ];
      apart = apart_push before stanza s.apart (no_duplicate before stanza rest.0);
      at = λ t i. subst (λ h. IsAt h t) (sym (home_of-push before stanza)) (elim (In_append_cases before (stanza ∷ []) t i) [
        | inl j ↦ at_longer (home_of before) (architecture_of stanza) t (s.at t j)
        | inr j ↦ elim (In_cases j) [ inl is ↦ subst (λ u. IsAt (option_or (home_of before) (architecture_of stanza)) u) (sym is) (at_with (home_of before) stanza home.0) | inr k ↦ absurd (In_none k) ]
      ]);
    }

sound_walk : (before stanzas : List RawStanza) → AllFit before stanzas → Sound (home_of before) before → Sound (home_of (before ++ stanzas)) (before ++ stanzas)
sound_walk before [] fit s = subst (λ xs. Sound (home_of xs) xs) (sym (append-nil before)) s
sound_walk before (stanza ∷ more) fit s =
    subst (λ xs. Sound (home_of xs) xs) (append_assoc before (stanza ∷ []) more) (sound_walk (before ++ stanza ∷ []) more fit.1 (sound_push before stanza fit.0 s))

-- stanzas that fit are sound with their home
pub sound_of : (stanzas : List RawStanza) → AllFit [] stanzas → Sound (home_of stanzas) stanzas
sound_of stanzas fit = sound_walk [] stanzas fit (record { own = λ t i. absurd (In_none i); apart = tt; at = λ t i. absurd (In_none i) })

-- the home of stanzas that are at a home is that, or none
home_by : (home : Option (List ℕ)) (stanzas : List RawStanza) → ((t : RawStanza) → In t stanzas → IsAt home t) → (home_of stanzas ≡ None) ⊎ (home_of stanzas ≡ home)
unfolding home_of
home_by home [] at = inl refl
home_by home (stanza ∷ more) at = elim (at stanza here) [
  | inl none ↦ elim (home_by home more (λ t i. at t (there i))) [
    | inl e ↦ inl (ap (λ found. option_or found (first_present (map architecture_of more))) none ∙ e)
    | inr e ↦ inr (ap (λ found. option_or found (first_present (map architecture_of more))) none ∙ e)
  ]
  | inr is ↦ elim (home_by home more (λ t i. at t (there i))) [
    | inl e ↦ inr (ap (λ found. option_or found (first_present (map architecture_of more))) is ∙ ap (option_or home) e ∙ alone home)
    | inr e ↦ inr (ap (λ found. option_or found (first_present (map architecture_of more))) is ∙ ap (option_or home) e ∙ twice home)
  ]
]
  where
    alone : (h : Option (List ℕ)) → option_or h None ≡ h
    alone None = refl
    alone (Some h) = refl

    twice : (h : Option (List ℕ)) → option_or h h ≡ h
    twice None = refl
    twice (Some h) = refl

-- a stanza that is at the home is not of another architecture
not_mixed : (home before : Option (List ℕ)) (stanza : RawStanza) → (before ≡ None) ⊎ (before ≡ home) → IsAt home stanza → mixed_fault before stanza ≡ None
unfolding mixed_fault architecture_of
not_mixed home None stanza h at = by (field_of Architecture stanza)
  where
    tests : (line : ℕ) (all : Bool) → (if all || true then None else Some (Mixed line)) ≡ None
    tests line true = refl
    tests line false = refl

    by : (field : Option RawField) → option_and_then (λ f. if is_all f.value || is_at_home None f.value then None else Some (Mixed f.line)) field ≡ None
    by None = refl
    by (Some field) = tests field.line (is_all field.value)
not_mixed home (Some own) stanza h at = by (field_of Architecture stanza) at
  where
    is_own : home ≡ Some own
    is_own = elim h [ inl e ↦ absurd (let never : ⊥ = cc in never) | inr e ↦ sym e ]

    tests : (line : ℕ) (value : List ℕ) (all : Bool) → ((if all then None else Some value) ≡ None) ⊎ ((if all then None else Some value) ≡ home) → (if all || bytes_eq value own then None else Some (Mixed line)) ≡ None
    tests line value true found = refl
    tests line value false found = elim found [
      | inl e ↦ absurd (let never : ⊥ = cc in never)
      | inr e ↦ let same : value ≡ own = cc (is_own) in ap (λ b. if b then None else Some (Mixed line)) ((bytes_eq-Decides value own).1 same)
    ]

    by : (field : Option RawField) → (option_and_then (λ f. if is_all f.value then None else Some f.value) field ≡ None) ⊎ (option_and_then (λ f. if is_all f.value then None else Some f.value) field ≡ home)
        → option_and_then (λ f. if is_all f.value || is_at_home (Some own) f.value then None else Some (Mixed f.line)) field ≡ None
    by None found = refl
    by (Some field) found = tests field.line field.value (is_all field.value) found

apart_at : (xs : List RawStanza) (x : RawStanza) (ys : List RawStanza) → Apart (xs ++ x ∷ ys) → (t : RawStanza) → In t xs → AreOthers t x
apart_at [] x ys a t i = absurd (In_none i)
apart_at (y ∷ xs) x ys a t i = elim (In_cases i) [
  | inl is ↦ subst (λ u. AreOthers u x) (sym is) (a.0 x (at_end xs))
  | inr j ↦ apart_at xs x ys a.1 t j
]
  where
    at_end : (zs : List RawStanza) → In x (zs ++ x ∷ ys)
    at_end [] = here
    at_end (z ∷ zs) = there (at_end zs)

new_package : (before : List RawStanza) (stanza : RawStanza) → ((t : RawStanza) → In t before → AreOthers t stanza) → duplicate_fault (map facts_of before) stanza ≡ None
unfolding duplicate_fault
new_package before stanza others =
    ap (option_map (λ first. Duplicate first.line stanza.line)) (find_not (is_same_package (facts_of stanza)) (map facts_of before)
    (λ y i. let w = In_map_cases facts_of before y i in subst (λ u. is_same_package (facts_of stanza) u ≡ false) (sym w.2) (others w.0 w.1)))

-- sound stanzas that are few fit
fit_walk : (home : Option (List ℕ)) (before stanzas : List RawStanza) → length (before ++ stanzas) ≤ most_packages → Sound home (before ++ stanzas) → AllFit before stanzas
fit_walk home before [] few s = tt
fit_walk home before (stanza ∷ more) few s =
    let inside : In stanza (before ++ stanza ∷ more) = at_end before in
    let room : length before + 1 ≤ most_packages = omega (arith, length-append before (stanza ∷ more)) in
    let front = home_by home before (λ t i. s.at t (In_append_left before (stanza ∷ more) t i)) in
    let own : own_fault stanza ≡ None = s.own stanza inside in
    let new : duplicate_fault (map facts_of before) stanza ≡ None = new_package before stanza (apart_at before stanza more s.apart) in
    let same : mixed_fault (home_of before) stanza ≡ None = not_mixed home (home_of before) stanza front (s.at stanza inside) in
    let fine : stanza_fault (map facts_of before) (home_of before) stanza ≡ None =
    none_behind (own_fault stanza) _ own (none_behind (duplicate_fault (map facts_of before) stanza) _ new (none_behind (mixed_fault (home_of before) stanza) None same refl)) in
    let shape : before ++ stanza ∷ more ≡ (before ++ stanza ∷ []) ++ more = sym (append_assoc before (stanza ∷ []) more) in
    (record { room = room; fine = fine }, fit_walk home (before ++ stanza ∷ []) more (subst (λ xs. length xs ≤ most_packages) shape few) (subst (Sound home) shape s))
  where
    at_end : (zs : List RawStanza) → In stanza (zs ++ stanza ∷ more)
    at_end [] = here
    at_end (z ∷ zs) = there (at_end zs)

pub fit_of : (home : Option (List ℕ)) (stanzas : List RawStanza) → length stanzas ≤ most_packages → Sound home stanzas → AllFit [] stanzas
fit_of home stanzas few s = fit_walk home [] stanzas few s
