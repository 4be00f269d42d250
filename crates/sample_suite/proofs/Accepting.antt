-- A sample suite's index has no fault.
use Rattle.std.proofs.Common.{◌≡◌, ◌∙◌, ◌<◌, ◌≤◌, ◌+◌, ◌&&◌, ℕ, true, false, zero, suc, nat_le, refl, ap, ap₂, List, [], ◌∷◌, map, length, take, codes, Option}
use Rattle.std.proofs.{Common.{Some, None, Result, Ok, arith}, lemmas.Bool.{lt-leb}}
use Rattle.std.specs.{List.{AllByRecursion, find}, Ordering.{is_eq}, Str.{bytes_eq}}
use Rattle.deb_version.specs.{Grammar.{is_version, epoch_of, behind_epoch, upstream_in, revision_in}, Order.{version_order}}
use Rattle.relation_fields.specs.declared.packages.PackageFacts.{PackageFacts}
use Rattle.stanza_reader.specs.{declared.fault.StanzaFault.{StanzaFault}, declared.stanza.RawStanza.{RawStanza}}
use Rattle.repo_model.specs.Facts.{facts_of, is_same_package}
use Rattle.repo_model.specs.FirstFault.{duplicate_fault, fault_behind, faults_from, first_fault, first_present, home_of, mixed_fault, presence_fault}
use Rattle.repo_model.specs.{FirstFault.{reading_fault, stanzas_in, value_fault}, Limits.{most_packages}}
use Rattle.sample_suite.specs.{declared.package.SamplePackage.{SamplePackage}, SampleText.{package_name, stanzas_text}}
use Rattle.sample_suite.proofs.{Names.{IsSmall, name_named, names_differ}, Relations.{name_said, needs_said}}
use Rattle.sample_suite.proofs.SampleStanzas.{IsFit, fields_at, line_behind, sample_readings, stanza_at_line, stanzas_from}

-- ---- a stanza by itself

one_is_version : is_version (codes "1") ≡ true
unfolding is_version epoch_of behind_epoch upstream_in revision_in
one_is_version = refl

abbrev stanza_with : ℕ → ℕ → List (List ℕ) → Option ℕ → RawStanza
stanza_with line n needs conflict = record { line = line; fields = fields_at line n needs conflict }

present : (line n : ℕ) (needs : List (List ℕ)) (conflict : Option ℕ) → presence_fault (stanza_with line n needs conflict) ≡ None
unfolding presence_fault
present line n [] None = refl
present line n [] (Some conflict) = refl
present line n (element ∷ more) None = refl
present line n (element ∷ more) (Some conflict) = refl

good : (line n : ℕ) (needs : List (List ℕ)) (conflict : Option ℕ) → IsSmall n → IsFit (record { needs = needs; conflict = conflict }) → value_fault (stanza_with line n needs conflict) ≡ None
unfolding value_fault
good line n [] None small fit = rw (name_named n small, one_is_version) refl
good line n [] (Some conflict) small fit = rw (name_named n small, one_is_version, name_said conflict fit.conflict) refl
good line n (element ∷ more) None small fit = rw (name_named n small, one_is_version, needs_said element more fit.needs fit.filled) refl
good line n (element ∷ more) (Some conflict) small fit = rw (name_named n small, one_is_version, needs_said element more fit.needs fit.filled, name_said conflict fit.conflict) refl

unmixed : (home : Option (List ℕ)) (line n : ℕ) (needs : List (List ℕ)) (conflict : Option ℕ) → mixed_fault home (stanza_with line n needs conflict) ≡ None
unfolding mixed_fault
unmixed home line n [] None = refl
unmixed home line n [] (Some conflict) = refl
unmixed home line n (element ∷ more) None = refl
unmixed home line n (element ∷ more) (Some conflict) = refl

name_in : (line n : ℕ) (needs : List (List ℕ)) (conflict : Option ℕ) → (facts_of (stanza_with line n needs conflict)).name ≡ package_name n
unfolding facts_of
name_in line n [] None = refl
name_in line n [] (Some conflict) = refl
name_in line n (element ∷ more) None = refl
name_in line n (element ∷ more) (Some conflict) = refl

-- ---- a stanza behind others

-- the stanza is of a package with a number below this one
record IsBelow (n : ℕ) (stanza : RawStanza) : Type 0 where
  number : ℕ
  below : number < n
  name : (facts_of stanza).name ≡ package_name number

other_package : (n : ℕ) (facts : PackageFacts) (stanza : RawStanza) → IsSmall n → facts.name ≡ package_name n → IsBelow n stanza → is_same_package facts (facts_of stanza) ≡ false
other_package n facts stanza small is below =
    let low : IsSmall below.number = let l = below.below in omega (arith, l, small) in
    let differ : bytes_eq (package_name n) (package_name below.number) ≡ false = names_differ n below.number small low (λ e. let l = below.below in omega (arith, l, e)) in
    ap (λ b. b && is_eq (version_order facts.version (facts_of stanza).version)) (ap₂ bytes_eq is below.name ∙ differ)

not_found : (n : ℕ) (facts : PackageFacts) → IsSmall n → facts.name ≡ package_name n → (before : List RawStanza) → AllByRecursion (IsBelow n) before → find (is_same_package facts) (map facts_of before) ≡ None
not_found n facts small is [] h = refl
not_found n facts small is (stanza ∷ before) h = rw (other_package n facts stanza small is h.0) (not_found n facts small is before h.1)

alone : (line n : ℕ) (p : SamplePackage) → IsSmall n → (before : List RawStanza) → AllByRecursion (IsBelow n) before → duplicate_fault (map facts_of before) (stanza_at_line line n p) ≡ None
unfolding duplicate_fault
alone line n p small before h = rw (not_found n (facts_of (stanza_at_line line n p)) small (name_in line n p.needs p.conflict) before h) refl

clean_stanza : (line n : ℕ) (p : SamplePackage) → IsSmall n → IsFit p → (before : List RawStanza) → AllByRecursion (IsBelow n) before → reading_fault before (Ok (stanza_at_line line n p)) ≡ None
clean_stanza line n p small fit before h =
    rw (present line n p.needs p.conflict, good line n p.needs p.conflict small fit, alone line n p small before h, unmixed (home_of before) line n p.needs p.conflict) refl

-- ---- all stanzas

-- what is read of the stanzas before the n-th
record IsFront (n : ℕ) (before : List (Result RawStanza StanzaFault)) : Type 0 where
  few : length before ≤ n
  below : AllByRecursion (IsBelow n) (stanzas_in before)

front_below : (j line n bound : ℕ) (all : List SamplePackage) → n + j ≤ bound → AllByRecursion (IsBelow bound) (stanzas_in (take j (map Ok (stanzas_from line n all))))
unfolding stanzas_from
front_below zero line n bound all h = tt
front_below (suc j) line n bound [] h = tt
front_below (suc j) line n bound (p ∷ more) h = (
  record { number = n; below = omega (arith, h); name = name_in line n p.needs p.conflict },
  front_below j (line_behind line p.needs p.conflict) (n + 1) bound more (omega (arith, h)),
)

front_few : {X : Type 0} (j : ℕ) (all : List X) → length (take j all) ≤ j
front_few zero all = omega arith
front_few (suc j) [] = omega arith
front_few (suc j) (x ∷ all) = let h = front_few j all in omega (arith, h)

fronts : (all : List SamplePackage) (j : ℕ) → IsFront j (take j (map Ok (stanzas_from 1 0 all)))
fronts all j = record { few = front_few j (map Ok (stanzas_from 1 0 all)); below = front_below j 1 0 j all (omega arith) }

clean_behind : (line n : ℕ) (p : SamplePackage) (before : List (Result RawStanza StanzaFault)) → n < most_packages → IsFit p → IsFront n before → fault_behind before (Ok (stanza_at_line line n p)) ≡ None
clean_behind line n p before low fit front =
    let few = front.few in
    let room : nat_le most_packages (length before) ≡ false = lt-leb most_packages (length before) (omega (arith, few, low)) in
    rw room (clean_stanza line n p (omega (arith, low)) fit (stanzas_in before) front.below)

clean_from : (all : List (Result RawStanza StanzaFault)) → ((j : ℕ) → IsFront j (take j all)) → (line n : ℕ) (more : List SamplePackage) → n + length more ≤ most_packages → AllByRecursion IsFit more →
    first_present (faults_from all n (map Ok (stanzas_from line n more))) ≡ None
unfolding stanzas_from
clean_from all front line n [] room fit = refl
clean_from all front line n (p ∷ more) room fit =
    rw (clean_behind line n p (take n all) (omega (arith, room)) fit.0 (front n))
    (clean_from all front (line_behind line p.needs p.conflict) (n + 1) more (omega (arith, room)) fit.1)

-- the stanzas of packages that fit have no fault
pub stanzas_accepted : (all : List SamplePackage) → length all ≤ most_packages → AllByRecursion IsFit all → first_fault (stanzas_text 0 all) ≡ None
unfolding first_fault
stanzas_accepted all room fit =
    ap (λ rs. first_present (faults_from rs 0 rs)) (sample_readings all (omega (arith, room)) fit)
    ∙ clean_from (map Ok (stanzas_from 1 0 all)) (fronts all) 1 0 all (omega (arith, room)) fit
