-- What is known of the packages of an index without a fault: they are few, each has a package name and a version, and none
-- is the package of an earlier one.
use Rattle.std.proofs.Common.{◌≡◌, ℕ, ◌+◌, ◌≤◌, Bool, true, false, cond, List, [], ◌∷◌, ◌++◌, length, take, map, Option, Some, None, Result, Ok, Err, refl, sym}
use Rattle.std.proofs.{Common.{ap, ◌∙◌, subst, inl, inr, arith, length-append, append_assoc}, Math.Seq.{take-append_seam}}
use Rattle.std.proofs.{lemmas.List.{append-nil, length-map, map-append}, lemmas.List.Elements.{filter_map-append}, lemmas.Bool.Decides.{nat_tests}}
use Rattle.std.specs.{Prelude.{nat_le, find}, Option.{option_map}, Result.{result_ok}}
use Rattle.deb_version.specs.{Names.{is_name}, Grammar.{is_version}}
use Rattle.stanza_reader.specs.{Stanzas.{readings}, declared.stanza.RawStanza.{RawStanza}, declared.fault.StanzaFault.{StanzaFault}}
use Rattle.relation_fields.specs.declared.packages.PackageFacts.{PackageFacts}
use Rattle.listed.specs.Lists.{In, here, there}
use Rattle.listed.proofs.Lists.{In_append_cases, In_cases, In_none, find_none}
use Rattle.repo_model.specs.Facts.{facts_of, is_same_package, AreNamedPackages}
use Rattle.repo_model.specs.FirstFault.{first_present, own_fault, duplicate_fault, stanza_fault, reading_fault, stanzas_in, stanzas_of, fault_behind}
use Rattle.repo_model.specs.{FirstFault.{faults_from, first_fault, home_of}, declared.fault.IndexFault.{IndexFault}}
use Rattle.repo_model.specs.{declared.fault.IndexFault.TheVariants.{Stanza, Duplicate, TooMany}, Limits.{most_packages}}
use Rattle.repo_model.proofs.WellFormed.{none_of, facts_well_formed}

-- none is the package of an earlier one
abbrev pub AreSingle : List PackageFacts → Type 0
AreSingle [] = Unit {0}
AreSingle (s ∷ more) = ((t : PackageFacts) → In t more → is_same_package t s ≡ false) × AreSingle more

pub record IsNamed (s : PackageFacts) : Type 0 where
  pub name : is_name s.name ≡ true
  pub version : is_version s.version ≡ true

pub record Accepted (packages : List PackageFacts) : Type 0 where
  pub few : length packages ≤ most_packages
  pub single : AreSingle packages
  pub named : (s : PackageFacts) → In s packages → IsNamed s

named_stanza : (stanza : RawStanza) → own_fault stanza ≡ None → IsNamed (facts_of stanza)
named_stanza stanza e = let both = facts_well_formed stanza (facts_of stanza) e refl in record { name = both.0; version = both.1 }

-- no earlier package is the same
new_stanza : (before : List PackageFacts) (stanza : RawStanza) → duplicate_fault before stanza ≡ None →
    (t : PackageFacts) → In t before → is_same_package (facts_of stanza) t ≡ false
unfolding duplicate_fault
new_stanza before stanza e t i = find_none (is_same_package (facts_of stanza)) before (none (find (is_same_package (facts_of stanza)) before) e) t i
  where
    none : (found : Option PackageFacts) → option_map (λ first. Duplicate first.line stanza.line) found ≡ None → found ≡ None
    none None h = refl
    none (Some first) h = absurd (let k : ⊥ = cc in k)

single_more : (xs : List PackageFacts) (x : PackageFacts) → AreSingle xs → ((t : PackageFacts) → In t xs → is_same_package x t ≡ false) → AreSingle (xs ++ x ∷ [])
single_more [] x s f = ((λ t i. absurd (In_none i)), tt)
single_more (y ∷ ys) x s f = (
  (λ t i.
      elim (In_append_cases ys (x ∷ []) t i) [
        | inl j ↦ s.0 t j
        | inr j ↦ elim (In_cases j) [
          | inl is ↦ subst (λ u. is_same_package u y ≡ false) (sym is) (f y here)
          | inr k ↦ absurd (In_none k)
        ]
      ]),
  single_more ys x s.1 (λ t i. f t (there i)),
)

-- one more stanza without a fault
accepted_more : (before : List RawStanza) (stanza : RawStanza) → length before + 1 ≤ most_packages → stanza_fault (map facts_of before) (home_of before) stanza ≡ None →
    Accepted (map facts_of before) → Accepted (map facts_of before ++ facts_of stanza ∷ [])
accepted_more before stanza few e a =
    let own = none_of (own_fault stanza) _ e in
    let new = none_of (duplicate_fault (map facts_of before) stanza) _ own.1 in
    record {
      few = rw (length-append, length-map) few;
      single = single_more (map facts_of before) (facts_of stanza) a.single (new_stanza (map facts_of before) stanza new.0);
      named = λ s i.
          elim (In_append_cases (map facts_of before) (facts_of stanza ∷ []) s i) [
            | inl j ↦ a.named s j
            | inr j ↦ elim (In_cases j) [
              | inl is ↦ subst IsNamed (sym is) (named_stanza stanza own.0)
              | inr k ↦ absurd (In_none k)
            ]
          ];
    }

-- a place that is not behind the 200,000th
early : (n : ℕ) (x : Option IndexFault) → cond (nat_le most_packages n) (Some TooMany) x ≡ None → (n + 1 ≤ most_packages) × (x ≡ None)
early n x e = go (nat_le most_packages n) refl e
  where
    go : (b : Bool) → nat_le most_packages n ≡ b → cond b (Some TooMany) x ≡ None → (n + 1 ≤ most_packages) × (x ≡ None)
    go true is h = absurd (let k : ⊥ = cc in k)
    go false is h = (grind (arith, nat_tests, is), h)

-- the readings of some stanzas, and of those behind them
record Read (all front more : List (Result RawStanza StanzaFault)) : Type 0 where
  whole : all ≡ front ++ more
  count : length (stanzas_in front) ≡ length front
  few : length front ≤ most_packages
  accepted : Accepted (map facts_of (stanzas_in front))
  faultless : first_present (faults_from all (length front) more) ≡ None

read_more : (all front more : List (Result RawStanza StanzaFault)) (stanza : RawStanza) → Read all front (Ok stanza ∷ more) → Read all (front ++ Ok stanza ∷ []) more
read_more all front more stanza r =
    let both = none_of (fault_behind (take (length front) all) (Ok stanza)) (first_present (faults_from all (length front + 1) more)) r.faultless in
    let before : take (length front) all ≡ front = ap (take (length front)) r.whole ∙ take-append_seam front (Ok stanza ∷ more) in
    let own : fault_behind front (Ok stanza) ≡ None = subst (λ xs. fault_behind xs (Ok stanza) ≡ None) before both.0 in
    let now = early (length front) (reading_fault (stanzas_in front) (Ok stanza)) own in
    let kept : stanzas_in (front ++ Ok stanza ∷ []) ≡ stanzas_in front ++ stanza ∷ [] = filter_map-append result_ok front (Ok stanza ∷ []) in
    let longer : length (front ++ Ok stanza ∷ []) ≡ length front + 1 = length-append front (Ok stanza ∷ []) in
    let counted : length (stanzas_in front) ≡ length front = r.count in
    let room : length front + 1 ≤ most_packages = now.0 in
    record {
      whole = r.whole ∙ sym (append_assoc front (Ok stanza ∷ []) more);
      count = rw (kept, length-append) (omega arith);
      few = omega arith;
      accepted = subst (λ xs. Accepted (map facts_of xs)) (sym kept)
          (subst Accepted (sym (map-append facts_of (stanzas_in front) (stanza ∷ []))) (accepted_more (stanzas_in front) stanza (omega arith) now.1 r.accepted));
      faultless = subst (λ n. first_present (faults_from all n more) ≡ None) (sym longer) both.1;
    }

walk : (all front more : List (Result RawStanza StanzaFault)) → Read all front more → Accepted (map facts_of (stanzas_in all))
walk all front [] r = subst (λ xs. Accepted (map facts_of (stanzas_in xs))) (sym (r.whole ∙ append-nil front)) r.accepted
walk all front (Ok stanza ∷ more) r = walk all (front ++ Ok stanza ∷ []) more (read_more all front more stanza r)
walk all front (Err fault ∷ more) r =
    let both = none_of (fault_behind (take (length front) all) (Err fault)) (first_present (faults_from all (length front + 1) more)) r.faultless in
    let now = early (length (take (length front) all)) (Some (Stanza fault)) both.0 in
    let never : Some (Stanza fault) ≡ None = now.1 in
    absurd (let k : ⊥ = cc in k)

pub accepted : (text : List ℕ) → first_fault text ≡ None → Accepted (map facts_of (stanzas_of text))
unfolding first_fault stanzas_of
accepted text e =
    walk (readings text) [] (readings text) (record {
      whole = refl;
      count = refl;
      few = omega arith;
      accepted = record { few = omega arith; single = tt; named = λ s i. absurd (In_none i) };
      faultless = e;
    })

-- the packages that were read have names and versions
pub read_named : (text : List ℕ) (packages : List PackageFacts) → first_fault text ≡ None → packages ≡ map facts_of (stanzas_of text) → AreNamedPackages packages
read_named text packages none said =
    let good : Accepted (map facts_of (stanzas_of text)) = accepted text none in
    subst AreNamedPackages (sym said) (λ facts i. let named = good.named facts i in (named.name, named.version))
