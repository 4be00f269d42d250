-- The stanzas whose flags are up, put one behind the other.
use Rattle.std.proofs.Common.{◌≡◌, ℕ, ◌+◌, ◌≤◌, ◌<◌, Bool, true, false, cond, List, [], ◌∷◌, ◌++◌, length, get_or, drop, map, Option, Some, None, Ok, refl, sym}
use Rattle.std.proofs.Common.{ap, ap₂, subst, ◌∙◌, add-one, append_assoc, drop-cons, length-append, arith}
use Rattle.std.proofs.lemmas.List.{append-nil, drop_all, length-map, map-append}
use Rattle.std.specs.{Prelude.{nat_le, if◌then◌else◌}, Option.{option_or}}
use Rattle.stanza_reader.specs.{Blanking.{picked}, Stanzas.{readings, stanzas}, declared.stanza.RawStanza.{RawStanza}}
use Rattle.stanza_reader.proofs.BlankLemmas.{good_readings}
use Rattle.relation_fields.specs.declared.packages.PackageFacts.{PackageFacts}
use Rattle.repo_model.specs.{Facts.{architecture_of, facts_of}, Feeding.{IsSuiteOf}}
use Rattle.repo_model.specs.{FirstFault.{first_fault, home_of, reading_fault, stanza_fault, stanzas_in, stanzas_of}, Limits.{most_packages}}
use Rattle.repo_model.specs.{Picking.{next_fault}, Refusals.{Refuses}, declared.fault.IndexFault.{IndexFault}, declared.fault.IndexFault.TheVariants.{TooMany}}
use Rattle.repo_model.proofs.{Refusing.{for_same}, Steps.{IsRead, Reading, behind_is, fault_from, home_of-push, ok_of, stanzas_in-ok, there_first}}

-- what the stanzas from a place on read as, where their flags are up
abbrev pub picked_from : ℕ → List Bool → List RawStanza → List Reading
picked_from i flags all = map ok_of (picked (drop i flags) (drop i all))

-- the packages so far are those of the stanzas before a place whose flags are up, none of which has a fault
abbrev pub IsPicked : List Bool → List RawStanza → ℕ → List PackageFacts → Option (List ℕ) → Type 0
IsPicked flags all i packages home = IsRead (map ok_of (picked flags all)) (picked_from i flags all) packages home

pub picked_first : (flags : List Bool) (all : List RawStanza) (packages : List PackageFacts) (home : Option (List ℕ)) → packages ≡ [] → home ≡ None → IsPicked flags all 0 packages home
unfolding home_of
picked_first flags all packages home none unknown = record { before = []; read = refl; left = refl; facts = none; common = unknown }

next_is : {packages : List PackageFacts} {home : Option (List ℕ)} (all : List Reading) (stanza : RawStanza) (more : List Reading) (r : IsRead all (ok_of stanza ∷ more) packages home)
    → (if nat_le most_packages (length r.before) then Some TooMany else reading_fault r.before (Ok stanza)) ≡ next_fault packages home stanza
next_is {packages} {home} all stanza more r =
    ap (λ n. if nat_le most_packages n then Some TooMany else stanza_fault (map facts_of r.before) (home_of r.before) stanza) (sym (length-map r.before facts_of))
    ∙ sym (ap₂ (λ before found. next_fault before found stanza) r.facts r.common)

module _ (flags : List Bool) (all : List RawStanza) (i : ℕ) (stanza : RawStanza) {packages : List PackageFacts} {home : Option (List ℕ)}
    (many : length flags ≡ length all) (within : i < length all) (at : stanza ≡ get_or all i stanza) (r : IsPicked flags all i packages home) where
  abbrev flag : Bool
  flag = get_or flags i false

  next : picked_from i flags all ≡ map ok_of (cond flag (stanza ∷ picked (drop (i + 1) flags) (drop (i + 1) all)) (picked (drop (i + 1) flags) (drop (i + 1) all)))
  next = ap (map ok_of) (ap₂ picked
      (drop-cons flags i false (omega arith) ∙ ap (λ n. flag ∷ drop n flags) (sym (add-one i)))
      (drop-cons all i stanza within ∙ ap₂ (λ s n. s ∷ drop n all) (sym at) (sym (add-one i))))

  next_up : flag ≡ true → picked_from i flags all ≡ ok_of stanza ∷ picked_from (i + 1) flags all
  next_up up = next ∙ ap (λ b. map ok_of (cond b (stanza ∷ picked (drop (i + 1) flags) (drop (i + 1) all)) (picked (drop (i + 1) flags) (drop (i + 1) all)))) up

  -- a stanza whose flag is down is passed over
  pub picked_past : flag ≡ false → IsPicked flags all (i + 1) packages home
  picked_past down =
      subst (λ more. IsRead (map ok_of (picked flags all)) more packages home)
      (next ∙ ap (λ b. map ok_of (cond b (stanza ∷ picked (drop (i + 1) flags) (drop (i + 1) all)) (picked (drop (i + 1) flags) (drop (i + 1) all)))) down) r

  module _ (up : flag ≡ true) where
    with_next : IsRead (map ok_of (picked flags all)) (ok_of stanza ∷ picked_from (i + 1) flags all) packages home
    with_next = subst (λ more. IsRead (map ok_of (picked flags all)) more packages home) (next_up up) r

    -- one that is refused is the first that has a fault
    pub picked_refused : (fault : IndexFault) → Refuses fault (next_fault packages home stanza) → (text : List ℕ) → stanzas text ≡ Ok (picked flags all) → Refuses fault (first_fault text)
    unfolding first_fault
    picked_refused fault refused text e =
        let whole : List Reading = map ok_of (picked flags all) in
        let more : List Reading = picked_from (i + 1) flags all in
        for_same fault (λ h.
        ap (λ read. fault_from read 0 read) (good_readings (readings text) (picked flags all) e) ∙ with_next.left
        ∙ there_first fault whole (length with_next.before) (ok_of stanza) more
        (behind_is whole with_next.before (ok_of stanza ∷ more) (ok_of stanza) with_next.read ∙ next_is whole stanza more with_next ∙ h)) refused

    -- and else its package is put behind the others
    pub picked_more : (grown : List PackageFacts) (settled : Option (List ℕ)) → next_fault packages home stanza ≡ None → grown ≡ packages ++ facts_of stanza ∷ [] → settled ≡ option_or home (architecture_of stanza)
        → IsPicked flags all (i + 1) grown settled
    picked_more grown settled fine pushed known =
        let whole : List Reading = map ok_of (picked flags all) in
        let more : List Reading = picked_from (i + 1) flags all in
        let before : List RawStanza = with_next.before in
        let longer : length before + 1 ≡ length (before ++ stanza ∷ []) = omega (arith, length-append before (stanza ∷ [])) in
        record {
          before = before ++ stanza ∷ [];
          read = with_next.read ∙ sym (append_assoc (map ok_of before) (ok_of stanza ∷ []) more) ∙ ap (λ front. front ++ more) (sym (map-append ok_of before (stanza ∷ [])));
          left = with_next.left
              ∙ ap (λ found. option_or found (fault_from whole (length before + 1) more))
              (behind_is whole before (ok_of stanza ∷ more) (ok_of stanza) with_next.read ∙ next_is whole stanza more with_next ∙ fine)
              ∙ ap (λ m. fault_from whole m more) longer;
          facts = pushed ∙ ap (λ front. front ++ facts_of stanza ∷ []) with_next.facts ∙ sym (map-append facts_of before (stanza ∷ []));
          common = known ∙ ap (λ front. option_or front (architecture_of stanza)) with_next.common ∙ sym (home_of-push before stanza);
        }

-- all were read
pub picked_all : (flags : List Bool) (all : List RawStanza) (i : ℕ) {packages : List PackageFacts} {home : Option (List ℕ)} → length flags ≡ length all → length all ≤ i → IsPicked flags all i packages home
    → (text : List ℕ) → stanzas text ≡ Ok (picked flags all) → IsSuiteOf text packages home
unfolding first_fault stanzas_of
picked_all flags all i many past r text e =
    let whole : List Reading = map ok_of (picked flags all) in
    let read : readings text ≡ whole = good_readings (readings text) (picked flags all) e in
    let none : picked_from i flags all ≡ [] = ap₂ (λ fs ss. map ok_of (picked fs ss)) (drop_all i flags (omega arith)) (drop_all i all past) in
    let kept : stanzas_in (readings text) ≡ r.before = ap stanzas_in (read ∙ r.read ∙ ap (λ rest. map ok_of r.before ++ rest) none ∙ append-nil (map ok_of r.before)) ∙ stanzas_in-ok r.before in
    record {
      fine = ap (λ found. fault_from found 0 found) read ∙ r.left ∙ ap (fault_from whole (length r.before)) none;
      facts = r.facts ∙ ap (map facts_of) (sym kept);
      common = r.common ∙ ap home_of (sym kept);
    }
