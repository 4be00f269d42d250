-- What the readings of a feed stand for, from one piece to the next.
use Rattle.std.proofs.Common.{◌≡◌, ℕ, ◌+◌, ◌≤◌, false, cond, List, [], ◌++◌, length, take, drop, Some, None, refl, sym, ap, ◌∙◌, append_assoc, take-append-drop}
use Rattle.std.proofs.{Common.{arith}, lemmas.List.{append-nil}, lemmas.List.Sums.{count_by-le-length, sum_by-append}}
use Rattle.std.specs.Prelude.{count_by}
use Rattle.stanza_reader.specs.{Close.{IsClosed}, Lines.{is_line_feed}, Places.{IsPlace}, Stanzas.{groups, readings}}
use Rattle.repo_model.specs.{Feeding.{HasFault, IsFront, IsProgress, IsSuiteOf}, FirstFault.{first_fault, home_of, stanzas_of}}
use Rattle.repo_model.specs.{Refusals.{UnlessMemory, Refuses, is_memory}, declared.building.Building.{Building}, declared.fault.IndexFault.{IndexFault}}
use Rattle.repo_model.specs.declared.fault.IndexFault.TheVariants.{Stanza, MissingPackage, MissingVersion, BadPackage, BadVersion, BadArchitecture, BadRelation}
use Rattle.repo_model.specs.{declared.fault.IndexFault.TheVariants.{Duplicate, Mixed, TooMany, Memory}, declared.progress.Progress.{Progress}}
use Rattle.stanza_reader.proofs.PartLemmas.{closed_texts_join}
use Rattle.repo_model.proofs.{Closing.{closed-nil}, Refusing.{for_same}, Steps.{fault_stays}}

-- what holds in any case holds unless memory ran out
pub for_fault : (fault : IndexFault) {P : Type 0} → P → UnlessMemory fault P
for_fault (Stanza fault) h = h
for_fault (MissingPackage line) h = h
for_fault (MissingVersion line) h = h
for_fault (BadPackage line) h = h
for_fault (BadVersion line) h = h
for_fault (BadArchitecture line) h = h
for_fault (BadRelation line element) h = h
for_fault (Duplicate first_line line) h = h
for_fault (Mixed line) h = h
for_fault TooMany h = h
for_fault Memory h = tt

-- and what holds unless memory ran out holds where it did not
pub not_memory : (fault : IndexFault) {P : Type 0} → UnlessMemory fault P → is_memory fault ≡ false → P
not_memory (Stanza fault) h e = h
not_memory (MissingPackage line) h e = h
not_memory (MissingVersion line) h e = h
not_memory (BadPackage line) h e = h
not_memory (BadVersion line) h e = h
not_memory (BadArchitecture line) h e = h
not_memory (BadRelation line element) h e = h
not_memory (Duplicate first_line line) h e = h
not_memory (Mixed line) h e = h
not_memory TooMany h e = h
not_memory Memory h e = absurd cc

-- a fault that the text has, whatever follows it, is its own
pub fault_now : (fault : IndexFault) (text : List ℕ) → HasFault fault text → Refuses fault (first_fault text)
fault_now fault text h = for_fault fault (ap first_fault (sym (append-nil text)) ∙ h [])

-- the first line of a part may have any number from 1 on that leaves room
pub place_first : (part : List ℕ) (line : ℕ) → 1 ≤ line → line + length part ≤ 1073741825 → IsPlace part record { offset = 0; line = line }
place_first part line some fits =
    let few = count_by-le-length is_line_feed part in
    record { within = omega arith; start = refl; numbered = omega (arith, some); room = omega (arith, few, fits) }

-- nothing was read
pub front_of_nothing : (building : Building) → building.packages ≡ [] → building.home.name ≡ None → IsFront building 1 []
unfolding first_fault stanzas_of home_of readings groups
front_of_nothing building none all = record { closed = closed-nil; suite = record { fine = refl; facts = none; common = all }; counted = refl }

-- a piece behind the pending bytes
pub held_more : (progress grown : Progress) (text piece : List ℕ) → IsProgress progress text → grown.building ≡ progress.building → grown.line ≡ progress.line
    → grown.pending.items ≡ progress.pending.items ++ piece → IsProgress grown (text ++ piece)
held_more progress grown text piece stands same number pending =
    let read : IsFront grown.building grown.line stands.front = rw (same, number) stands.read in
    record {
      front = stands.front;
      whole = ap (λ all. all ++ piece) stands.whole ∙ append_assoc stands.front progress.pending.items piece ∙ ap (λ more. stands.front ++ more) (sym pending);
      read = read;
    }

-- the text of a front, a part that is closed and the rest
whole_again : (front pending text : List ℕ) (n : ℕ) → text ≡ front ++ pending → text ≡ (front ++ take n pending) ++ drop n pending
whole_again front pending text n whole = whole ∙ ap (λ more. front ++ more) (sym (take-append-drop n pending)) ∙ sym (append_assoc front (take n pending) (drop n pending))

feeds-append : (front text : List ℕ) → count_by is_line_feed (front ++ text) ≡ count_by is_line_feed front + count_by is_line_feed text
feeds-append front text = sum_by-append (λ b. cond (is_line_feed b) 1 0) front text

-- a part that is closed was read behind the front
pub closed_more : (building read : Building) (line next n : ℕ) (front pending part : List ℕ) → part ≡ take n pending → IsFront building line front → IsClosed (take n pending)
    → IsSuiteOf (front ++ part) read.packages read.home.name → next ≡ line + count_by is_line_feed part → IsFront read next (front ++ take n pending)
closed_more building read line next n front pending part same old closed suite counted =
    record {
      closed = closed_texts_join front (take n pending) old.closed closed;
      suite = rw same at suite;
      counted = (let first = old.counted in let more = counted ∙ ap (λ all. line + count_by is_line_feed all) same in rw (feeds-append front (take n pending)) (omega (arith, first, more)));
    }

pub closed_refused : (building : Building) (line n : ℕ) (text pending part : List ℕ) (fault : IndexFault) → part ≡ take n pending → IsClosed (take n pending)
    → (front : List ℕ) → text ≡ front ++ pending → IsFront building line front → Refuses fault (first_fault (front ++ part)) → UnlessMemory fault (HasFault fault text)
closed_refused building line n text pending part fault same closed front whole old = for_same fault (λ h.
    let e : first_fault (front ++ take n pending) ≡ Some fault = ap (λ all. first_fault (front ++ all)) (sym same) ∙ h in
    let stays = fault_stays (front ++ take n pending) fault (closed_texts_join front (take n pending) old.closed closed) e in
    λ more. ap (λ all. first_fault (all ++ more)) (whole_again front pending text n whole) ∙ ap first_fault (append_assoc (front ++ take n pending) (drop n pending) more)
    ∙ stays (drop n pending ++ more))

pub closed_on : (progress new : Progress) (n : ℕ) (text part : List ℕ) → IsProgress progress text → part ≡ take n progress.pending.items → IsClosed (take n progress.pending.items)
    → new.pending.items ≡ drop n progress.pending.items → new.line ≡ progress.line + count_by is_line_feed part
    → ((front : List ℕ) → IsFront progress.building progress.line front → IsSuiteOf (front ++ part) new.building.packages new.building.home.name) → IsProgress new text
closed_on progress new n text part stands same closed rest counted suite =
    let pending = progress.pending.items in
    record {
      front = stands.front ++ take n pending;
      whole = whole_again stands.front pending text n stands.whole ∙ ap (λ more. (stands.front ++ take n pending) ++ more) (sym rest);
      read = closed_more progress.building new.building progress.line new.line n stands.front pending part same stands.read closed (suite stands.front stands.read) counted;
    }
