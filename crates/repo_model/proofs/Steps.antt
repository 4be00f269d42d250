-- Reading an index stanza by stanza: what holds at each place, and how the first fault is found.
use Rattle.std.proofs.Common.{◌≡◌, ℕ, zero, suc, ◌+◌, ◌≤◌, ◌<◌, Bool, true, false, List, [], ◌∷◌, ◌++◌, length, map, take, Option, Some, None, Result, Ok, Err}
use Rattle.std.proofs.{Common.{refl, sym, ap, subst, ◌∙◌, append_assoc, arith}, lemmas.List.{append-nil, map-append, length-map, length-append}}
use Rattle.std.proofs.lemmas.Bool.Decides.{nat_tests}
use Rattle.std.specs.{Prelude.{nat_le, if◌then◌else◌, count_by}, Option.{option_or, option_and_then}}
use Rattle.stanza_reader.specs.{Close.{IsClosed, readings_from}, Lines.{is_line_feed}, Stanzas.{readings}, Reading.{readings_at, first_reading}}
use Rattle.stanza_reader.specs.{declared.place.Place.{Place}, declared.stanza.RawStanza.{RawStanza}, declared.fault.StanzaFault.{StanzaFault}}
use Rattle.relation_fields.specs.declared.packages.PackageFacts.{PackageFacts}
use Rattle.repo_model.specs.{Facts.{facts_of, architecture_of}, Feeding.{IsSuiteOf, HasFault}}
use Rattle.repo_model.specs.FirstFault.{first_present, home_of, stanza_fault, reading_fault, stanzas_in, fault_behind, faults_from, first_fault, stanzas_of}
use Rattle.repo_model.specs.{Refusals.{Refuses}, Reading.{lines_fault, shape_fault, GoesOn}, declared.fault.IndexFault.{IndexFault}}
use Rattle.repo_model.specs.{declared.fault.IndexFault.TheVariants.{TooMany}, Limits.{most_packages}}
use Rattle.stanza_reader.proofs.PartLemmas.{reads_in_parts}
use Rattle.repo_model.proofs.Refusing.{for_same}

abbrev pub Reading : Type 0
Reading = Result RawStanza StanzaFault

-- stanzas without a fault of their lines
abbrev pub ok_of : RawStanza → Reading
ok_of stanza = Ok stanza

-- the first fault of the stanzas from the n-th on
abbrev pub fault_from : List Reading → ℕ → List Reading → Option IndexFault
fault_from all n more = first_present (faults_from all n more)

-- The packages so far are those of the stanzas before what is left, none of which has a fault.
pub record IsRead (all more : List Reading) (packages : List PackageFacts) (home : Option (List ℕ)) : Type 0 where
  pub before : List RawStanza
  pub read : all ≡ map ok_of before ++ more
  pub left : fault_from all 0 all ≡ fault_from all (length before) more
  pub facts : packages ≡ map facts_of before
  pub common : home ≡ home_of before

pub stanzas_in-ok : (before : List RawStanza) → stanzas_in (map ok_of before) ≡ before
stanzas_in-ok [] = refl
stanzas_in-ok (stanza ∷ before) = ap (λ more. stanza ∷ more) (stanzas_in-ok before)

take_front : (front : List Reading) (more : List Reading) → take (length front) (front ++ more) ≡ front
take_front [] more = refl
take_front (r ∷ front) more = ap (λ rest. r ∷ rest) (take_front front more)

-- what stands before what is left
front_is : (all : List Reading) (before : List RawStanza) (more : List Reading) → all ≡ map ok_of before ++ more → take (length before) all ≡ map ok_of before
front_is all before more read =
    ap (take (length before)) read ∙ ap (λ n. take n (map ok_of before ++ more)) (sym (length-map before ok_of)) ∙ take_front (map ok_of before) more

-- the fault of a stanza behind these
pub behind_is : (all : List Reading) (before : List RawStanza) (more : List Reading) (reading : Reading) → all ≡ map ok_of before ++ more
    → fault_behind (take (length before) all) reading ≡ (if nat_le most_packages (length before) then Some TooMany else reading_fault before reading)
behind_is all before more reading read =
    ap (λ front. fault_behind front reading) (front_is all before more read)
    ∙ ap (λ n. if nat_le most_packages n then Some TooMany else reading_fault (stanzas_in (map ok_of before)) reading) (length-map before ok_of)
    ∙ ap (λ stanzas. if nat_le most_packages (length before) then Some TooMany else reading_fault stanzas reading) (stanzas_in-ok before)

-- a fault that is there is the first
pub there_first : (fault : IndexFault) (all : List Reading) (n : ℕ) (reading : Reading) (more : List Reading) → fault_behind (take n all) reading ≡ Some fault → fault_from all n (reading ∷ more) ≡ Some fault
there_first fault all n reading more e = ap (λ found. option_or found (fault_from all (n + 1) more)) e

lines_first : (before : List RawStanza) (reading : Reading) (fault : IndexFault) (b : Bool) → (if b then Some TooMany else lines_fault reading) ≡ Some fault
    → (if b then Some TooMany else reading_fault before reading) ≡ Some fault
lines_first before reading fault true e = e
lines_first before (Ok stanza) fault false e = cc
lines_first before (Err shape) fault false e = e

-- a stanza too many, or a fault of its lines
next_refused : (all : List Reading) (before : List RawStanza) (more : List Reading) (fault : IndexFault) → all ≡ map ok_of before ++ more
    → option_and_then (shape_fault (length before)) (first_reading more) ≡ Some fault → fault_from all (length before) more ≡ Some fault
next_refused all before [] fault read e = cc
next_refused all before (reading ∷ more) fault read e =
    there_first fault all (length before) reading more (behind_is all before (reading ∷ more) reading read ∙ lines_first before reading fault (nat_le most_packages (length before)) e)

room_is : (n : ℕ) → n < most_packages → nat_le most_packages n ≡ false
room_is n h = grind (arith, nat_tests)

-- the fault of the stanza that is next, where its lines have none and it is not one too many
stanza_is : (all : List Reading) (before : List RawStanza) (stanza : RawStanza) (more : List Reading) → all ≡ map ok_of before ++ more → length before < most_packages
    → fault_behind (take (length before) all) (Ok stanza) ≡ stanza_fault (map facts_of before) (home_of before) stanza
stanza_is all before stanza more read room =
    behind_is all before more (Ok stanza) read ∙ ap (λ b. if b then Some TooMany else reading_fault before (Ok stanza)) (room_is (length before) room)

pub first_present-push : {X : Type 0} (xs : List (Option X)) (x : Option X) → first_present (xs ++ x ∷ []) ≡ option_or (first_present xs) x
first_present-push [] None = refl
first_present-push [] (Some x) = refl
first_present-push (None ∷ xs) x = first_present-push xs x
first_present-push (Some y ∷ xs) x = refl

pub home_of-push : (before : List RawStanza) (stanza : RawStanza) → home_of (before ++ stanza ∷ []) ≡ option_or (home_of before) (architecture_of stanza)
unfolding home_of
home_of-push before stanza = ap first_present (map-append architecture_of before (stanza ∷ [])) ∙ first_present-push (map architecture_of before) (architecture_of stanza)

-- the first of two faults, one after the other
or_assoc : {X : Type 0} (a b c : Option X) → option_or (option_or a b) c ≡ option_or a (option_or b c)
or_assoc None b c = refl
or_assoc (Some x) b c = refl

or_none : {X : Type 0} (a b : Option X) → option_or a b ≡ None → b ≡ None
or_none None b e = e
or_none (Some x) b e = absurd cc

fault_from-append : (all : List Reading) (n : ℕ) (xs ys : List Reading) → fault_from all n (xs ++ ys) ≡ option_or (fault_from all n xs) (fault_from all (n + length xs) ys)
fault_from-append all n [] ys = ap (λ m. fault_from all m ys) (omega arith)
fault_from-append all n (x ∷ xs) ys =
    let later : n + 1 + length xs ≡ n + suc (length xs) = omega arith in
    let first = fault_behind (take n all) x in
    ap (option_or first) (fault_from-append all (n + 1) xs ys ∙ ap (λ m. option_or (fault_from all (n + 1) xs) (fault_from all m ys)) later)
    ∙ sym (or_assoc first (fault_from all (n + 1) xs) (fault_from all (n + suc (length xs)) ys))

take_in : (n : ℕ) (xs ys : List Reading) → n ≤ length xs → take n (xs ++ ys) ≡ take n xs
take_in zero xs ys h = refl
take_in (suc n) [] ys h = absurd (omega arith)
take_in (suc n) (x ∷ xs) ys h = ap (λ more. x ∷ more) (take_in n xs ys (omega arith))

-- what stands behind some stanzas does not bear on their faults
fault_from-front : (front rest : List Reading) (n : ℕ) (more : List Reading) → n + length more ≤ length front → fault_from (front ++ rest) n more ≡ fault_from front n more
fault_from-front front rest n [] h = refl
fault_from-front front rest n (reading ∷ more) h =
    ap (λ before. option_or (fault_behind before reading) (fault_from (front ++ rest) (n + 1) more)) (take_in n front rest (omega arith))
    ∙ ap (option_or (fault_behind (take n front) reading)) (fault_from-front front rest (n + 1) more (omega arith))

-- the first fault of a front and what is left
fault_behind_front : (front rest : List Reading) → fault_from (front ++ rest) 0 (front ++ rest) ≡ option_or (fault_from front 0 front) (fault_from (front ++ rest) (length front) rest)
fault_behind_front front rest =
    let size : 0 + length front ≡ length front = omega arith in
    fault_from-append (front ++ rest) 0 front rest ∙ ap (λ n. option_or (fault_from (front ++ rest) 0 front) (fault_from (front ++ rest) n rest)) size
    ∙ ap (λ found. option_or found (fault_from (front ++ rest) (length front) rest)) (fault_from-front front rest 0 front (omega arith))

-- where there is no fault each reading is a stanza
ok_when : (b : Bool) (before : List RawStanza) (reading : Reading) (rest : Option IndexFault) (more : List Reading)
    → option_or (if b then Some TooMany else reading_fault before reading) rest ≡ None → (rest ≡ None → more ≡ map ok_of (stanzas_in more)) → reading ∷ more ≡ map ok_of (stanzas_in (reading ∷ more))
ok_when true before reading rest more e later = absurd cc
ok_when false before (Err fault) rest more e later = absurd cc
ok_when false before (Ok stanza) rest more e later = ap (λ all. Ok stanza ∷ all) (later (or_none (reading_fault before (Ok stanza)) rest e))

all_ok : (all : List Reading) (n : ℕ) (more : List Reading) → fault_from all n more ≡ None → more ≡ map ok_of (stanzas_in more)
all_ok all n [] e = refl
all_ok all n (reading ∷ more) e =
    ok_when (nat_le most_packages (length (take n all))) (stanzas_in (take n all)) reading (fault_from all (n + 1) more) more e (all_ok all (n + 1) more)

-- what follows a front that is closed is read behind it
cut_read : (front rest : List ℕ) → IsClosed front → readings (front ++ rest) ≡ readings front ++ readings_at rest record { offset = 0; line = 1 + count_by is_line_feed front }
unfolding readings readings_at readings_from
cut_read front rest closed = reads_in_parts 1 front rest closed

-- a front was read, and what follows it is left
pub read_first : (front part : List ℕ) (line : ℕ) (packages : List PackageFacts) (home : Option (List ℕ)) → IsClosed front → IsSuiteOf front packages home
    → line ≡ 1 + count_by is_line_feed front → IsRead (readings (front ++ part)) (readings_at part record { offset = 0; line = line }) packages home
unfolding first_fault stanzas_of
read_first front part line packages home closed suite counted =
    let left = readings_at part record { offset = 0; line = line } in
    let cut : readings (front ++ part) ≡ readings front ++ left =
    cut_read front part closed ∙ ap (λ n. readings front ++ readings_at part record { offset = 0; line = n }) (sym counted) in
    let ok : readings front ≡ map ok_of (stanzas_of front) = all_ok (readings front) 0 (readings front) suite.fine in
    let size : length (readings front) ≡ length (stanzas_of front) = ap length ok ∙ length-map (stanzas_of front) ok_of in
    record {
      before = stanzas_of front;
      read = cut ∙ ap (λ all. all ++ left) ok;
      left = ap (λ all. fault_from all 0 all) cut ∙ fault_behind_front (readings front) left ∙ ap (λ found. option_or found (fault_from (readings front ++ left) (length (readings front)) left)) suite.fine
          ∙ ap (λ n. fault_from (readings front ++ left) n left) size ∙ ap (λ all. fault_from all (length (stanzas_of front)) left) (sym cut);
      facts = suite.facts;
      common = suite.common;
    }

-- a fault of a front is that of each text that begins with it
pub fault_stays : (front : List ℕ) (fault : IndexFault) → IsClosed front → first_fault front ≡ Some fault → HasFault fault front
unfolding first_fault
fault_stays front fault closed e = λ rest.
    let left = readings_at rest record { offset = 0; line = 1 + count_by is_line_feed front } in
    ap (λ all. fault_from all 0 all) (cut_read front rest closed) ∙ fault_behind_front (readings front) left
    ∙ ap (λ found. option_or found (fault_from (readings front ++ left) (length (readings front)) left)) e

-- a refusal of a stanza too many, or of its lines, is that of the index
pub shape_refused : (text : List ℕ) {more : List Reading} {packages : List PackageFacts} {home : Option (List ℕ)} (fault : IndexFault) (count : ℕ)
    → IsRead (readings text) more packages home → count ≡ length packages → Refuses fault (option_and_then (shape_fault count) (first_reading more)) → Refuses fault (first_fault text)
unfolding first_fault
shape_refused text {more} {packages} fault count r counted = for_same fault (λ h.
    let n : count ≡ length r.before = counted ∙ ap length r.facts ∙ length-map r.before facts_of in
    r.left ∙ next_refused (readings text) r.before more fault r.read (ap (λ m. option_and_then (shape_fault m) (first_reading more)) (sym n) ∙ h))

-- a refusal of a stanza that was read is that of the index
pub stanza_refused : (text part : List ℕ) (at : Place) {packages : List PackageFacts} {home : Option (List ℕ)} (fault : IndexFault) (count : ℕ) (stanza : RawStanza) (after : Place)
    → IsRead (readings text) (readings_at part at) packages home → count ≡ length packages → GoesOn part at count stanza after → Refuses fault (stanza_fault packages home stanza) → Refuses fault (first_fault text)
unfolding first_fault
stanza_refused text part at {packages} {home} fault count stanza after r counted on = for_same fault (λ h.
    let n : count ≡ length r.before = counted ∙ ap length r.facts ∙ length-map r.before facts_of in
    let room : length r.before < most_packages = subst (λ m. m < most_packages) n on.room in
    let own : stanza_fault (map facts_of r.before) (home_of r.before) stanza ≡ Some fault = rw (← r.facts, ← r.common) h in
    r.left ∙ ap (fault_from (readings text) (length r.before)) on.next
    ∙ there_first fault (readings text) (length r.before) (Ok stanza) (readings_at part after) (stanza_is (readings text) r.before stanza (readings_at part at) r.read room ∙ own))

-- one more stanza
pub read_more : {all : List Reading} (part : List ℕ) (at : Place) {packages : List PackageFacts} {home : Option (List ℕ)} (count : ℕ) (stanza : RawStanza) (after : Place)
    (more : List PackageFacts) (settled : Option (List ℕ)) → IsRead all (readings_at part at) packages home → count ≡ length packages → GoesOn part at count stanza after
    → stanza_fault packages home stanza ≡ None → more ≡ packages ++ facts_of stanza ∷ [] → settled ≡ option_or home (architecture_of stanza) → IsRead all (readings_at part after) more settled
read_more {all} part at {packages} {home} count stanza after more settled r counted on fine pushed known =
    let n : count ≡ length r.before = counted ∙ ap length r.facts ∙ length-map r.before facts_of in
    let room : length r.before < most_packages = subst (λ m. m < most_packages) n on.room in
    let own : stanza_fault (map facts_of r.before) (home_of r.before) stanza ≡ None = rw (← r.facts, ← r.common) fine in
    let longer : length r.before + 1 ≡ length (r.before ++ stanza ∷ []) = omega (arith, length-append r.before (stanza ∷ [])) in
    record {
      before = r.before ++ stanza ∷ [];
      read = r.read ∙ ap (λ rest. map ok_of r.before ++ rest) on.next ∙ sym (append_assoc (map ok_of r.before) (ok_of stanza ∷ []) (readings_at part after))
          ∙ ap (λ front. front ++ readings_at part after) (sym (map-append ok_of r.before (stanza ∷ [])));
      left = r.left ∙ ap (fault_from all (length r.before)) on.next
          ∙ ap (λ found. option_or found (fault_from all (length r.before + 1) (readings_at part after))) (stanza_is all r.before stanza (readings_at part at) r.read room ∙ own)
          ∙ ap (λ m. fault_from all m (readings_at part after)) longer;
      facts = pushed ∙ ap (λ front. front ++ facts_of stanza ∷ []) r.facts ∙ sym (map-append facts_of r.before (stanza ∷ []));
      common = known ∙ ap (λ front. option_or front (architecture_of stanza)) r.common ∙ sym (home_of-push r.before stanza);
    }

pub few_more : (packages more : List PackageFacts) (facts : PackageFacts) (count : ℕ) → count ≡ length packages → count < most_packages → more ≡ packages ++ facts ∷ [] → length more ≤ most_packages
few_more packages more facts count counted room pushed = rw pushed (omega (arith, length-append packages (facts ∷ [])))

-- all was read
pub read_all : (text part : List ℕ) (at : Place) {packages : List PackageFacts} {home : Option (List ℕ)}
    → IsRead (readings text) (readings_at part at) packages home → readings_at part at ≡ [] → IsSuiteOf text packages home
unfolding first_fault stanzas_of
read_all text part at r none =
    let all : stanzas_of text ≡ r.before = ap stanzas_in (r.read ∙ ap (λ rest. map ok_of r.before ++ rest) none ∙ append-nil (map ok_of r.before)) ∙ stanzas_in-ok r.before in
    record {
      fine = r.left ∙ ap (fault_from (readings text) (length r.before)) none;
      facts = r.facts ∙ ap (map facts_of) (sym all);
      common = r.common ∙ ap home_of (sym all);
    }
