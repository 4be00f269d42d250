-- A piece that is taken in parts.
use Rattle.std.proofs.Common.{◌≡◌, true, ℕ, ◌+◌, List, [], ◌∷◌, ◌++◌, length, take, drop, Result, refl, sym, ap, ap₂, subst, ◌∙◌, append_assoc, length-append}
use Rattle.std.proofs.{Common.{take-append-drop, take_all, arith}, lemmas.Bool.{eqb-true}, lemmas.List.{append-nil}}
use Rattle.std.specs.Prelude.{◌==◌, count_by}
use Rattle.stanza_reader.specs.{Close.{IsClosed}, Lines.{is_line_feed}}
use Rattle.repo_model.specs.{Feeding.{HasFault, IsFront, IsOpen, IsProgress, IsSuiteOf, StandsUnlessMemory}, FirstFault.{first_fault}}
use Rattle.repo_model.specs.{Refusals.{UnlessMemory, Refuses}, declared.fault.IndexFault.{IndexFault}, declared.progress.Progress.{Progress}}
use Rattle.repo_model.proofs.{Opening.{open_same}, Refusing.{for_same}, Standing.{closed_more, closed_refused}}

front_of_nil : (front rest : List ℕ) → [] ≡ front ++ rest → front ≡ []
front_of_nil [] rest e = refl
front_of_nil (b ∷ bs) rest e = absurd cc

-- nothing is open
pub open_none : (text : List ℕ) → text ≡ [] → IsOpen text
open_none text none = open_same text [] (record { fronts = λ front rest e closed. front_of_nil front rest e }) none

pub none_left : (slice items : List ℕ) → slice ≡ items → (length slice == 0) ≡ true → items ≡ []
none_left slice items same e = sym same ∙ empty_is slice (eqb-true (length slice) 0 e)
  where
    empty_is : (text : List ℕ) → length text ≡ 0 → text ≡ []
    empty_is [] none = refl
    empty_is (b ∷ bs) none = absurd (omega (arith, none))

-- the parts of a piece are as long as the piece
pub parts_length : (piece first more : List ℕ) (n : ℕ) → first ≡ take n piece → more ≡ drop n piece → length first + length more ≡ length piece
parts_length piece first more n front back =
    ap₂ (λ one other. length one + length other) front back ∙ sym (length-append (take n piece) (drop n piece)) ∙ ap length (take-append-drop n piece)

text_in_parts : (text piece : List ℕ) (n : ℕ) → (text ++ take n piece) ++ drop n piece ≡ text ++ piece
text_in_parts text piece n = append_assoc text (take n piece) (drop n piece) ∙ ap (λ all. text ++ all) (take-append-drop n piece)

-- what stands for a text and both parts of a piece stands for the text and the piece
pub stands_in_parts : (result : Result Progress IndexFault) (text piece first more : List ℕ) (n : ℕ) → first ≡ take n piece → more ≡ drop n piece
    → StandsUnlessMemory result ((text ++ first) ++ more) → StandsUnlessMemory result (text ++ piece)
stands_in_parts result text piece first more n front back =
    subst (StandsUnlessMemory result) (ap₂ (λ one other. (text ++ one) ++ other) front back ∙ text_in_parts text piece n)

-- a fault behind the first part is one behind the piece
pub fault_in_parts : (fault : IndexFault) (text piece first : List ℕ) (n : ℕ) → first ≡ take n piece → UnlessMemory fault (HasFault fault (text ++ first)) → UnlessMemory fault (HasFault fault (text ++ piece))
fault_in_parts fault text piece first n front = for_same fault (λ has more.
    ap (λ all. first_fault (all ++ more)) (sym (text_in_parts text piece n) ∙ ap (λ one. (text ++ one) ++ drop n piece) (sym front))
    ∙ ap first_fault (append_assoc (text ++ first) (drop n piece) more)
    ∙ has (drop n piece ++ more))

-- a closed part behind a front, where nothing is pending
module _ (progress : Progress) (text part : List ℕ) (none : progress.pending.items ≡ []) (closed : IsClosed part) (stands : IsProgress progress text) where
  whole : text ++ part ≡ stands.front ++ part
  whole = ap (λ front. front ++ part) (stands.whole ∙ ap (λ more. stands.front ++ more) none ∙ append-nil stands.front)

  all : part ≡ take (length part) part
  all = sym (take_all (length part) part (omega arith))

  pub part_refused : (fault : IndexFault) → ((front : List ℕ) → IsFront progress.building progress.line front → Refuses fault (first_fault (front ++ part))) → UnlessMemory fault (HasFault fault (text ++ part))
  part_refused fault refused =
      closed_refused progress.building progress.line (length part) (text ++ part) part part fault all (subst IsClosed all closed) stands.front whole stands.read (refused stands.front stands.read)

  pub part_on : (new : Progress) → new.pending.items ≡ [] → new.line ≡ progress.line + count_by is_line_feed part
      → ((front : List ℕ) → IsFront progress.building progress.line front → IsSuiteOf (front ++ part) new.building.packages new.building.home.name) → IsProgress new (text ++ part)
  part_on new left counted suite = record {
    front = stands.front ++ part;
    whole = whole ∙ sym (append-nil (stands.front ++ part)) ∙ ap (λ more. (stands.front ++ part) ++ more) (sym left);
    read =
        subst (λ more. IsFront new.building new.line (stands.front ++ more)) (sym all)
        (closed_more progress.building new.building progress.line new.line (length part) stands.front part part all stands.read (subst IsClosed all closed) (suite stands.front stands.read) counted);
  }
