-- What a run read and printed, by how its course ended.
use Rattle.std.proofs.Common.{◌≡◌, ℕ, Bool, true, List, [], ◌∷◌, ◌++◌, take, drop, Option, Some, None, refl, sym, ap, subst, ◌∙◌, append_assoc, append-nil}
use Rattle.std.proofs.Common.{take-append-drop}
use Rattle.std.specs.Prelude.{IfSome}
use Rattle.byte_flow.specs.{Flow.{FileIs, Files}, History.{OpenedFile, noted, with_more}, Models.{ShelfModel, SinkModel}}
use Rattle.byte_flow.specs.Transfer.{HandsOver, Reached, Sent, begun, piece_size, read_on, sent_on, started}
use Rattle.coinst_run.specs.{Answer.{Answer}, Course.{Course, answers}}
use Rattle.coinst_run.specs.Follows.{Follows, WasRead, at_its_end, behind_a_text, at_an_unread_file, at_a_long_file, without_memory, without_memory_for_a_file}
use Rattle.coinst_run.specs.{Outcome.{GivesAnswer, Outcome, answered, at_once, by_text, too_long}, Readings.{AreOf, HasRead, no_file, a_file}}

-- a course that ended at an answer: what it read, and that it leads from these texts to this answer
pub record LedTo {S : Type 0} (M : ShelfModel S) (course : Course) (old new : S) (answer : Answer) : Type 0 where
  pub readings : List OpenedFile
  pub was_read : HasRead M old readings new
  pub told : IfSome (M.contents old) (λ files. AreOf files readings)
  pub gives : GivesAnswer course readings answer

-- the text is the file's where the contents are told
told_both : (before after : Option Files) (path text : List ℕ) (readings : List OpenedFile) → after ≡ before → FileIs before path text → IfSome after (λ files. AreOf files readings) →
    IfSome before (λ files. AreOf files ((path, text) ∷ readings))
told_both None after path text readings same is rest = tt
told_both (Some files) after path text readings same is rest = (is, subst (λ (o : Option Files). IfSome o (λ files. AreOf files readings)) same rest)

nothing_told : (told : Option Files) → IfSome told (λ files. AreOf files [])
nothing_told None = tt
nothing_told (Some files) = tt

module _ {S : Type 0} {M : ShelfModel S} where
  pub led_to : {course : Course} {s u : S} {ending : Option Outcome} (answer : Answer) → ((path : List ℕ) → too_long path ≡ answer → ⊥) → Follows M course s ending u →
      ending ≡ Some (answered answer) → LedTo M course s u answer
  led_to answer short (at_its_end said s) e = let same : said ≡ answer = cc in record { readings = []; was_read = no_file s; told = nothing_told (M.contents s); gives = subst (λ a. GivesAnswer (answers said) [] a) same (at_once said) }
  led_to answer short (behind_a_text path text next s t u ending w f) e =
      let rest : LedTo M (next text) t u answer = led_to answer short f e in
      record {
        readings = (path, text) ∷ rest.readings;
        was_read = a_file path text rest.readings s t u w.calls rest.was_read;
        told = told_both (M.contents s) (M.contents t) path text rest.readings w.same w.told rest.told;
        gives = by_text path text next rest.readings answer w.calls.within rest.gives;
      }
  led_to answer short (at_an_unread_file path next s t w) e = absurd cc
  led_to answer short (at_a_long_file path next s t w) e = absurd (short path cc)
  led_to answer short (without_memory course s) e = absurd cc
  led_to answer short (without_memory_for_a_file path next s t w) e = absurd cc

-- what a history notes of the readings
module _ {S : Type 0} {M : ShelfModel S} (handed : S → List OpenedFile)
    (starts : (s t : S) (path : List ℕ) → M.start_gives s path true t → handed t ≡ (path, []) ∷ handed s)
    (gives : (s t : S) (asked : ℕ) (bytes : List ℕ) → M.read_gives s asked (Some bytes) t → handed t ≡ with_more bytes (handed s)) where
  reached_noted : {old : S} {path text : List ℕ} {s : S} → Reached M old path text s → handed s ≡ (path, text) ∷ handed old
  reached_noted {old} {path} {s = s} (started is) = starts old s path is
  reached_noted (read_on {bytes = bytes} {s = s} {t = t} before is some) = gives s t piece_size bytes is ∙ ap (with_more bytes) (reached_noted before)

  pub reading_noted : {old new : S} {path text : List ℕ} {limit : ℕ} → HandsOver M old path limit text new → handed new ≡ (path, text) ∷ handed old
  reading_noted {old} {new} {path} {text} h =
      gives h.before new piece_size [] h.last ∙ ap (with_more []) (reached_noted h.reached) ∙ ap (λ t. (path, t) ∷ handed old) (append-nil text)

  pub readings_noted : {old new : S} {readings : List OpenedFile} → HasRead M old readings new → handed new ≡ noted readings (handed old)
  readings_noted (no_file s) = refl
  readings_noted (a_file path text readings s t u one rest) = readings_noted rest ∙ ap (noted readings) (reading_noted one)

-- what a history notes of a writing
module _ {O : Type 0} {N : SinkModel O} (passed_on : O → List ℕ)
    (takes : (s t : O) (piece : List ℕ) (n : ℕ) → N.write_gives s piece (Some n) t → passed_on t ≡ passed_on s ++ take n piece) where
  sent_noted : {old : O} {bytes : List ℕ} {new : O} {left : List ℕ} → Sent N old bytes new left → passed_on new ++ left ≡ passed_on old ++ bytes
  sent_noted begun = refl
  sent_noted (sent_on {s = s} {t = t} {left = left} {n = n} before is some) =
      ap (λ bs. bs ++ drop n left) (takes s t left n is) ∙ append_assoc (passed_on s) (take n left) (drop n left) ∙ ap (λ bs. passed_on s ++ bs) (take-append-drop n left) ∙ sent_noted before

  pub writing_noted : {old new : O} {bytes : List ℕ} → Sent N old bytes new [] → passed_on new ≡ passed_on old ++ bytes
  writing_noted {new = new} sent = sym (append-nil (passed_on new)) ∙ sent_noted sent
