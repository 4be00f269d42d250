-- Texts of which no front is closed.
use Rattle.std.proofs.Common.{◌≡◌, ℕ, ◌+◌, ◌-◌, ◌<◌, ◌≤◌, true, false, ◌&&◌, ◌⊎◌, inl, inr, List, [], ◌∷◌, ◌++◌, length, take, drop, get_or, refl, sym, ap, ap₂}
use Rattle.std.proofs.{Common.{subst, ◌∙◌, append_assoc, take-append-drop, length-append, arith}, Math.Seq.{take-append-add}, lemmas.Bool.{cases_lt}}
use Rattle.std.proofs.lemmas.List.{take_at, length-take-le}
use Rattle.stanza_reader.specs.{Close.{IsClosed}, Lines.{is_line_feed}}
use Rattle.stanza_reader.proofs.PartLemmas.{closed_texts_join}
use Rattle.repo_model.specs.{Backward.{closes, is_last_blank, IsLastFeed, NoFeed}, Feeding.{IsOpen}}
use Rattle.repo_model.proofs.Closing.{closed_closes, closes_at}

-- no front that is longer than this closes
abbrev pub NoneCloses : List ℕ → ℕ → Type 0
NoneCloses text end = (n : ℕ) → end < n → n ≤ length text → closes (take n text) ≡ false

pub none_longer : (text : List ℕ) (end : ℕ) → length text ≤ end → NoneCloses text end
none_longer text end whole = λ n behind within. absurd (omega (arith, whole, behind, within))

-- nor one that is longer than a place behind which no line feed stands
pub none_before : (text : List ℕ) (place end : ℕ) → end ≤ length text → NoFeed text place end → NoneCloses text end → NoneCloses text place
none_before text place end whole bare none = λ n behind within. by n behind within (cases_lt end n)
  where
    by : (n : ℕ) → place < n → n ≤ length text → (end < n) ⊎ (n ≤ end) → closes (take n text) ≡ false
    by n behind within (inl longer) = none n longer within
    by n behind within (inr short) =
        closes_at text n (omega (arith, behind)) within
        ∙ ap (λ b. b && is_last_blank (take (n - 1) text)) (bare (n - 1) (omega (arith, behind)) (omega (arith, behind, short)))

-- nor one that is longer than the place of the last line feed, where the line before it is not blank
pub none_at : (text : List ℕ) (from place end : ℕ) → end ≤ length text → IsLastFeed text from end place → is_last_blank (take place text) ≡ false → NoneCloses text end → NoneCloses text place
none_at text from place end whole feed mute none = λ n behind within. by n behind within (cases_lt (place + 1) n)
  where
    by : (n : ℕ) → place < n → n ≤ length text → (place + 1 < n) ⊎ (n ≤ place + 1) → closes (take n text) ≡ false
    by n behind within (inl longer) = none_before text (place + 1) end whole feed.last none n longer within
    by n behind within (inr short) =
        let back : n - 1 ≡ place = omega (arith, behind, short) in
        closes_at text n (omega (arith, behind)) within ∙ ap₂ (λ b t. b && is_last_blank (take t text)) (ap (λ k. is_line_feed (get_or text k 0)) back ∙ feed.feed) back ∙ mute

-- the front up to the last line feed closes, where the line before it is blank
pub feed_closes : (text : List ℕ) (from place end : ℕ) → end ≤ length text → IsLastFeed text from end place → is_last_blank (take place text) ≡ true → closes (take (place + 1) text) ≡ true
feed_closes text from place end whole feed blank =
    let back : place + 1 - 1 ≡ place = omega arith in
    closes_at text (place + 1) (omega arith) (omega (arith, whole, feed.high))
    ∙ ap₂ (λ b t. b && is_last_blank (take t text)) (ap (λ k. is_line_feed (get_or text k 0)) back ∙ feed.feed) back ∙ blank

never : true ≡ false → ⊥
never e = cc

not_longer : (text front rest : List ℕ) (end : ℕ) → NoneCloses text end → text ≡ front ++ rest → IsClosed front → end < length front → ⊥
not_longer text front rest end none same closed longer =
    let size : length text ≡ length front + length rest = ap length same ∙ length-append front rest in
    let here : take (length front) text ≡ front = ap (take (length front)) same ∙ take_at front rest (length front) refl in
    let shut : closes (take (length front) text) ≡ true = ap closes here ∙ closed_closes front closed in
    never (sym shut ∙ none (length front) longer (omega (arith, size)))

empty_or_some : (front : List ℕ) → (front ≡ []) ⊎ (0 < length front)
empty_or_some [] = inl refl
empty_or_some (b ∷ bs) = inr (omega arith)

-- what stands behind the longest front that closes is open
pub open_behind : (text : List ℕ) (end : ℕ) → end ≤ length text → IsClosed (take end text) → NoneCloses text end → IsOpen (drop end text)
open_behind text end within closed none = record { fronts = λ front rest same shut. by front rest same shut (empty_or_some front) }
  where
    by : (front rest : List ℕ) → drop end text ≡ front ++ rest → IsClosed front → (front ≡ []) ⊎ (0 < length front) → front ≡ []
    by front rest same shut (inl empty) = empty
    by front rest same shut (inr some) =
        let cut : text ≡ (take end text ++ front) ++ rest =
        sym (take-append-drop end text) ∙ ap (λ more. take end text ++ more) same ∙ sym (append_assoc (take end text) front rest) in
        let size : length (take end text ++ front) ≡ end + length front = length-append (take end text) front ∙ ap (λ n. n + length front) (length-take-le end text within) in
        absurd (not_longer text (take end text ++ front) rest end none cut (closed_texts_join (take end text) front closed shut) (omega (arith, size, some)))

-- a text is open where a front of it is, and no longer front closes
pub open_still : (text : List ℕ) (from end : ℕ) → end ≤ from → IsOpen (take from text) → NoneCloses text end → IsOpen (drop 0 text)
open_still text from end tried before none = record { fronts = λ front rest same shut. by front rest same shut (cases_lt end (length front)) }
  where
    by : (front rest : List ℕ) → text ≡ front ++ rest → IsClosed front → (end < length front) ⊎ (length front ≤ end) → front ≡ []
    by front rest same shut (inl longer) = absurd (not_longer text front rest end none same shut longer)
    by front rest same shut (inr short) =
        let more = from - length front in
        let whole : from ≡ length front + more = omega (arith, short, tried) in
        before.fronts front (take more rest) (ap (λ n. take n text) whole ∙ ap (take (length front + more)) same ∙ take-append-add front rest more) shut

pub open_same : (held text : List ℕ) → IsOpen text → held ≡ text → IsOpen held
open_same held text h same = subst IsOpen (sym same) h
