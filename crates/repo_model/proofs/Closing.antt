-- Texts that end with a blank line, seen from their ends.
use Rattle.std.proofs.Common.{◌≡◌, ℕ, ◌+◌, ◌-◌, ◌<◌, ◌≤◌, Bool, true, false, not, ◌&&◌, List, [], ◌∷◌, ◌++◌, length, take, get_or, reverse, refl, sym, ap}
use Rattle.std.proofs.{Common.{subst, ◌∙◌, append_assoc, arith}, lemmas.Grind.{common_steps}, lemmas.List.{reverse-append, reverse-reverse, take_more}}
use Rattle.std.proofs.lemmas.Bool.{not-true, and_from, and_parts}
use Rattle.std.specs.{Prelude.{if◌then◌else◌}, List.{before_first, list_all}}
use Rattle.relation_fields.proofs.Fronts.{list_all-reverse}
use Rattle.stanza_reader.specs.{Close.{is_ended, ends_blank, IsClosed}, Lines.{is_line_feed, is_blank_byte, is_blank, lines}}
use Rattle.stanza_reader.proofs.{LineLemmas.{cut_here, cut_later}, PartLemmas.{blank_last, ended_last, lines_parts}}
use Rattle.repo_model.specs.Backward.{closes, is_closing, is_last_blank}

is_ten : (b : ℕ) → is_line_feed b ≡ true → b ≡ 10
is_ten b e = grind (arith, common_steps)

abbrev is_plain : ℕ → Bool
is_plain b = not (is_line_feed b)

-- a text without a line feed, before one, is one line
one_line : (line : List ℕ) → list_all is_plain line ≡ true → lines (line ++ 10 ∷ []) ≡ line ∷ []
one_line [] h = refl
one_line (b ∷ bs) h =
    let e = not-true (is_line_feed b) ((and_parts (is_plain b) (list_all is_plain bs) h).0) in
    rw (e, one_line bs ((and_parts (is_plain b) (list_all is_plain bs) h).1)) refl

-- what stands before the first line feed has none
plain_step : (b : ℕ) (bs : List ℕ) (t : Bool) → is_line_feed b ≡ t → list_all is_plain (before_first is_line_feed bs) ≡ true → list_all is_plain (before_first is_line_feed (b ∷ bs)) ≡ true
plain_step b bs true e h = ap (list_all is_plain) (cut_here is_line_feed b bs e).0
plain_step b bs false e h =
    ap (list_all is_plain) (cut_later is_line_feed b bs e).0 ∙ and_from (is_plain b) (list_all is_plain (before_first is_line_feed bs)) (ap not e) h

plain_front : (bs : List ℕ) → list_all is_plain (before_first is_line_feed bs) ≡ true
plain_front [] = refl
plain_front (b ∷ bs) = plain_step b bs (is_line_feed b) refl (plain_front bs)

-- what stands before the last line, read from the end
record Rest (bs : List ℕ) : Type 0 where
  behind : List ℕ
  whole : bs ≡ before_first is_line_feed bs ++ behind
  ended : is_ended (reverse behind) ≡ true

rest_step : (b : ℕ) (bs : List ℕ) (t : Bool) → is_line_feed b ≡ t → Rest bs → Rest (b ∷ bs)
rest_step b bs true e later = record {
  behind = b ∷ bs;
  whole = rw (cut_here is_line_feed b bs e).0 refl;
  ended = ap is_ended (reverse-append (b ∷ []) bs) ∙ ended_last (reverse bs) b [] ∙ e;
}
rest_step b bs false e later = record {
  behind = later.behind;
  whole = rw (cut_later is_line_feed b bs e).0 (ap (λ all. b ∷ all) later.whole);
  ended = later.ended;
}

rest_of : (bs : List ℕ) → Rest bs
rest_of [] = record { behind = []; whole = refl; ended = refl }
rest_of (b ∷ bs) = rest_step b bs (is_line_feed b) refl (rest_of bs)

-- whether the last line ends
ended_is : (b : ℕ) (bs : List ℕ) → is_ended (reverse (b ∷ bs)) ≡ is_line_feed b
ended_is b bs = ap is_ended (reverse-append (b ∷ []) bs) ∙ ended_last (reverse bs) b []

-- the last line of a text that ends with a line feed, read from the end
last_line : (b : ℕ) (bs : List ℕ) → is_line_feed b ≡ true → ends_blank (lines (reverse (b ∷ bs))) ≡ is_blank (before_first is_line_feed bs)
last_line b bs feed =
    let r = rest_of bs in
    let last = reverse (before_first is_line_feed bs) in
    let plain : list_all is_plain last ≡ true = list_all-reverse is_plain (before_first is_line_feed bs) ∙ plain_front bs in
    let text : reverse bs ≡ reverse r.behind ++ last = ap reverse r.whole ∙ reverse-append (before_first is_line_feed bs) r.behind in
    let all : reverse (b ∷ bs) ≡ reverse r.behind ++ (last ++ 10 ∷ []) =
    reverse-append (b ∷ []) bs ∙ ap (λ front. front ++ b ∷ []) text ∙ append_assoc (reverse r.behind) last (b ∷ []) ∙ ap (λ c. reverse r.behind ++ (last ++ c ∷ [])) (is_ten b feed) in
    let each : lines (reverse (b ∷ bs)) ≡ lines (reverse r.behind) ++ last ∷ [] =
    ap lines all ∙ lines_parts (reverse r.behind) (last ++ 10 ∷ []) r.ended ∙ ap (λ more. lines (reverse r.behind) ++ more) (one_line last plain) in
    ap ends_blank each ∙ blank_last (lines (reverse r.behind)) last [] ∙ list_all-reverse is_blank_byte (before_first is_line_feed bs)

closed_from : (b : ℕ) (bs : List ℕ) → is_closing (b ∷ bs) ≡ true → IsClosed (reverse (b ∷ bs))
closed_from b bs h =
    let blank = is_blank (before_first is_line_feed bs) in
    let feed : is_line_feed b ≡ true = (and_parts (is_line_feed b) blank h).0 in
    record { ended = ended_is b bs ∙ feed; blank = last_line b bs feed ∙ (and_parts (is_line_feed b) blank h).1 }

closing_from : (b : ℕ) (bs : List ℕ) → IsClosed (reverse (b ∷ bs)) → is_closing (b ∷ bs) ≡ true
closing_from b bs closed =
    let feed : is_line_feed b ≡ true = sym (ended_is b bs) ∙ closed.ended in
    and_from (is_line_feed b) (is_blank (before_first is_line_feed bs)) feed (sym (last_line b bs feed) ∙ closed.blank)

closed_by : (back text : List ℕ) → reverse back ≡ text → is_closing back ≡ true → IsClosed text
closed_by [] text e h = subst IsClosed e (record { ended = refl; blank = refl })
closed_by (b ∷ bs) text e h = subst IsClosed e (closed_from b bs h)

closing_by : (back text : List ℕ) → reverse back ≡ text → IsClosed text → is_closing back ≡ true
closing_by [] text e closed = refl
closing_by (b ∷ bs) text e closed = closing_from b bs (subst IsClosed (sym e) closed)

pub closes_closed : (text : List ℕ) → closes text ≡ true → IsClosed text
closes_closed text h = closed_by (reverse text) text (reverse-reverse text) h

pub closed_closes : (text : List ℕ) → IsClosed text → closes text ≡ true
closed_closes text closed = closing_by (reverse text) text (reverse-reverse text) closed

pub closed-nil : IsClosed []
closed-nil = record { ended = refl; blank = refl }

-- the last line, byte by byte from the end
pub last_blank-push : (front : List ℕ) (b : ℕ) → is_last_blank (front ++ b ∷ []) ≡ (if is_line_feed b then true else is_blank_byte b && is_last_blank front)
last_blank-push front b = ap (λ back. is_blank (before_first is_line_feed back)) (reverse-append front (b ∷ [])) ∙ by (is_line_feed b) refl
  where
    by : (t : Bool) → is_line_feed b ≡ t → is_blank (before_first is_line_feed (b ∷ reverse front)) ≡ (if t then true else is_blank_byte b && is_last_blank front)
    by true e = rw (cut_here is_line_feed b (reverse front) e).0 refl
    by false e = rw (cut_later is_line_feed b (reverse front) e).0 refl

-- the front of a text by its last byte
front_push : (text : List ℕ) (n : ℕ) → 0 < n → n ≤ length text → take n text ≡ take (n - 1) text ++ get_or text (n - 1) 0 ∷ []
front_push text n some within =
    let back : n - 1 + 1 ≡ n = omega (arith, some) in
    ap (λ m. take m text) (sym back) ∙ take_more text (n - 1) 0 (omega (arith, some, within))

pub last_blank-at : (text : List ℕ) (n : ℕ) → 0 < n → n ≤ length text
    → is_last_blank (take n text) ≡ (if is_line_feed (get_or text (n - 1) 0) then true else is_blank_byte (get_or text (n - 1) 0) && is_last_blank (take (n - 1) text))
last_blank-at text n some within = ap is_last_blank (front_push text n some within) ∙ last_blank-push (take (n - 1) text) (get_or text (n - 1) 0)

pub blank_stops : (text whole : List ℕ) (n : ℕ) → 0 < n → n ≤ length text → is_line_feed (get_or text (n - 1) 0) ≡ false → is_blank_byte (get_or text (n - 1) 0) ≡ false
    → is_last_blank (take n text) ≡ is_last_blank whole → false ≡ is_last_blank whole
blank_stops text whole n some within feed blank same = sym (last_blank-at text n some within ∙ rw (feed, blank) refl) ∙ same

pub blank_goes : (text whole : List ℕ) (n : ℕ) → 0 < n → n ≤ length text → is_line_feed (get_or text (n - 1) 0) ≡ false → is_blank_byte (get_or text (n - 1) 0) ≡ true
    → is_last_blank (take n text) ≡ is_last_blank whole → is_last_blank (take (n - 1) text) ≡ is_last_blank whole
blank_goes text whole n some within feed blank same = sym (last_blank-at text n some within ∙ rw (feed, blank) refl) ∙ same

-- whether a front closes, by its last byte
pub closes_at : (text : List ℕ) (n : ℕ) → 0 < n → n ≤ length text → closes (take n text) ≡ (is_line_feed (get_or text (n - 1) 0) && is_last_blank (take (n - 1) text))
closes_at text n some within =
    ap closes (front_push text n some within) ∙ ap is_closing (reverse-append (take (n - 1) text) (get_or text (n - 1) 0 ∷ []))
