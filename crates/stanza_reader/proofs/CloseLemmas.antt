-- The front of a text that is closed by the first blank line behind a group of lines.
use Rattle.std.proofs.Common.{◌≡◌, ℕ, ◌+◌, ◌-◌, ◌<◌, ◌≤◌, Bool, true, false, ◌&&◌, ◌||◌, List, [], ◌∷◌, ◌++◌, length, take, drop, get_or, refl, ap, sym, ◌∙◌}
use Rattle.std.proofs.{Common.{subst, arith, append_assoc}, lemmas.Grind.{take_at_read}}
use Rattle.std.proofs.lemmas.List.{append_cancel_right, drop_all, length-drop, length-map, take-append-drop, take_all}
use Rattle.std.proofs.{lemmas.List.Sums.{prefix_len-le-length}, lemmas.Bool.{eqb-true, and_parts, or_parts}}
use Rattle.std.specs.List.{list_all, list_any, position_or_len, before_first, after_first}
use Rattle.stanza_reader.specs.{Lines.{Line, is_line_feed, is_blank_byte, is_blank, lines, numbered}, Places.{lines_at}}
use Rattle.stanza_reader.specs.Stanzas.{groups, has_line, first_group, behind_blank, behind_group, stanza_of, texts}
use Rattle.stanza_reader.specs.{Close.{is_ended, ends_blank, IsClosedFront, ClosedFrontIsClosed, ClosedFrontIsOne, readings_from}, declared.place.Place.{Place}}
use Rattle.stanza_reader.proofs.{GroupLemmas.{groups-behind_blank, groups_first}, LineLemmas.{lines_first}}
use Rattle.stanza_reader.proofs.{PartLemmas.{first_line, lines_parts, blank_last, ended_last}, PlaceLemmas.{end_from, lines_at_feed}}

pub texts_numbered : (n : ℕ) (all : List (List ℕ)) → texts (numbered n all) ≡ all
texts_numbered n [] = refl
texts_numbered n (line ∷ more) = ap (λ rest. line ∷ rest) (texts_numbered (n + 1) more)

-- the blank lines at the front, and those behind them
record Skipped (all : List Line) : Type 0 where
  blanks : List (List ℕ)
  is : texts all ≡ blanks ++ texts (behind_blank all)
  each : list_all is_blank blanks ≡ true

skip_step : (line : Line) (more : List Line) (t : Bool) → is_blank line.text ≡ t → Skipped more → Skipped (line ∷ more)
skip_step line more true blank later = record { blanks = line.text ∷ later.blanks; is = rw (blank, ← later.is) refl; each = rw (blank, later.each) refl }
skip_step line more false full later = record { blanks = []; is = rw full refl; each = refl }

skipped_of : (all : List Line) → Skipped all
skipped_of [] = record { blanks = []; is = refl; each = refl }
skipped_of (line ∷ more) = skip_step line more (is_blank line.text) refl (skipped_of more)

-- the lines at the front that are not blank, and those behind them
record Grouped (all : List Line) : Type 0 where
  is : texts all ≡ texts (first_group all) ++ texts (behind_group all)
  none : list_any is_blank (texts (first_group all)) ≡ false

group_step : (line : Line) (more : List Line) (t : Bool) → is_blank line.text ≡ t → Grouped more → Grouped (line ∷ more)
group_step line more true blank later = record { is = rw blank refl; none = rw blank refl }
group_step line more false full later =
    let group : first_group (line ∷ more) ≡ line ∷ first_group more = rw full refl in
    let none : list_any is_blank (line.text ∷ texts (first_group more)) ≡ false = rw full later.none in
    record { is = rw (full, ← later.is) refl; none = ap (λ all. list_any is_blank (texts all)) group ∙ none }

grouped_of : (all : List Line) → Grouped all
grouped_of [] = record { is = refl; none = refl }
grouped_of (line ∷ more) = group_step line more (is_blank line.text) refl (grouped_of more)

-- a group with a line has a first one
record HasFirstText (group : List Line) : Type 0 where
  first : List ℕ
  others : List (List ℕ)
  is : texts group ≡ first ∷ others

first_text : (group : List Line) → has_line group ≡ true → HasFirstText group
first_text [] some = let never : false ≡ true = some in cc
first_text (line ∷ more) some = record { first = line.text; others = texts more; is = refl }

behind_step : (line : Line) (more : List Line) (next : Line) (rest : List Line) (t : Bool) → is_blank line.text ≡ t → behind_group (line ∷ more) ≡ next ∷ rest → (behind_group more ≡ next ∷ rest → is_blank next.text ≡ true) → is_blank next.text ≡ true
behind_step line more next rest true blank is later =
    let here : line ∷ more ≡ next ∷ rest = rw blank at is in
    let same : line ≡ next = cc in
    rw (← same) blank
behind_step line more next rest false full is later = later (rw full at is)

-- the line behind a group is blank
behind_is_blank : (all : List Line) (next : Line) (rest : List Line) → behind_group all ≡ next ∷ rest → is_blank next.text ≡ true
behind_is_blank [] next rest is = cc
behind_is_blank (line ∷ more) next rest is = behind_step line more next rest (is_blank line.text) refl is (behind_is_blank more next rest)

ended_feed : (front : List ℕ) (b : ℕ) → is_line_feed b ≡ true → is_ended (front ++ b ∷ []) ≡ true
ended_feed front b feed = ended_last front b [] ∙ feed

-- a blank line behind the first group that ends with a line feed closes the front
pub front_closed : (bytes : List ℕ) (start after : Place) (stop : ℕ) → lines_at bytes start ≡ behind_blank (lines_at bytes record { offset = 0; line = 1 }) → has_line (first_group (lines_at bytes start)) ≡ true
    → lines_at bytes after ≡ behind_group (lines_at bytes start) → after.offset < length bytes → stop ≡ end_from bytes after.offset → stop < length bytes → is_line_feed (get_or bytes stop 0) ≡ true
    → IsClosedFront bytes (stop + 1)
front_closed bytes start after stop skipped full behind some is more feed =
    let last : List ℕ = take (stop - after.offset) (drop after.offset bytes) in
    let rest : List ℕ = drop (stop + 1) bytes in
    let front : List ℕ = take (stop + 1) bytes in
    let read : front ≡ take stop bytes ++ get_or bytes stop 0 ∷ [] = (take_at_read bytes stop 0 more).1 in
    let ended : is_ended front ≡ true = ap is_ended read ∙ ended_feed (take stop bytes) (get_or bytes stop 0) feed in
    let next : lines_at bytes after ≡ record { number = after.line; text = last } ∷ lines_at bytes record { offset = stop + 1; line = after.line + 1 } = lines_at_feed bytes after stop some is in
    let blank : is_blank last ≡ true = behind_is_blank (lines_at bytes start) record { number = after.line; text = last } _ (sym behind ∙ next) in
    let s = skipped_of (lines_at bytes record { offset = 0; line = 1 }) in
    let g = grouped_of (lines_at bytes start) in
    let f = first_text (first_group (lines_at bytes start)) full in
    let group : List (List ℕ) = f.first ∷ f.others in
    let tail : texts (lines_at bytes after) ≡ last ∷ lines rest = ap texts next ∙ ap (λ all. last ∷ all) (texts_numbered (after.line + 1) (lines rest)) in
    let middle : texts (lines_at bytes start) ≡ group ++ (last ∷ lines rest) =
    g.is ∙ ap (λ all. all ++ texts (behind_group (lines_at bytes start))) f.is ∙ ap (λ all. group ++ texts all) (sym behind) ∙ ap (λ all. group ++ all) tail in
    let whole : lines bytes ≡ s.blanks ++ (group ++ (last ∷ lines rest)) =
    sym (texts_numbered 1 (lines bytes)) ∙ s.is ∙ ap (λ all. s.blanks ++ texts all) (sym skipped) ∙ ap (λ all. s.blanks ++ all) middle in
    let parts : lines bytes ≡ lines front ++ lines rest = ap lines (sym (take-append-drop (stop + 1) bytes)) ∙ lines_parts front rest ended in
    let joined : (s.blanks ++ (group ++ last ∷ [])) ++ lines rest ≡ s.blanks ++ (group ++ (last ∷ lines rest)) =
    append_assoc s.blanks (group ++ last ∷ []) (lines rest) ∙ ap (λ all. s.blanks ++ all) (append_assoc group (last ∷ []) (lines rest)) in
    record {
      within = omega arith;
      ended = ended;
      blanks = s.blanks;
      first = f.first;
      others = f.others;
      last = last;
      cut = append_cancel_right (lines front) (s.blanks ++ (group ++ last ∷ [])) (lines rest) (sym parts ∙ whole ∙ sym joined);
      skipped = s.each;
      full = ap (list_any is_blank) (sym f.is) ∙ g.none;
      blank = blank;
    }

-- numbered lines behind others
record Numbered (all : List Line) (left : List (List ℕ)) : Type 0 where
  number : ℕ
  is : all ≡ numbered number left

past_blanks : (n : ℕ) (blanks : List (List ℕ)) (line : List ℕ) (more : List (List ℕ)) → list_all is_blank blanks ≡ true → is_blank line ≡ false → Numbered (behind_blank (numbered n (blanks ++ line ∷ more))) (line ∷ more)
past_blanks n [] line more each full = record { number = n; is = rw full refl }
past_blanks n (blank ∷ blanks) line more each full =
    let h = and_parts (is_blank blank) (list_all is_blank blanks) each in
    let later = past_blanks (n + 1) blanks line more h.1 full in
    let here : behind_blank (numbered n (blank ∷ (blanks ++ line ∷ more))) ≡ behind_blank (numbered (n + 1) (blanks ++ line ∷ more)) = rw h.0 refl in
    record { number = later.number; is = here ∙ later.is }

past_group : (n : ℕ) (group : List (List ℕ)) (last : List ℕ) (more : List (List ℕ)) → list_any is_blank group ≡ false → is_blank last ≡ true → Numbered (behind_group (numbered n (group ++ last ∷ more))) (last ∷ more)
past_group n [] last more none blank = record { number = n; is = rw blank refl }
past_group n (line ∷ group) last more none blank =
    let h = or_parts (is_blank line) (list_any is_blank group) none in
    let later = past_group (n + 1) group last more h.1 blank in
    let here : behind_group (numbered n (line ∷ (group ++ last ∷ more))) ≡ behind_group (numbered (n + 1) (group ++ last ∷ more)) = rw h.0 refl in
    record { number = later.number; is = here ∙ later.is }

-- a text without a line feed is one line
one_line : (text : List ℕ) → 0 < length text → position_or_len is_line_feed text ≡ length text → lines text ≡ text ∷ []
one_line text some none =
    let front : before_first is_line_feed text ≡ text = ap (λ n. take n text) none ∙ take_all (length text) text (omega arith) in
    let back : after_first is_line_feed text ≡ [] = ap (λ n. drop (n + 1) text) none ∙ drop_all (length text + 1) text (omega arith) in
    lines_first text some ∙ rw (front, back) refl

no_lines : (text : List ℕ) → lines text ≡ [] → text ≡ []
no_lines [] none = refl
no_lines (b ∷ bs) none = let some = first_line b bs in let never : [] ≡ some.first ∷ some.more = sym none ∙ some.is in cc

feed_or_blank : (b : ℕ) (t : Bool) → is_line_feed b ≡ t → is_blank_byte b ≡ true → is_line_feed b ≡ false
feed_or_blank b true feed blank =
    let is : b ≡ 10 = eqb-true b 10 feed in
    let never : false ≡ true = subst (λ x. is_blank_byte x ≡ true) is blank in
    cc
feed_or_blank b false text blank = text

feed_is_not_blank : (b : ℕ) → is_blank_byte b ≡ true → is_line_feed b ≡ false
feed_is_not_blank b blank = feed_or_blank b (is_line_feed b) refl blank

-- a blank line with a byte does not end with a line feed
blank_not_ended : (b : ℕ) (bs : List ℕ) → is_blank (b ∷ bs) ≡ true → is_ended (b ∷ bs) ≡ false
blank_not_ended b [] blank = feed_is_not_blank b (and_parts (is_blank_byte b) true blank).0
blank_not_ended b (c ∷ more) blank = blank_not_ended c more (and_parts (is_blank_byte b) (is_blank (c ∷ more)) blank).1

-- where the last line has no line feed, it is not the blank line of a closed front
none_tail : (front tail last rest : List ℕ) → lines tail ≡ last ∷ lines rest → position_or_len is_line_feed tail ≡ length tail → is_blank last ≡ true → (rest ≡ []) × (is_ended (front ++ tail) ≡ false)
none_tail front [] last rest is none blank = cc
none_tail front (b ∷ bs) last rest is none blank =
    let whole : (b ∷ bs) ∷ [] ≡ last ∷ lines rest = sym (one_line (b ∷ bs) (omega arith) none) ∙ is in
    let same : last ≡ b ∷ bs = cc in
    let left : lines rest ≡ [] = cc in
    (no_lines rest left, ended_last front b bs ∙ blank_not_ended b bs (ap is_blank (sym same) ∙ blank))

-- no front is closed where no line feed stands behind the first group, or behind the blank line there
pub none_closed : (bytes : List ℕ) (start after : Place) (stop : ℕ) → lines_at bytes start ≡ behind_blank (lines_at bytes record { offset = 0; line = 1 }) → lines_at bytes after ≡ behind_group (lines_at bytes start)
    → after.offset ≤ length bytes → stop ≡ end_from bytes after.offset → length bytes ≤ stop → (n : ℕ) → IsClosedFront bytes n → ⊥
none_closed bytes start after stop skipped behind within is most n c =
    let rest : List ℕ = drop n bytes in
    let tail : List ℕ = drop after.offset bytes in
    let group : List (List ℕ) = c.first ∷ c.others in
    let joined : (c.blanks ++ (group ++ c.last ∷ [])) ++ lines rest ≡ c.blanks ++ (group ++ (c.last ∷ lines rest)) =
    append_assoc c.blanks (group ++ c.last ∷ []) (lines rest) ∙ ap (λ all. c.blanks ++ all) (append_assoc group (c.last ∷ []) (lines rest)) in
    let parts : lines bytes ≡ c.blanks ++ (group ++ (c.last ∷ lines rest)) =
    ap lines (sym (take-append-drop n bytes)) ∙ lines_parts (take n bytes) rest c.ended ∙ ap (λ front. front ++ lines rest) c.cut ∙ joined in
    let b = past_blanks 1 c.blanks c.first (c.others ++ (c.last ∷ lines rest)) c.skipped (or_parts (is_blank c.first) (list_any is_blank c.others) c.full).0 in
    let at_start : lines_at bytes start ≡ numbered b.number (group ++ (c.last ∷ lines rest)) = skipped ∙ ap (λ all. behind_blank (numbered 1 all)) parts ∙ b.is in
    let g = past_group b.number group c.last (lines rest) c.full c.blank in
    let at_after : lines_at bytes after ≡ numbered g.number (c.last ∷ lines rest) = behind ∙ ap behind_group at_start ∙ g.is in
    let left : lines tail ≡ c.last ∷ lines rest = sym (texts_numbered after.line (lines tail)) ∙ ap texts at_after ∙ texts_numbered g.number (c.last ∷ lines rest) in
    let low : position_or_len is_line_feed tail ≤ length tail = prefix_len-le-length _ tail in
    let none : position_or_len is_line_feed tail ≡ length tail = omega (arith, length-drop after.offset bytes, low, is, most, within) in
    let found = none_tail (take after.offset bytes) tail c.last rest left none c.blank in
    let size : length rest ≡ 0 = ap length found.0 in
    let all : take n bytes ≡ bytes = take_all n bytes (omega (arith, size, length-drop n bytes)) in
    let ended : is_ended bytes ≡ true = ap is_ended (sym all) ∙ c.ended in
    let never : is_ended bytes ≡ false = ap is_ended (sym (take-append-drop after.offset bytes)) ∙ found.1 in
    cc

-- the closed front of a text is closed
pub closed_front_is_closed : ClosedFrontIsClosed
closed_front_is_closed bytes n c = record {
  ended = c.ended;
  blank = ap ends_blank (c.cut ∙ sym (append_assoc c.blanks (c.first ∷ c.others) (c.last ∷ []))) ∙ blank_last (c.blanks ++ (c.first ∷ c.others)) c.last [] ∙ c.blank;
}

blank_alone : (n : ℕ) (last : List ℕ) → is_blank last ≡ true → groups (numbered n (last ∷ [])) ≡ []
unfolding groups
blank_alone n last blank = rw blank refl

has_first : (n : ℕ) (first : List ℕ) (more : List (List ℕ)) → is_blank first ≡ false → has_line (first_group (numbered n (first ∷ more))) ≡ true
has_first n first more text = rw text refl

-- the closed front of a text has one group
one_group : (n : ℕ) (blanks : List (List ℕ)) (first : List ℕ) (others : List (List ℕ)) (last : List ℕ) → list_all is_blank blanks ≡ true → list_any is_blank (first ∷ others) ≡ false → is_blank last ≡ true
    → length (groups (numbered n (blanks ++ ((first ∷ others) ++ last ∷ [])))) ≡ 1
one_group n blanks first others last skipped full blank =
    let text = (or_parts (is_blank first) (list_any is_blank others) full).0 in
    let b = past_blanks n blanks first (others ++ last ∷ []) skipped text in
    let g = past_group b.number (first ∷ others) last [] full blank in
    let left : List Line = numbered b.number ((first ∷ others) ++ last ∷ []) in
    let some : has_line (first_group left) ≡ true = has_first b.number first (others ++ last ∷ []) text in
    let whole : groups (numbered n (blanks ++ ((first ∷ others) ++ last ∷ []))) ≡ first_group left ∷ [] =
    sym (groups-behind_blank (numbered n (blanks ++ ((first ∷ others) ++ last ∷ [])))) ∙ ap groups b.is ∙ groups_first left some ∙ ap (λ more. first_group left ∷ more) (ap groups g.is ∙ blank_alone g.number last blank) in
    ap length whole

pub closed_front_is_one : ClosedFrontIsOne
unfolding readings_from
closed_front_is_one number bytes n c =
    length-map (groups (numbered number (lines (take n bytes)))) stanza_of ∙ ap (λ all. length (groups (numbered number all))) c.cut ∙ one_group number c.blanks c.first c.others c.last c.skipped c.full c.blank
