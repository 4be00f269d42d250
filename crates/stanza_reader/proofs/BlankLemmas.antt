-- A text in which the lines of some stanzas are made empty has the other stanzas.
use Rattle.std.proofs.Common.{◌≡◌, ℕ, ◌+◌, ◌<◌, ◌≤◌, suc, Bool, true, false, ◌||◌, ◌&&◌, ◌⊎◌, inl, inr, List, [], ◌∷◌, ◌++◌, length, take, drop, min, map}
use Rattle.std.proofs.{Common.{Result, Ok, Err, refl, ap, sym, ◌∙◌, subst, arith, append_assoc, length-append}, lemmas.Bool.{eqb-true, or_parts}}
use Rattle.std.proofs.{lemmas.List.{append-nil}, lemmas.List.Folds.{list_all-append, list_any-append}, Math.Bool.{or-false}}
use Rattle.std.specs.List.{concat, list_all, list_any, onto_first, position_or_len}
use Rattle.stanza_reader.specs.Blanking.{whole_lines, is_blank_whole, is_at_blank, first_flag, emptied, line_left, flags_behind, lines_left, blanked, picked}
use Rattle.stanza_reader.specs.{Blanking.{HasPicked}, Fields.{is_edge}, Lines.{Line, is_line_feed, is_blank_byte, is_blank, lines, numbered}}
use Rattle.stanza_reader.specs.Stanzas.{groups, has_line, first_group, behind_group, stanza_of, readings, with_first, all_or_fault, stanzas}
use Rattle.stanza_reader.specs.{declared.fault.StanzaFault.{StanzaFault}, declared.stanza.RawStanza.{RawStanza}}
use Rattle.stanza_reader.proofs.GroupLemmas.{groups_first}

-- the size of the first line of a text, with its line feed where it has one
abbrev pub first_size : List ℕ → ℕ
first_size text = min (position_or_len is_line_feed text + 1) (length text)

whole_step : (b : ℕ) (bs : List ℕ) (t : Bool) (n : ℕ) → is_line_feed b ≡ t → n ≡ first_size (b ∷ bs) → (0 < length bs → whole_lines bs ≡ take (first_size bs) bs ∷ whole_lines (drop (first_size bs) bs))
    → whole_lines (b ∷ bs) ≡ take n (b ∷ bs) ∷ whole_lines (drop n (b ∷ bs))
whole_step b bs true n feed is later =
    let place : position_or_len is_line_feed (b ∷ bs) ≡ 0 = rw feed refl in
    let one : n ≡ 1 = omega (arith, is, place) in
    let whole : whole_lines (b ∷ bs) ≡ (b ∷ []) ∷ whole_lines bs = rw feed refl in
    whole ∙ ap (λ k. take k (b ∷ bs) ∷ whole_lines (drop k (b ∷ bs))) (sym one)
whole_step b [] false n text is later =
    let place : position_or_len is_line_feed (b ∷ []) ≡ 1 = rw text refl in
    let one : n ≡ 1 = omega (arith, is, place) in
    let whole : whole_lines (b ∷ []) ≡ (b ∷ []) ∷ [] = rw text refl in
    whole ∙ ap (λ k. take k (b ∷ []) ∷ whole_lines (drop k (b ∷ []))) (sym one)
whole_step b (c ∷ cs) false n text is later =
    let place : position_or_len is_line_feed (b ∷ c ∷ cs) ≡ 1 + position_or_len is_line_feed (c ∷ cs) = rw text refl in
    let more : n ≡ suc (first_size (c ∷ cs)) = omega (arith, is, place) in
    let whole : whole_lines (b ∷ c ∷ cs) ≡ onto_first b (whole_lines (c ∷ cs)) = rw text refl in
    whole ∙ ap (onto_first b) (later (omega arith)) ∙ ap (λ k. take k (b ∷ c ∷ cs) ∷ whole_lines (drop k (b ∷ c ∷ cs))) (sym more)

-- the first line of a text, and the lines behind it
pub whole_first : (text : List ℕ) (n : ℕ) → 0 < length text → n ≡ first_size text → whole_lines text ≡ take n text ∷ whole_lines (drop n text)
whole_first [] n h is = absurd (omega arith)
whole_first (b ∷ bs) n h is = whole_step b bs (is_line_feed b) n refl is (λ l. whole_first bs (first_size bs) l refl)

concat_onto : (b : ℕ) (all : List (List ℕ)) → concat (onto_first b all) ≡ b ∷ concat all
concat_onto b [] = refl
concat_onto b (line ∷ more) = refl

concat_step : (b : ℕ) (bs : List ℕ) (t : Bool) → is_line_feed b ≡ t → concat (whole_lines bs) ≡ bs → concat (whole_lines (b ∷ bs)) ≡ b ∷ bs
concat_step b bs true feed later =
    let whole : whole_lines (b ∷ bs) ≡ (b ∷ []) ∷ whole_lines bs = rw feed refl in
    ap concat whole ∙ ap (λ rest. b ∷ rest) later
concat_step b bs false text later =
    let whole : whole_lines (b ∷ bs) ≡ onto_first b (whole_lines bs) = rw text refl in
    ap concat whole ∙ concat_onto b (whole_lines bs) ∙ ap (λ rest. b ∷ rest) later

-- the lines are the text
pub concat_whole : (text : List ℕ) → concat (whole_lines text) ≡ text
concat_whole [] = refl
concat_whole (b ∷ bs) = concat_step b bs (is_line_feed b) refl (concat_whole bs)

-- a line that ends with its one line feed
pub record HasFeed (line : List ℕ) : Type 0 where
  body : List ℕ
  is : line ≡ body ++ 10 ∷ []
  plain : list_any is_line_feed body ≡ false

-- a line that has a byte and no line feed
pub record IsOpen (line : List ℕ) : Type 0 where
  first : ℕ
  others : List ℕ
  is : line ≡ first ∷ others
  plain : list_any is_line_feed line ≡ false

abbrev IsLineOf : List ℕ → List (List ℕ) → Type 0
IsLineOf line more = HasFeed line ⊎ (IsOpen line × (more ≡ []))

-- each line ends with its one line feed, but for a last one that has none
abbrev AreLines : List (List ℕ) → Type 0
AreLines [] = Unit {0}
AreLines (line ∷ more) = IsLineOf line more × AreLines more

lines_onto : (b : ℕ) (all : List (List ℕ)) → is_line_feed b ≡ false → AreLines all → AreLines (onto_first b all)
lines_onto b [] text are = (inr (record { first = b; others = []; is = refl; plain = rw text refl }, refl), tt)
lines_onto b (line ∷ more) text are = (longer are.0, are.1)
  where
    longer : IsLineOf line more → IsLineOf (b ∷ line) more
    longer (inl fed) = inl (record { body = b ∷ fed.body; is = ap (λ bytes. b ∷ bytes) fed.is; plain = rw (text, fed.plain) refl })
    longer (inr o) = inr (record { first = b; others = line; is = refl; plain = rw (text, o.0.plain) refl }, o.1)

are_step : (b : ℕ) (bs : List ℕ) (t : Bool) → is_line_feed b ≡ t → AreLines (whole_lines bs) → AreLines (whole_lines (b ∷ bs))
are_step b bs true feed later =
    let byte : b ≡ 10 = eqb-true b 10 feed in
    let whole : whole_lines (b ∷ bs) ≡ (b ∷ []) ∷ whole_lines bs = rw feed refl in
    subst AreLines (sym whole) (inl (record { body = []; is = ap (λ c. c ∷ []) byte; plain = refl }), later)
are_step b bs false text later =
    let whole : whole_lines (b ∷ bs) ≡ onto_first b (whole_lines bs) = rw text refl in
    subst AreLines (sym whole) (lines_onto b (whole_lines bs) text later)

pub are_lines : (text : List ℕ) → AreLines (whole_lines text)
are_lines [] = tt
are_lines (b ∷ bs) = are_step b bs (is_line_feed b) refl (are_lines bs)

and_true : (b : Bool) → (b && true) ≡ b
and_true true = refl
and_true false = refl

lines_fed : (body rest : List ℕ) → list_any is_line_feed body ≡ false → lines (body ++ 10 ∷ rest) ≡ body ∷ lines rest
lines_fed [] rest plain = refl
lines_fed (b ∷ body) rest plain =
    let h = or_parts (is_line_feed b) (list_any is_line_feed body) plain in
    let whole : lines (b ∷ (body ++ 10 ∷ rest)) ≡ onto_first b (lines (body ++ 10 ∷ rest)) = rw h.0 refl in
    whole ∙ ap (onto_first b) (lines_fed body rest h.1)

lines_open : (b : ℕ) (bs : List ℕ) → list_any is_line_feed (b ∷ bs) ≡ false → lines (b ∷ bs) ≡ (b ∷ bs) ∷ []
lines_open b [] plain =
    let h = or_parts (is_line_feed b) false plain in rw h.0 refl
lines_open b (c ∷ cs) plain =
    let h = or_parts (is_line_feed b) (list_any is_line_feed (c ∷ cs)) plain in
    let whole : lines (b ∷ c ∷ cs) ≡ onto_first b (lines (c ∷ cs)) = rw h.0 refl in
    whole ∙ ap (onto_first b) (lines_open c cs h.1)

-- without a line feed, only spaces and tabs are blank
blank_plain : (text : List ℕ) → list_any is_line_feed text ≡ false → is_blank_whole text ≡ is_blank text
blank_plain [] plain = refl
blank_plain (b ∷ bs) plain =
    let h = or_parts (is_line_feed b) (list_any is_line_feed bs) plain in
    let edge : is_edge b ≡ is_blank_byte b = ap (λ t. is_blank_byte b || t) h.0 ∙ or-false (is_blank_byte b) in
    ap (λ t. t && is_blank_whole bs) edge ∙ ap (λ t. is_blank_byte b && t) (blank_plain bs h.1)

blank_fed : (body : List ℕ) → list_any is_line_feed body ≡ false → is_blank_whole (body ++ 10 ∷ []) ≡ is_blank body
blank_fed body plain = list_all-append is_edge body (10 ∷ []) ∙ and_true (is_blank_whole body) ∙ blank_plain body plain

no_groups : groups [] ≡ []
unfolding groups
no_groups = refl

groups_blank : (line : Line) (more : List Line) → is_blank line.text ≡ true → groups (line ∷ more) ≡ groups more
unfolding groups
groups_blank line more blank = rw blank refl

-- the lines of a text, numbered from n on
abbrev lines_from : ℕ → List ℕ → List Line
lines_from n text = numbered n (lines text)

-- The first line, with its line feed, and the text behind it: it reads as its body, and made empty it is in no group.
record IsFirst (line : List ℕ) (more : List (List ℕ)) : Type 0 where
  body : List ℕ
  blank : is_blank_whole line ≡ is_blank body
  read : (rest : List ℕ) → (more ≡ [] → rest ≡ []) → lines (line ++ rest) ≡ body ∷ lines rest
  void : (n : ℕ) (rest : List ℕ) → (more ≡ [] → rest ≡ []) → groups (lines_from n (emptied line ++ rest)) ≡ groups (lines_from (n + 1) rest)

first_fed : (line : List ℕ) (more : List (List ℕ)) → HasFeed line → IsFirst line more
first_fed line more fed = record {
  body = fed.body;
  blank = ap is_blank_whole fed.is ∙ blank_fed fed.body fed.plain;
  read = λ rest e. ap (λ bytes. lines (bytes ++ rest)) fed.is ∙ ap lines (append_assoc fed.body (10 ∷ []) rest) ∙ lines_fed fed.body rest fed.plain;
  void = λ n rest e. ap (λ bytes. groups (lines_from n (bytes ++ rest))) left ∙ groups_blank (record { number = n; text = [] }) (lines_from (n + 1) rest) refl;
}
  where
    some : list_any is_line_feed line ≡ true
    some = ap (list_any is_line_feed) fed.is ∙ list_any-append is_line_feed fed.body (10 ∷ []) ∙ rw fed.plain refl

    left : emptied line ≡ 10 ∷ []
    left = rw some refl

first_open : (line : List ℕ) (more : List (List ℕ)) → IsOpen line → more ≡ [] → IsFirst line more
first_open line more o last = record {
  body = line;
  blank = blank_plain line o.plain;
  read = λ rest e.
      ap (λ bytes. lines (line ++ bytes)) (e last) ∙ ap lines (append-nil line) ∙ ap lines o.is ∙ lines_open o.first o.others (ap (list_any is_line_feed) (sym o.is) ∙ o.plain)
      ∙ ap (λ bytes. bytes ∷ []) (sym o.is) ∙ ap (λ bytes. line ∷ lines bytes) (sym (e last));
  void = λ n rest e.
      ap (λ bytes. groups (lines_from n (bytes ++ rest))) left ∙ ap (λ bytes. groups (lines_from n bytes)) (e last) ∙ ap (λ bytes. groups (lines_from (n + 1) bytes)) (sym (e last));
}
  where
    left : emptied line ≡ []
    left = rw o.plain refl

first_of : (line : List ℕ) (more : List (List ℕ)) → IsLineOf line more → IsFirst line more
first_of line more (inl fed) = first_fed line more fed
first_of line more (inr o) = first_open line more o.0 o.1

-- whether no group begins at the front of the lines
abbrev starts_blank : List Line → Bool
starts_blank [] = true
starts_blank (line ∷ more) = is_blank line.text

at_blank : (all : List Line) → starts_blank all ≡ true → (first_group all ≡ []) × (behind_group all ≡ all)
at_blank [] blank = (refl, refl)
at_blank (line ∷ more) blank = (rw blank refl, rw blank refl)

at_group : (all : List Line) → starts_blank all ≡ false → has_line (first_group all) ≡ true
at_group [] full = cc
at_group (line ∷ more) full = rw full refl

-- a line that is not blank begins a group
begins : (line : Line) (more : List Line) → is_blank line.text ≡ false → groups (line ∷ more) ≡ (line ∷ first_group more) ∷ groups (behind_group more)
begins line more full =
    let first : first_group (line ∷ more) ≡ line ∷ first_group more = rw full refl in
    let behind : behind_group (line ∷ more) ≡ behind_group more = rw full refl in
    groups_first (line ∷ more) (ap has_line first) ∙ ap (λ group. group ∷ groups (behind_group (line ∷ more))) first ∙ ap (λ rest. (line ∷ first_group more) ∷ groups rest) behind

-- and is one where the next line is blank
alone : (line : Line) (more : List Line) → is_blank line.text ≡ false → starts_blank more ≡ true → groups (line ∷ more) ≡ (line ∷ []) ∷ groups more
alone line more full blank =
    let next = at_blank more blank in
    begins line more full ∙ ap (λ group. (line ∷ group) ∷ groups (behind_group more)) next.0 ∙ ap (λ rest. (line ∷ []) ∷ groups rest) next.1

left_ends : (flags : List Bool) (more : List (List ℕ)) → more ≡ [] → concat (lines_left flags more) ≡ []
left_ends flags more e = ap (λ all. concat (lines_left flags all)) e

-- the first line is blank as lines and as a text
starts_plain : (n : ℕ) (all : List (List ℕ)) → AreLines all → starts_blank (lines_from n (concat all)) ≡ is_at_blank all
starts_plain n [] are = refl
starts_plain n (line ∷ more) are =
    let first = first_of line more are.0 in
    ap (λ all. starts_blank (numbered n all)) (first.read (concat more) (λ e. ap concat e)) ∙ sym first.blank

-- and is so behind what is made empty, where it stays itself
starts_left : (n : ℕ) (flags : List Bool) (all : List (List ℕ)) → AreLines all → (is_at_blank all || first_flag flags) ≡ true → starts_blank (lines_from n (concat (lines_left flags all))) ≡ is_at_blank all
starts_left n flags [] are stays = refl
starts_left n flags (line ∷ more) are stays =
    let first = first_of line more are.0 in
    let rest : List ℕ = concat (lines_left (flags_behind flags line more) more) in
    let up : (is_blank_whole line || first_flag flags) ≡ true = stays in
    let left : line_left flags line ≡ line = rw up refl in
    ap (λ bytes. starts_blank (lines_from n (bytes ++ rest))) left
    ∙ ap (λ all. starts_blank (numbered n all)) (first.read rest (left_ends (flags_behind flags line more) more)) ∙ sym first.blank

picked_none : {A : Type 0} (flags : List Bool) → picked {A = A} flags [] ≡ []
picked_none [] = refl
picked_none (flag ∷ flags) = refl

-- what is left of the lines has the groups whose flags are up: a step for each way in which a line may stand
module _ (n : ℕ) (line : List ℕ) (more : List (List ℕ)) (are : AreLines (line ∷ more)) where
  head : IsFirst line more
  head = first_of line more are.0

  abbrev own : Line
  own = record { number = n; text = head.body }

  abbrev behind : List Line
  behind = lines_from (n + 1) (concat more)

  whole : lines_from n (line ++ concat more) ≡ own ∷ behind
  whole = ap (numbered n) (head.read (concat more) (λ e. ap concat e))

  module _ (flags others : List Bool) (same : flags_behind flags line more ≡ others)
      (later : groups (lines_from (n + 1) (concat (lines_left (flags_behind flags line more) more))) ≡ picked (flags_behind flags line more) (groups behind)) where
    abbrev rest : List ℕ
    rest = concat (lines_left (flags_behind flags line more) more)

    abbrev left : List Line
    left = lines_from (n + 1) rest

    later_is : groups left ≡ picked others (groups behind)
    later_is = later ∙ ap (λ fs. picked fs (groups behind)) same

    kept : line_left flags line ≡ line → groups (lines_from n (line_left flags line ++ rest)) ≡ groups (own ∷ left)
    kept stays = ap (λ bytes. groups (lines_from n (bytes ++ rest))) stays ∙ ap (λ all. groups (numbered n all)) (head.read rest (left_ends (flags_behind flags line more) more))

    gone : line_left flags line ≡ emptied line → groups (lines_from n (line_left flags line ++ rest)) ≡ picked others (groups behind)
    gone goes = ap (λ bytes. groups (lines_from n (bytes ++ rest))) goes ∙ head.void n rest (left_ends (flags_behind flags line more) more) ∙ later_is

  abbrev Step : List Bool → Type 0
  Step flags = groups (lines_from (n + 1) (concat (lines_left (flags_behind flags line more) more))) ≡ picked (flags_behind flags line more) (groups behind)
      → groups (lines_from n (concat (lines_left flags (line ∷ more)))) ≡ picked flags (groups (lines_from n (concat (line ∷ more))))

  -- a blank line
  blank_step : (flags : List Bool) → is_blank_whole line ≡ true → Step flags
  blank_step flags blank later =
      let body : is_blank own.text ≡ true = sym head.blank ∙ blank in
      let same : flags_behind flags line more ≡ flags = rw blank refl in
      let stays : line_left flags line ≡ line = rw blank refl in
      kept flags flags same later stays ∙ groups_blank own (left flags flags same later) body ∙ later_is flags flags same later
      ∙ ap (picked flags) (sym (ap groups whole ∙ groups_blank own behind body))

  -- the last line of a stanza
  last_step : (flags : List Bool) → is_blank_whole line ≡ false → is_at_blank more ≡ true → Step flags
  last_step [] full last later =
      let same : flags_behind [] line more ≡ [] = rw (full, last) refl in
      let goes : line_left [] line ≡ emptied line = rw full refl in
      gone [] [] same later goes
  last_step (false ∷ flags) full last later =
      let same : flags_behind (false ∷ flags) line more ≡ flags = rw (full, last) refl in
      let goes : line_left (false ∷ flags) line ≡ emptied line = rw full refl in
      let body : is_blank own.text ≡ false = sym head.blank ∙ full in
      gone (false ∷ flags) flags same later goes ∙ ap (picked (false ∷ flags)) (sym (ap groups whole ∙ alone own behind body (starts_plain (n + 1) more are.1 ∙ last)))
  last_step (true ∷ flags) full last later =
      let same : flags_behind (true ∷ flags) line more ≡ flags = rw (full, last) refl in
      let stays : line_left (true ∷ flags) line ≡ line = rw full refl in
      let body : is_blank own.text ≡ false = sym head.blank ∙ full in
      let next : (is_at_blank more || first_flag (flags_behind (true ∷ flags) line more)) ≡ true = rw last refl in
      let starts : starts_blank (left (true ∷ flags) flags same later) ≡ true = starts_left (n + 1) (flags_behind (true ∷ flags) line more) more are.1 next ∙ last in
      kept (true ∷ flags) flags same later stays ∙ alone own (left (true ∷ flags) flags same later) body starts ∙ ap (λ all. (own ∷ []) ∷ all) (later_is (true ∷ flags) flags same later)
      ∙ ap (picked (true ∷ flags)) (sym (ap groups whole ∙ alone own behind body (starts_plain (n + 1) more are.1 ∙ last)))

  -- another line of a stanza
  inner_step : (flags : List Bool) → is_blank_whole line ≡ false → is_at_blank more ≡ false → Step flags
  inner_step [] full last later =
      let same : flags_behind [] line more ≡ [] = rw (full, last) refl in
      let goes : line_left [] line ≡ emptied line = rw full refl in
      gone [] [] same later goes
  inner_step (false ∷ flags) full last later =
      let same : flags_behind (false ∷ flags) line more ≡ false ∷ flags = rw (full, last) refl in
      let goes : line_left (false ∷ flags) line ≡ emptied line = rw full refl in
      let body : is_blank own.text ≡ false = sym head.blank ∙ full in
      let next = groups_first behind (at_group behind (starts_plain (n + 1) more are.1 ∙ last)) in
      gone (false ∷ flags) (false ∷ flags) same later goes ∙ ap (picked (false ∷ flags)) next ∙ ap (picked (false ∷ flags)) (sym (ap groups whole ∙ begins own behind body))
  inner_step (true ∷ flags) full last later =
      let same : flags_behind (true ∷ flags) line more ≡ true ∷ flags = rw (full, last) refl in
      let stays : line_left (true ∷ flags) line ≡ line = rw full refl in
      let body : is_blank own.text ≡ false = sym head.blank ∙ full in
      let next = groups_first behind (at_group behind (starts_plain (n + 1) more are.1 ∙ last)) in
      let Z : List Line = left (true ∷ flags) (true ∷ flags) same later in
      let up : (is_at_blank more || first_flag (flags_behind (true ∷ flags) line more)) ≡ true = ap (λ fs. is_at_blank more || first_flag fs) same ∙ rw last refl in
      let starts : starts_blank Z ≡ false = starts_left (n + 1) (flags_behind (true ∷ flags) line more) more are.1 up ∙ last in
      let cut : first_group Z ∷ groups (behind_group Z) ≡ first_group behind ∷ picked flags (groups (behind_group behind)) =
      sym (groups_first Z (at_group Z starts)) ∙ later_is (true ∷ flags) (true ∷ flags) same later ∙ ap (picked (true ∷ flags)) next in
      kept (true ∷ flags) (true ∷ flags) same later stays ∙ begins own Z body ∙ ap (onto_first own) cut ∙ ap (picked (true ∷ flags)) (sym (ap groups whole ∙ begins own behind body))

  full_step : (flags : List Bool) (b : Bool) → is_at_blank more ≡ b → is_blank_whole line ≡ false → Step flags
  full_step flags true last full = last_step flags full last
  full_step flags false last full = inner_step flags full last

  one_step : (flags : List Bool) (blank : Bool) → is_blank_whole line ≡ blank → Step flags
  one_step flags true blank = blank_step flags blank
  one_step flags false full = full_step flags (is_at_blank more) refl full

pub picks : (n : ℕ) (flags : List Bool) (all : List (List ℕ)) → AreLines all → groups (lines_from n (concat (lines_left flags all))) ≡ picked flags (groups (lines_from n (concat all)))
picks n flags [] are = no_groups ∙ sym (ap (picked flags) no_groups ∙ picked_none flags)
picks n flags (line ∷ more) are = one_step n line more are flags (is_blank_whole line) refl (picks (n + 1) (flags_behind flags line more) more are.1)

pub map_picked : {A B : Type 0} (f : A → B) (flags : List Bool) (items : List A) → map f (picked flags items) ≡ picked flags (map f items)
map_picked f [] items = refl
map_picked f (flag ∷ flags) [] = refl
map_picked f (true ∷ flags) (item ∷ items) = ap (λ more. f item ∷ more) (map_picked f flags items)
map_picked f (false ∷ flags) (item ∷ items) = map_picked f flags items

-- what is left of a text reads as the stanzas, or their faults, whose flags are up
pub readings_picked : (flags : List Bool) (text : List ℕ) → readings (blanked flags text) ≡ picked flags (readings text)
unfolding readings blanked
readings_picked flags text =
    ap (map stanza_of) (picks 1 flags (whole_lines text) (are_lines text)) ∙ map_picked stanza_of flags (groups (lines_from 1 (concat (whole_lines text))))
    ∙ ap (λ bytes. picked flags (map stanza_of (groups (lines_from 1 bytes)))) (concat_whole text)

abbrev pub good : RawStanza → Result RawStanza StanzaFault
good stanza = Ok stanza

-- where no stanza has a fault, each one reads as itself
pub all_good : (all : List RawStanza) → all_or_fault (map good all) ≡ Ok all
all_good [] = refl
all_good (stanza ∷ more) = ap (with_first stanza) (all_good more)

pub good_readings : (read : List (Result RawStanza StanzaFault)) (all : List RawStanza) → all_or_fault read ≡ Ok all → read ≡ map good all
good_readings [] all e = let none : [] ≡ all = cc in ap (map good) none
good_readings (Ok stanza ∷ more) all e = go (good_readings more) (all_or_fault more) refl e
  where
    go : ((others : List RawStanza) → all_or_fault more ≡ Ok others → more ≡ map good others) → (found : Result (List RawStanza) StanzaFault) → all_or_fault more ≡ found → with_first stanza found ≡ Ok all → Ok stanza ∷ more ≡ map good all
    go later (Ok others) is h = let same : stanza ∷ others ≡ all = cc in ap (λ rest. Ok stanza ∷ rest) (later others is) ∙ ap (map good) same
    go later (Err fault) is h = absurd (let never : ⊥ = cc in never)
good_readings (Err fault ∷ more) all e = absurd (let never : ⊥ = cc in never)

pub stanzas_picked : (text : List ℕ) (flags : List Bool) → HasPicked text flags (blanked flags text)
stanzas_picked text flags = λ all e.
    ap all_or_fault (readings_picked flags text ∙ ap (picked flags) (good_readings (readings text) all e) ∙ sym (map_picked good flags all)) ∙ all_good (picked flags all)
