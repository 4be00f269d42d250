use Rattle.std.proofs.{Common.{sym, ◌∙◌, refl, ap, arith}, lemmas.List.{drop_all}}
use Rattle.stanza_reader.specs.{Lines.{numbered, lines}, Stanzas.{first_group}}
use Rattle.stanza_reader.proofs.PlaceLemmas.{counts_on}
use Rattle.stanza_reader.proofs.ScanLemmas.{behind_more, shape_more, fields_more, fields_past, repeat_first, repeat_more, repeat_none}
use Rattle.stanza_reader.proofs.scan.scan.Goals as goal

-- nothing is found before the first line
pub loop-at-init : goal.loop-at-init
loop-at-init c = record {
  place = c.requires.place;
  onward = omega arith;
  counted = refl;
  start = λ _. c.requires.full;
  behind = refl;
  shape = refl;
  keys = c.in_ok-names.ensures.keys;
  marks = c.in_ok-names.ensures.marks;
  repeat = repeat_first _ _ c.in_ok-names.ensures.holds c.in_ok-names.ensures.repeat;
  fields = λ _. rw c.new-fields.ensures refl;
}

-- a field line whose field is not kept
pub loop-at-preserved-in_default : goal.loop-at-preserved-in_default
loop-at-preserved-in_default c =
    let held = c.loop-at.invariant in
    let next = c.next_line.ensures in
    let full = sym c.is_blank.ensures ∙ c.if-is_blank.false in
    let plain = sym c.is_continuation.ensures ∙ c.if-is_continuation.false in
    record {
      place = next.place;
      onward = omega arith;
      counted = counts_on c.args.bytes.now c.args.at c.loop-at.at c.next_line.result.1 held.counted next.counted;
      start = λ e. absurd (omega arith);
      behind = behind_more _ _ _ _ next.lines full held.behind;
      shape = shape_more _ _ _ _ next.lines full c.in-Ok.ensures.fine held.shape;
      keys = c.in_ok-note.ensures.keys;
      marks = c.in_ok-note.ensures.marks;
      repeat = repeat_more _ _ _ _ _ _ _ _ next.lines full plain (sym c.in-Ok.ensures.name) c.in_ok-note.ensures.noted held.repeat;
      fields = λ none. fields_past _ _ _ _ _ next.lines full plain (sym (sym c.in_default.is ∙ c.in_ok-field.ensures)) (held.fields (c.in_ok-note.ensures.first none));
    }

-- a field line whose field is kept
pub loop-at-preserved : goal.loop-at-preserved
loop-at-preserved c =
    let held = c.loop-at.invariant in
    let next = c.next_line.ensures in
    let full = sym c.is_blank.ensures ∙ c.if-is_blank.false in
    let plain = sym c.is_continuation.ensures ∙ c.if-is_continuation.false in
    record {
      place = next.place;
      onward = omega arith;
      counted = counts_on c.args.bytes.now c.args.at c.loop-at.at c.next_line.result.1 held.counted next.counted;
      start = λ e. absurd (omega arith);
      behind = behind_more _ _ _ _ next.lines full held.behind;
      shape = shape_more _ _ _ _ next.lines full c.in-Ok.ensures.fine held.shape;
      keys = c.in_ok-note.ensures.keys;
      marks = c.in_ok-note.ensures.marks;
      repeat = repeat_more _ _ _ _ _ _ _ _ next.lines full plain (sym c.in-Ok.ensures.name) c.in_ok-note.ensures.noted held.repeat;
      fields = λ none. fields_more _ _ _ _ _ _ _ next.lines full plain (sym (sym c.in-Some.is ∙ c.in_ok-field.ensures)) c.in_ok-push.ensures.ok (held.fields (c.in_ok-note.ensures.first none));
    }

-- no line is left
pub returns-clause-repeat : goal.returns-clause-repeat
returns-clause-repeat c =
    let bytes = c.args.bytes.now in
    let at = c.loop-at.at in
    repeat_none _ _ _ (ap (λ rest. first_group (numbered at.line (lines rest))) (drop_all at.offset bytes c.loop-at-test.false)) c.loop-at.invariant.repeat
