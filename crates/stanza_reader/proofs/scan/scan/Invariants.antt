use Rattle.std.proofs.Common.{◌≡◌, ◌-◌, ◌≤◌, ◌++◌, [], true, length, None, All}
use Rattle.stanza_reader.specs.{Note.{IsKeyed, IsMarked, LeadsTo}, Places.{CountsOn, IsPlace, lines_at}}
use Rattle.stanza_reader.specs.Stanzas.{behind_group, first_group, first_line_fault, has_line, kept_fields, repeat_fault}
use Rattle.stanza_reader.proofs.scan.scan.Given as goal

abbrev pub invariant-loop-at : goal.invariant-loop-at
invariant-loop-at l = record {
  place : IsPlace l.bytes l.at;
  onward : l.fn.at.offset ≤ l.at.offset;
  counted : CountsOn l.bytes l.fn.at l.at;
  start : l.at.offset ≡ l.fn.at.offset → has_line (first_group (lines_at l.bytes l.at)) ≡ true;
  behind : behind_group (lines_at l.bytes l.at) ≡ behind_group (lines_at l.bytes l.fn.at);
  shape : first_line_fault (first_group (lines_at l.bytes l.at)) ≡ first_line_fault (first_group (lines_at l.bytes l.fn.at));
  keys : All IsKeyed l.names.few.items;
  marks : All (IsMarked l.names.marks) l.names.few.items;
  repeat : LeadsTo l.names (first_group (lines_at l.bytes l.at)) (repeat_fault [] (first_group (lines_at l.bytes l.fn.at)));
  fields : l.names.repeat ≡ None → l.fields ++ kept_fields (first_group (lines_at l.bytes l.at)) ≡ kept_fields (first_group (lines_at l.bytes l.fn.at));
}

abbrev pub decreases-loop-at : goal.decreases-loop-at
decreases-loop-at l = length l.bytes - l.at.offset
