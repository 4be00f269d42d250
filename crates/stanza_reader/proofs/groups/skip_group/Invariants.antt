use Rattle.std.proofs.Common.{◌≡◌, ◌-◌, ◌≤◌, length}
use Rattle.stanza_reader.specs.{Places.{IsPlace, lines_at}, Stanzas.{behind_group}}
use Rattle.stanza_reader.proofs.groups.skip_group.Given as goal

abbrev pub invariant-loop-next : goal.invariant-loop-next
invariant-loop-next l = record {
  place : IsPlace l.bytes l.next;
  onward : l.fn.at.offset ≤ l.next.offset;
  left : behind_group (lines_at l.bytes l.next) ≡ behind_group (lines_at l.bytes l.fn.at);
}

abbrev pub decreases-loop-next : goal.decreases-loop-next
decreases-loop-next l = length l.bytes - l.next.offset
