use Rattle.std.proofs.Common.{◌≡◌, ◌+◌, length, not, take}
use Rattle.std.specs.Prelude.{count_by}
use Rattle.suite_part.specs.Bases.{Flags}
use Rattle.suite_part.proofs.changed.put_changed.Given as goal

abbrev pub invariant-loop-number : goal.invariant-loop-number
invariant-loop-number l = record {
  flags : Flags (take l.number-index l.packages) l.fn.changed l.fn.work.items l.changed l.work.items;
  count : count_by not l.changed + length l.work.items ≡ count_by not l.fn.changed + length l.fn.work.items;
}
