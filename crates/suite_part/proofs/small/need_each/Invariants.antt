use Rattle.std.proofs.Common.{◌≡◌, ◌+◌, filter, length, not, take}
use Rattle.std.specs.Prelude.{count_by}
use Rattle.row_book.specs.Flags.{flag}
use Rattle.suite_part.specs.Bases.{Flags}
use Rattle.suite_part.proofs.small.need_each.Given as goal

abbrev pub invariant-loop-member : goal.invariant-loop-member
invariant-loop-member l = record {
  flags : Flags (filter (flag l.flags) (take l.member-index l.clause)) l.fn.needed l.fn.work.items l.needed l.work.items;
  count : count_by not l.needed + length l.work.items ≡ count_by not l.fn.needed + length l.fn.work.items;
}
