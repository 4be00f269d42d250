use Rattle.std.proofs.Common.{◌≡◌, ◌+◌, length, not, take}
use Rattle.std.specs.Prelude.{count_by}
use Rattle.clause_pool.specs.Interned.{clauses_at}
use Rattle.suite_part.specs.{Bases.{Flags}, Small.{members_in}}
use Rattle.suite_part.proofs.small.need_members.Given as goal

abbrev pub invariant-loop-id : goal.invariant-loop-id
invariant-loop-id l = record {
  flags : Flags (members_in l.flags (clauses_at l.from (take l.id-index l.row))) l.fn.needed l.fn.work.items l.needed l.work.items;
  count : count_by not l.needed + length l.work.items ≡ count_by not l.fn.needed + length l.fn.work.items;
}
