use Rattle.std.proofs.Common.{arith}
use Rattle.listed.proofs.Lists.{In_at}
use Rattle.suite_compare.proofs.choose.follow.Goals as goal

pub row_of-row-requires : goal.row_of-row-requires
row_of-row-requires c = rw (← c.loop-place.invariant) (c.as_slice-members.ensures.below _ (In_at c.as_slice-members.result.now c.loop-place.place 0 (omega arith)))

pub put_firsts-requires-clause-numbers : goal.put_firsts-requires-clause-numbers
put_firsts-requires-clause-numbers c = rw c.loop-place.invariant c.row_of-row.ensures.numbers
