use Rattle.std.proofs.Common.{◌≡◌, take}
use Rattle.list_table.specs.Hash.{mixed}
use Rattle.clause_pool.proofs.ids.ClauseIdItem.hash.Given as goal

abbrev pub invariant-loop-item : goal.invariant-loop-item
invariant-loop-item l = l.hash ≡ mixed (take l.item-index l.items)
