use Rattle.std.proofs.Common.{◌≡◌, ℕ, ◌&&◌, take}
use Rattle.clause_pool.specs.Interned.{clauses_at}
use Rattle.listed.specs.Lists.{has}
use Rattle.row_book.specs.Uses.{some_holds}
use Rattle.row_book.proofs.uses.numbers_among.Given as goal

abbrev pub invariant-loop-id : goal.invariant-loop-id
invariant-loop-id l = (n : ℕ) → has l.found.items n ≡ (some_holds (clauses_at l.pool (take l.id-index l.ids)) n && has l.wanted n)
