use Rattle.std.proofs.Common.{[], ◌∷◌, take}
use Rattle.row_book.specs.Flags.{flag}
use Rattle.install_lift.specs.Raising.{PutsUser}
use Rattle.install_lift.proofs.raising.put_to_clause.Given as goal

abbrev pub invariant-loop-n : goal.invariant-loop-n
invariant-loop-n l = PutsUser (flag l.more) (take l.n-index l.clause ∷ []) l.number l.fn.table l.table
