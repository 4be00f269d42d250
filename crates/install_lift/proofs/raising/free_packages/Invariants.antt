use Rattle.install_lift.proofs.Lowering.{AreFree}
use Rattle.install_lift.proofs.raising.free_packages.Given as goal

abbrev pub invariant-loop-number : goal.invariant-loop-number
invariant-loop-number l = AreFree l.book.conflicts l.number l.more.items
