use Rattle.std.proofs.Common.{◌≡◌, length, refl, arith}
use Rattle.row_book.specs.Flags.{flag}
use Rattle.install_lift.proofs.Lowering.{free_all}
use Rattle.install_lift.proofs.raising.free_packages.Goals as goal

pub returns-clause-long : goal.returns-clause-long
returns-clause-long c =
    let long = c.loop-number.invariant.long in
    omega (arith, long, c.size-number-end.ensures, c.loop-number-test.false, c.loop-number.auto.number-end)

pub returns-clause-lowering : goal.returns-clause-lowering
returns-clause-lowering c =
    let e : c.loop-number.number ≡ length c.args.book.now.rows = omega (arith, c.size-number-end.ensures, c.loop-number-test.false, c.loop-number.auto.number-end) in
    free_all c.args.pool.now c.args.book.now c.loop-number.number (flag c.args.set.now) c.loop-number.more.items _ _ c.requires.sound e c.loop-number.invariant refl refl
