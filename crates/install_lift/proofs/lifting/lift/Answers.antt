use Rattle.row_book.specs.{Flags.{flag}, Book.{repository_of}, Trail.{trail_meaning}}
use Rattle.install_lift.proofs.{Computed.{lifts_of}, Through.{lifted_flags, IsLifted}}
use Rattle.install_lift.proofs.lifting.lift.Goals as goal
use Rattle.install_lift.proofs.lifting.lift.Goals.{After-of}

lifted : (c : After-of) → IsLifted (repository_of c.args.pool.now c.args.from.now) (repository_of c.args.pool.now c.args.to.now) (trail_meaning c.args.pool.now c.args.trail.now.steps) (flag c.args.classes.now) c.in_ok-flags.flags.items
lifted c =
    lifted_flags c.args.pool.now c.args.from.now c.args.to.now c.args.trail.now.steps (flag c.args.classes.now) c.in_ok-set.set.items c.in_ok-flags.flags.items c.size.result c.requires.from.rows.is_pool c.requires.from c.requires.kernel
    c.requires.healthy (rw c.as_slice.ensures at c.in_ok-set.ensures) c.size.ensures c.in_ok-flags.ensures.long (rw c.deref.ensures.value at c.in_ok-flags.ensures.same)

pub returns-clause-lift : goal.returns-clause-lift
returns-clause-lift c = rw c.of.ensures ((lifted (goal.at.returns-clause-lift c).After-of).lift)

pub returns-clause-healthy : goal.returns-clause-healthy
returns-clause-healthy c = rw c.of.ensures ((lifted (goal.at.returns-clause-healthy c).After-of).healthy)

pub returns-clause-holds : goal.returns-clause-holds
returns-clause-holds c = rw c.of.ensures ((lifted (goal.at.returns-clause-holds c).After-of).holds)

pub returns-clause-is : goal.returns-clause-is
returns-clause-is c =
    rw c.of.ensures (lifts_of (trail_meaning c.args.pool.now c.args.trail.now.steps) (flag c.args.classes.now) (flag c.in_ok-flags.flags.items) (lifted (goal.at.returns-clause-is c).After-of).lift)
