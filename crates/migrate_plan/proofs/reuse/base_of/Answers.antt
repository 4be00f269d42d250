use Rattle.std.proofs.Common.{◌≤◌, length, subst, sym}
use Rattle.migrate_plan.proofs.Reusing.{old_packages}
use Rattle.migrate_plan.proofs.reuse.base_of.Goals as goal

pub of-requires-clause-count : goal.of-requires-clause-count
of-requires-clause-count c = subst (λ z. z ≤ length c.args.both.now.book.rows) (sym c.count.ensures) (old_packages c.args.both.now c.requires.both)

pub returns : goal.returns
returns c = λ base is.
    let made = c.in_ok-base.ensures.base base is in
    record { limit_is = made.2; base_is = made.0 }
