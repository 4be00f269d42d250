use Rattle.std.proofs.Common.{◌∙◌, arith, refl}
use Rattle.kernel_rounds.proofs.MovedSteps.{same_copy}
use Rattle.kernel_rounds.proofs.advancing.book_in.Goals as goal

pub returns-then-number-eq1-clause-same : goal.returns-then-number-eq1-clause-same
returns-then-number-eq1-clause-same c = λ first.
    let there = first c.if-number-eq1.true in
    let own = same_copy c.args.into.now c.args.into.now c.args.book.now c.in_ok-made.made refl c.in_ok-made.ensures.rows c.in_ok-made.ensures.conflicts in
    record { repository = own.repository ∙ there.repository; sound = λ s. own.sound (there.sound s) }

pub returns-then-number-eq1-clause-only : goal.returns-then-number-eq1-clause-only
returns-then-number-eq1-clause-only c = record { rows = λ id low high. absurd (omega arith); clauses = λ id low high. absurd (omega arith) }
