use Rattle.std.proofs.Common.{subst, sym}
use Rattle.row_book.specs.declared.trail.Step.TheVariants.{Flat}
use Rattle.kernel_rounds.specs.Moving.{IsSameStep}
use Rattle.kernel_rounds.proofs.MovedSteps.{flat_moved}
use Rattle.kernel_rounds.proofs.moving.rename_step.Goals as goal

pub returns-in_ok-before-in-Flat : goal.returns-in_ok-before-in-Flat
returns-in_ok-before-in-Flat c = λ old new live k.
    subst (λ z. IsSameStep old z new (Flat c.in_ok-before-in-Flat.before)) (sym c.in-Flat.is) (flat_moved old _ new _ (c.in_ok-before-in-Flat.ensures old new live k))
