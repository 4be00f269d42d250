use Rattle.std.proofs.Common.{length, subst, sym}
use Rattle.explain_core.specs.{Picking.{ArePlacesFrom1}, declared.explanation.Explanation.TheVariants.{Core}, OnStanzas.{IsTellable}}
use Rattle.coinst_run.proofs.explain.explanation_report.Goals as goal

-- what a core names is there
pub core_text-requires-clause-marks : goal.core_text-requires-clause-marks
core_text-requires-clause-marks c =
    let told : IsTellable (length c.args.packages.now) (length c.args.goals.now) (Core c.in-Core.marks c.in-Core.clashes) = rw c.in-Core.is at c.requires in
    subst (ArePlacesFrom1 (length c.args.goals.now)) (sym c.as_slice.ensures) told.0

pub core_text-requires-clause-clashes : goal.core_text-requires-clause-clashes
core_text-requires-clause-clashes c =
    let told : IsTellable (length c.args.packages.now) (length c.args.goals.now) (Core c.in-Core.marks c.in-Core.clashes) = rw c.in-Core.is at c.requires in told.1
