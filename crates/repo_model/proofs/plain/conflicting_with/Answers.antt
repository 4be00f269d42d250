use Rattle.std.proofs.Common.{sym, ◌∙◌}
use Rattle.listed.proofs.Numbers.{number_kept, number_left}
use Rattle.repo_model.specs.Repository.{in_conflict}
use Rattle.repo_model.proofs.plain.conflicting_with.Goals as goal
use Rattle.repo_model.proofs.plain.conflicting_with.Goals.{then-conflict+in_ok-push, else-conflict}

pub loop-number-preserved : goal.loop-number-preserved
loop-number-preserved c =
    elim c.if-conflict.branch [
      | then-conflict+in_ok-push w ↦ number_kept (in_conflict c.args.home.now c.args.stanzas.now c.args.of) c.loop-number.number c.loop-number.others c.if-conflict.others
          (sym c.conflict.ensures ∙ w.if-conflict.true) c.loop-number.invariant (w.others-is ∙ w.in_ok-push.ensures.ok)
      | else-conflict w ↦ w.others-is ∙ number_left (in_conflict c.args.home.now c.args.stanzas.now c.args.of) c.loop-number.number c.loop-number.others
          (sym c.conflict.ensures ∙ w.if-conflict.false) c.loop-number.invariant
    ]
