use Rattle.std.proofs.Common.{sym, ◌∙◌}
use Rattle.listed.proofs.Numbers.{number_kept, number_left}
use Rattle.repo_model.specs.{Repository.{meets_any}, Stanzas.{stanza_at}}
use Rattle.repo_model.proofs.plain.clause.Goals as goal
use Rattle.repo_model.proofs.plain.clause.Goals.{then-meets_at+in_ok-push, else-meets_at}

pub loop-number-preserved : goal.loop-number-preserved
loop-number-preserved c =
    elim c.if-meets_at.branch [
      | then-meets_at+in_ok-push w ↦ number_kept (λ n. meets_any c.args.home.now c.args.element.now (stanza_at c.args.stanzas.now n)) c.loop-number.number c.loop-number.clause c.if-meets_at.clause
          (sym c.meets_at.ensures ∙ w.if-meets_at.true) c.loop-number.invariant (w.clause-is ∙ w.in_ok-push.ensures.ok)
      | else-meets_at w ↦ w.clause-is ∙ number_left (λ n. meets_any c.args.home.now c.args.element.now (stanza_at c.args.stanzas.now n)) c.loop-number.number c.loop-number.clause
          (sym c.meets_at.ensures ∙ w.if-meets_at.false) c.loop-number.invariant
    ]
