use Rattle.repo_model.specs.Repository.{conflicting_with}
use Rattle.repo_model.proofs.plain.conflicts.Goals as goal
use Rattle.listed.proofs.Numbers.{number_mapped}

pub loop-number-preserved : goal.loop-number-preserved
loop-number-preserved c =
    number_mapped (conflicting_with c.args.home.now c.args.stanzas.now) c.loop-number.number c.loop-number.conflicts c.push.new.self c.in_ok-conflicting_with.field-0 c.in_ok-conflicting_with.ensures c.loop-number.invariant c.in_ok-push.ensures.ok
