use Rattle.std.proofs.{Common.{◌∙◌}, lemmas.List.{take_all}}
use Rattle.migrate_plan.proofs.Taken.{copied_more}
use Rattle.migrate_plan.proofs.mixing.copies_of.Goals as goal

pub loop-name-preserved : goal.loop-name-preserved
loop-name-preserved c =
    copied_more c.args.names.now c.loop-name.name-index c.name-item.result c.in_ok-copy.copy c.loop-name.made.items c.push.new.self.items c.loop-name-test.true c.name-item.is
    (c.in_ok-copy.ensures ∙ c.as_slice.ensures) c.in_ok-push.ensures.items c.loop-name.invariant

pub returns : goal.returns
returns c = c.loop-name.invariant ∙ take_all c.loop-name.name-index c.args.names.now c.loop-name-test.false
