use Rattle.std.{proofs.Common.{subst}, proofs.lemmas.List.{take_all}}
use Rattle.suite_compare.{specs.Suspects.{AreHeld}, proofs.Chosen.{held_more, held_none}}
use Rattle.suite_compare.proofs.suspect.enter_each.Goals as goal

pub loop-class-init : goal.loop-class-init
loop-class-init c = held_none c.args.table.now c.args.kind

pub loop-class-preserved : goal.loop-class-preserved
loop-class-preserved c = held_more c.args.table.now c.loop-class.table c.enter.new.table c.args.classes.now c.loop-class.class-index c.args.kind c.loop-class-test.true c.in_ok-enter.ensures c.loop-class.invariant

pub returns : goal.returns
returns c = subst (λ z. AreHeld c.args.table.now c.loop-class.table z c.args.kind) (take_all c.loop-class.class-index c.args.classes.now c.loop-class-test.false) c.loop-class.invariant
