use Rattle.std.proofs.{Common.{length, refl, subst}, lemmas.List.{take_all}}
use Rattle.kernel_text.specs.Writing.{TellHeld}
use Rattle.kernel_text.proofs.Marks.{none_marked, one_marked}
use Rattle.kernel_text.proofs.holding.mark_held.Goals as goal

pub loop-class-init : goal.loop-class-init
loop-class-init c = none_marked c.args.flags.now.items c.requires

pub loop-class-preserved : goal.loop-class-preserved
loop-class-preserved c =
    one_marked c.loop-class.flags.items c.mark.new.flags.items c.args.held.now c.loop-class.class-index (length c.args.flags.now.items) _ c.loop-class-test.true refl c.loop-class.invariant c.mark.ensures

pub returns : goal.returns
returns c =
    subst (λ xs. TellHeld c.loop-class.flags.items xs (length c.args.flags.now.items)) (take_all c.loop-class.class-index c.args.held.now c.loop-class-test.false) c.loop-class.invariant
