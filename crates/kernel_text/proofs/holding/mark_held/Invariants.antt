use Rattle.std.proofs.Common.{length, take}
use Rattle.kernel_text.specs.Writing.{TellHeld}
use Rattle.kernel_text.proofs.holding.mark_held.Given as goal

abbrev pub invariant-loop-class : goal.invariant-loop-class
invariant-loop-class l = TellHeld l.flags.items (take l.class-index l.held) (length l.fn.flags.items)
