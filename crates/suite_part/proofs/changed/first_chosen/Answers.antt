use Rattle.std.proofs.Common.{◌∙◌, arith, refl}
use Rattle.suite_part.proofs.Bases.{first_more, first_last, first_none, if_ok_then}
use Rattle.suite_part.proofs.changed.first_chosen.Goals as goal

pub loop-number-init : goal.loop-number-init
loop-number-init c = first_none c.args.count _ c.in_ok-flags.ensures.items

pub loop-number-preserved : goal.loop-number-preserved
loop-number-preserved c = first_more c.args.count c.loop-number.number c.loop-number.flags.items c.push.new.self.items _ c.loop-number.invariant refl c.in_ok-push.ensures.items

pub returns : goal.returns
returns c = if_ok_then c.of.result (λ made e. e ∙ first_last c.args.count c.args.size c.loop-number.number c.loop-number.flags.items c.requires (omega arith) c.loop-number.invariant) c.of.ensures
