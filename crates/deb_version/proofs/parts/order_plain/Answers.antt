use Rattle.std.proofs.Common.{◌∙◌, sym}
use Rattle.deb_version.proofs.Weights.{weights-level}
use Rattle.deb_version.proofs.parts.order_plain.Goals as goal

pub loop-i-preserved : goal.loop-i-preserved
loop-i-preserved c = c.loop-i.invariant ∙ weights-level c.args.left.now c.args.right.now c.loop-i.i c.order_at-found.result c.order_at-found.ensures (sym c.is_ne.ensures ∙ c.if-is_ne.false)
