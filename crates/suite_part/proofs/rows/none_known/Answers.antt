use Rattle.std.proofs.Common.{◌+◌, ◌∙◌, ap, get_or, length, length-append, ◌∷◌, []}
use Rattle.std.specs.Prelude.{None}
use Rattle.suite_part.proofs.Lefts.{one_unknown}
use Rattle.suite_part.proofs.rows.none_known.Goals as goal

pub loop-i-preserved : goal.loop-i-preserved
loop-i-preserved T c = record {
  size = ap length c.in_ok-push.ensures.items ∙ length-append c.loop-i.known.items (None ∷ []) ∙ ap (λ n. n + 1) c.loop-i.invariant.size;
  none = λ id. ap (λ z. get_or z id None) c.in_ok-push.ensures.items ∙ one_unknown c.loop-i.known.items c.loop-i.invariant.none id;
}
