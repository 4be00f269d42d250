use Rattle.std.proofs.Common.{◌+◌, ◌∙◌, ap, get_or, length, length-append, ◌∷◌, []}
use Rattle.std.specs.Prelude.{None}
use Rattle.clause_pool.proofs.Carried.{one_unknown}
use Rattle.repo_model.proofs.select.no_places.Goals as goal

pub loop-i-preserved : goal.loop-i-preserved
loop-i-preserved c = record {
  size = ap length c.in_ok-push.ensures.items ∙ length-append c.loop-i.made.items (None ∷ []) ∙ ap (λ n. n + 1) c.loop-i.invariant.size;
  none = λ row. ap (λ z. get_or z row None) c.in_ok-push.ensures.items ∙ one_unknown c.loop-i.made.items c.loop-i.invariant.none row;
}
