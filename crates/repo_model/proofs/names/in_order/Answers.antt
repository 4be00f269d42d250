use Rattle.std.proofs.Common.{◌∙◌, ap, map, refl, sym, subst}
use Rattle.clause_pool.specs.Clauses.{in_row_order}
use Rattle.repo_model.specs.NameOrder.{Rising}
use Rattle.repo_model.proofs.NameSteps.{sorted_rising, sorted_same}
use Rattle.repo_model.proofs.names.in_order.Goals as goal

pub each_once-requires : goal.each_once-requires
each_once-requires c = subst (λ xs. Rising (map (λ name. name.now) xs)) (sym c.deref.ensures.value) (sorted_rising c.sort_unstable.new.self.items c.sort_unstable.ensures.sorted)

pub returns : goal.returns
returns c =
    c.in_ok-distinct.ensures ∙ ap (λ xs. in_row_order (map (λ name. name.now) xs)) c.deref.ensures.value
    ∙ sorted_same (map (λ name. name.now) c.args.names.items) c.args.names.items c.sort_unstable.new.self.items refl c.sort_unstable.ensures.permutation
