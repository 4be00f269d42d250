use Rattle.std.proofs.{Common.{rules, subst}, lemmas.List.Filters.{dedup_is}, lemmas.Fn.{always_returns_same}}
use Rattle.std.specs.List.Sorted.{IsPermutation}
use Rattle.repo_model.proofs.Ranked.{earlier_orders, is_earlier, ordered_by_sort}
use Rattle.repo_model.proofs.ranks.in_order.Goals as goal

pub returns : goal.returns
returns c =
    let pool = c.args.pool.now in
    let sorted = c.sort_unstable_by.new.self.items in
    let rises = c.sort_unstable_by.ensures.sorted (is_earlier pool) (earlier_orders pool) (always_returns_same _ _ _ (λ a r q k. search rules)) in
    let moved = subst (λ ids. IsPermutation ids sorted) c.in_ok-order.ensures.items c.sort_unstable_by.ensures.permutation in
    ordered_by_sort pool c.requires.pool c.args.ids.now sorted _ c.requires.of_pool moved rises (dedup_is _ _ _ c.dedup.ensures.filtered)
