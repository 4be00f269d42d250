use Rattle.std.proofs.Common.{◌∙◌, ap, get_or, length, map, subst, sym, arith}
use Rattle.clause_pool.specs.{Interned.{clause_at, clauses_at}, Lists.{InOrder}}
use Rattle.listed.specs.Lists.{In}
use Rattle.repo_model.specs.Ranks.{HasPlaces}
use Rattle.repo_model.proofs.Ranked.{once_in, ranked}
use Rattle.repo_model.proofs.ranks.rank_all.Goals as goal

pub places_of-requires-clause-within : goal.places_of-requires-clause-within
places_of-requires-clause-within c = λ id i.
    let within = c.requires id (c.in_ok-order.ensures.inside id (subst (λ xs. In id xs) c.deref.ensures.value i)) in
    omega (arith, within, c.clause_count-count.ensures.count)

pub places_of-requires-clause-once : goal.places_of-requires-clause-once
places_of-requires-clause-once c =
    once_in (clause_at c.args.pool.now) c.deref.result.now (subst (λ ids. InOrder (clauses_at c.args.pool.now ids)) (sym c.deref.ensures.value) c.in_ok-order.ensures.in_order)

pub places_at-requires : goal.places_at-requires
places_at-requires c = λ id i.
    let within = c.requires id i in
    omega (arith, within, c.clause_count-count.ensures.count, c.in_ok-places.ensures.count, ap length c.deref-2.ensures.value)

pub returns : goal.returns
returns c =
    ranked c.args.pool.now c.args.ids.now _ c.in_ok-places.places.items c.in_ok-order.ensures (subst (λ order. HasPlaces order c.in_ok-places.places.items) c.deref.ensures.value c.in_ok-places.ensures.places)
    (c.in_ok-ranks.ensures ∙ ap (λ places. map (λ id. get_or places id 0) c.args.ids.now) c.deref-2.ensures.value) c.clause_count-count.ensures.sound c.requires
