use Rattle.std.proofs.{Common.{◌≡◌, ◌<◌, ◌∙◌, ap₂, sym, subst, arith, eqb-true, get_or, length}, lemmas.Bool.{eqb-false}, lemmas.List.{get_or_read}}
use Rattle.clause_pool.specs.{Interned.{clause_at}, Clauses.{comes_before}}
use Rattle.listed.specs.Lists.{In}
use Rattle.listed.proofs.Lists.{item_in}
use Rattle.clause_families.proofs.Gainings.{gained, gained_none, order_gained}
use Rattle.clause_families.proofs.placing.put_in_place.Goals as goal
use Rattle.clause_families.proofs.placing.put_in_place.Goals.{else-place-len-via-then-place-len+else-eq, else-place-len-via-else-place-len}

-- the id is there already
pub returns-then-eq-clause-gained : goal.returns-then-eq-clause-gained
returns-then-eq-clause-gained c =
    let same : c.index.result.now ≡ c.args.id = eqb-true c.index.result.now c.args.id (sym c.eq.ensures ∙ c.if-eq.true) in
    gained_none c.args.ids.now.items c.args.id
    (subst (λ z. In z c.args.ids.now.items) same
    (item_in c.args.ids.now.items c.place_of-place.result c.index.result.now (omega (arith, c.args.ids.now.ok.0, c.len.ensures, c.if-place-len.true)) c.index.ensures))

pub returns-clause-gained : goal.returns-clause-gained
returns-clause-gained c = gained c.args.ids.now.items c.insert.new.self.items c.place_of-place.result c.args.id c.in_ok-insert.ensures.items

pub returns-clause-in_order : goal.returns-clause-in_order
returns-clause-in_order c =
    let ids = c.args.ids.now.items in
    let place = c.place_of-place.result in
    order_gained c.args.pool.now ids c.args.id place c.requires.pool c.requires.of_pool c.requires.there c.requires.in_order
    (λ k l. ap₂ (λ xs z. comes_before (clause_at c.args.pool.now (get_or xs k 0)) z) (sym c.as_slice.ensures.value) (sym c.slice.ensures.lent) ∙ c.place_of-place.ensures.before k l)
    (λ k l u. ap₂ (λ xs z. comes_before (clause_at c.args.pool.now (get_or xs k 0)) z) (sym c.as_slice.ensures.value) (sym c.slice.ensures.lent)
    ∙ c.place_of-place.ensures.behind k l (subst (λ xs. k < length xs) (sym c.as_slice.ensures.value) u))
    (λ l. elim c.else-place-len.branch [
      | else-place-len-via-then-place-len+else-eq w ↦ λ e.
          eqb-false w.index.result.now c.args.id (sym w.eq.ensures ∙ w.if-eq.false) (get_or_read ids place w.index.result.now l w.index.ensures 0 ∙ e)
      | else-place-len-via-else-place-len w ↦ absurd (omega (arith, c.args.ids.now.ok.0, c.len.ensures, w.if-place-len.false))
    ])
    c.insert.new.self.items c.in_ok-insert.ensures.items
