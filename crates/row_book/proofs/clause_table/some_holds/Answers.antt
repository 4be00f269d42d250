use Rattle.std.proofs.{Common.{◌∙◌, ◌||◌, ap, ap₂, sym}, lemmas.List.Folds.{list_any_more}}
use Rattle.clause_pool.specs.Interned.{clause_at}
use Rattle.listed.specs.Lists.{In, has}
use Rattle.listed.proofs.Lists.{any_from, item_in}
use Rattle.row_book.proofs.clause_table.some_holds.Goals as goal

pub clause_holds-requires : goal.clause_holds-requires
clause_holds-requires c = c.requires c.id-item.result (item_in c.args.ids.now c.loop-id.id-index c.id-item.result c.loop-id-test.true c.id-item.is)

pub returns-then-clause_holds : goal.returns-then-clause_holds
returns-then-clause_holds c placed =
    let there : In c.id-item.result c.args.ids.now = item_in c.args.ids.now c.loop-id.id-index c.id-item.result c.loop-id-test.true c.id-item.is in
    sym (any_from (λ id. has (clause_at c.args.pool.now id) c.args.number) c.args.ids.now c.id-item.result there
    (sym (c.clause_holds.ensures (placed c.id-item.result there)) ∙ c.if-clause_holds.true))

pub loop-id-preserved : goal.loop-id-preserved
loop-id-preserved c placed =
    let there : In c.id-item.result c.args.ids.now = item_in c.args.ids.now c.loop-id.id-index c.id-item.result c.loop-id-test.true c.id-item.is in
    list_any_more (λ id. has (clause_at c.args.pool.now id) c.args.number) c.args.ids.now c.loop-id.id-index c.id-item.result c.loop-id-test.true
    ∙ ap₂ (λ a b. a || b) (c.loop-id.invariant placed)
    (ap (λ id. has (clause_at c.args.pool.now id) c.args.number) (sym c.id-item.is) ∙ sym (c.clause_holds.ensures (placed c.id-item.result there)) ∙ c.if-clause_holds.false)
