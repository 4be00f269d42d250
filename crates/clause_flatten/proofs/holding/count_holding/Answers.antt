use Rattle.std.proofs.{Common.{◌≡◌, ◌+◌, ◌∙◌, ap, arith, length, sym}, lemmas.List.{take_all}}
use Rattle.clause_pool.specs.Interned.{clauses_at}
use Rattle.listed.specs.Lists.{has}
use Rattle.clause_flatten.specs.Holding.{clauses_with}
use Rattle.clause_families.proofs.Families.{At, at_clause, clauses_length, of_pool_item, one_more, none_more}
use Rattle.clause_flatten.proofs.holding.count_holding.Goals as goal
use Rattle.clause_flatten.proofs.holding.count_holding.Goals.{then-holds_ascending, else-holds_ascending}

pub slice-requires : goal.slice-requires
slice-requires c = of_pool_item c.args.pool.now c.args.row.now c.loop-id.id-index c.id-item.result c.requires c.loop-id-test.true c.id-item.is

pub loop-id-preserved : goal.loop-id-preserved
loop-id-preserved c =
    let at : At (clauses_at c.args.pool.now c.args.row.now) c.loop-id.id-index c.slice.result.now =
    at_clause c.args.pool.now c.args.row.now c.loop-id.id-index c.id-item.result c.slice.result.now c.loop-id-test.true c.id-item.is c.slice.ensures.lent in
    elim c.if-holds_ascending.branch [
      | then-holds_ascending w ↦
          record {
            is = w.count-is ∙ ap (λ n. n + 1) c.loop-id.invariant.is
                ∙ sym (one_more (λ d. has d c.args.number) (clauses_at c.args.pool.now c.args.row.now) c.loop-id.id-index c.slice.result.now at (sym c.holds_ascending.ensures ∙ w.if-holds_ascending.true));
            few = omega (arith, w.count-is, c.loop-id.invariant.few);
          }
      | else-holds_ascending w ↦
          record {
            is = w.count-is ∙ c.loop-id.invariant.is
                ∙ sym (none_more (λ d. has d c.args.number) (clauses_at c.args.pool.now c.args.row.now) c.loop-id.id-index c.slice.result.now at (sym c.holds_ascending.ensures ∙ w.if-holds_ascending.false));
            few = omega (arith, w.count-is, c.loop-id.invariant.few);
          }
    ]

pub returns : goal.returns
returns c =
    c.loop-id.invariant.is
    ∙ ap (λ z. length (clauses_with c.args.number z)) (take_all c.loop-id.id-index (clauses_at c.args.pool.now c.args.row.now)
    (let n : length (clauses_at c.args.pool.now c.args.row.now) ≡ length c.args.row.now = clauses_length c.args.pool.now c.args.row.now in omega (arith, c.loop-id-test.false)))
