use Rattle.std.proofs.Common.{◌≡◌, ◌<◌, ◌∙◌, ap, ap₂, arith, filter, length, map, subst, sym}
use Rattle.clause_pool.specs.Interned.{clause_at, ids_at}
use Rattle.row_book.specs.{Numbers.{numbers}, Uses.{row_id}}
use Rattle.listed.proofs.Lists.{In_at}
use Rattle.row_book.proofs.Numbers.{lists_more}
use Rattle.conflict_reduce.specs.Live.{live_ids, live_of, may_face}
use Rattle.conflict_reduce.proofs.live.live_rows.Goals as goal

pub loop-number-init : goal.loop-number-init
unfolding numbers
loop-number-init c = c.new-made.ensures.items

pub row-clauses-requires : goal.row-clauses-requires
row-clauses-requires c =
    subst (λ z. z < length c.args.pool.now.rows) (sym c.row.ensures)
    (c.requires.rows.of_pool (row_id c.args.book.now.rows c.loop-number.number) (In_at c.args.book.now.rows c.loop-number.number 0 (omega arith)))

pub loop-number-preserved : goal.loop-number-preserved
loop-number-preserved c =
    lists_more (live_ids c.args.pool.now c.args.book.now) c.loop-number.number c.loop-number.made.items c.push.new.self.items c.in_ok-live.live c.loop-number.invariant
    (c.in_ok-live.ensures
    ∙ ap₂ (λ t row. filter (λ id. may_face t (clause_at c.args.pool.now id)) row) c.as_slice-table.ensures (c.row-clauses.ensures.lent ∙ ap (ids_at c.args.pool.now) c.row.ensures))
    c.in_ok-push.ensures.items

pub returns : goal.returns
unfolding live_of
returns c =
    c.loop-number.invariant
    ∙ ap (λ n. map (live_ids c.args.pool.now c.args.book.now) (numbers n 0)) (let e : c.loop-number.number ≡ length c.args.book.now.rows = omega arith in e)
