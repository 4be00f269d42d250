use Rattle.std.proofs.Common.{ap, sym, subst, ◌∙◌, arith}
use Rattle.listed.proofs.Lists.{item_nil, item_in}
use Rattle.clause_pool.specs.{Interned.{Gains, IsIdOf, OfPool, clauses_at}, Lists.{InOrder}}
use Rattle.clause_pool.proofs.Interned.{kept_along, clauses_kept, kept_of_pool}
use Rattle.kernel_text.proofs.{Gained.{row_gained}, IdTables.{row_more}}
use Rattle.kernel_text.proofs.build_book.intern_rows.Goals as goal

pub intern_row-requires-clause-of_pool : goal.intern_row-requires-clause-of_pool
intern_row-requires-clause-of_pool c =
    let ids = c.ids-item.result in
    subst (OfPool c.loop-ids.pool) (sym c.as_slice.ensures)
    (kept_of_pool c.args.pool.now c.loop-ids.pool c.loop-ids.invariant.kept ids (c.requires.of_pool ids (item_in c.args.table.now c.loop-ids.ids-index ids (omega arith) c.ids-item.is)))

pub intern_row-requires-clause-in_order : goal.intern_row-requires-clause-in_order
intern_row-requires-clause-in_order c =
    let ids = c.ids-item.result in
    let inside = item_in c.args.table.now c.loop-ids.ids-index ids (omega arith) c.ids-item.is in
    subst InOrder (sym (ap (clauses_at c.loop-ids.pool) c.as_slice.ensures ∙ clauses_kept c.args.pool.now c.loop-ids.pool c.loop-ids.invariant.kept ids (c.requires.of_pool ids inside)))
    (c.requires.in_order ids inside)

pub returns-in_err-push-clause-kept : goal.returns-in_err-push-clause-kept
returns-in_err-push-clause-kept c = kept_along c.args.pool.now c.loop-ids.pool c.intern_row.new.self c.loop-ids.invariant.kept c.intern_row.ensures.kept

pub loop-ids-preserved : goal.loop-ids-preserved
loop-ids-preserved c =
    let ids = c.ids-item.result in
    let inside = item_in c.args.table.now c.loop-ids.ids-index ids (omega arith) c.ids-item.is in
    record {
      rows = row_more c.args.pool.now c.loop-ids.pool c.intern_row.new.self c.args.table.now c.loop-ids.ids-index ids c.loop-ids.rows.items c.push.new.self.items c.in_ok-row.row (omega arith)
          (item_nil c.args.table.now c.loop-ids.ids-index ids (omega arith) c.ids-item.is) c.loop-ids.invariant.rows c.loop-ids.invariant.kept c.intern_row.ensures.kept
          (subst (λ xs. IsIdOf c.intern_row.new.self.rows xs c.in_ok-row.row) c.as_slice.ensures c.in_ok-row.ensures.ok) (c.requires.of_pool ids inside) c.in_ok-push.ensures.items;
      kept = kept_along c.args.pool.now c.loop-ids.pool c.intern_row.new.self c.loop-ids.invariant.kept c.intern_row.ensures.kept;
      gains = row_gained c.args.pool.now c.loop-ids.pool c.intern_row.new.self c.args.table.now c.loop-ids.ids-index ids c.loop-ids.rows.items c.push.new.self.items c.in_ok-row.row (omega arith)
          (item_nil c.args.table.now c.loop-ids.ids-index ids (omega arith) c.ids-item.is) c.loop-ids.invariant.gains c.loop-ids.invariant.rows.within c.intern_row.ensures.kept
          (subst (λ xs. Gains c.loop-ids.pool.rows xs c.intern_row.new.self.rows) c.as_slice.ensures c.in_ok-row.ensures.gains) c.intern_row.ensures.clauses
          (subst (λ xs. IsIdOf c.intern_row.new.self.rows xs c.in_ok-row.row) c.as_slice.ensures c.in_ok-row.ensures.ok) c.in_ok-push.ensures.items;
    }
