use Rattle.std.proofs.Common.{sym, ap, ◌∙◌, arith}
use Rattle.listed.proofs.Lists.{any_at, none_at, item_in}
use Rattle.clause_pool.specs.Interned.{clause_at}
use Rattle.row_book.specs.Facing.{all_against}
use Rattle.conflict_reduce.specs.Others.{is_other_conflict}
use Rattle.conflict_reduce.proofs.facing.OtherConflicts.faces_clause.Goals as goal

pub slice-requires : goal.slice-requires
slice-requires c = c.requires.row c.id-item.result (item_in c.args.row.now c.loop-id.id-index c.id-item.result (omega arith) c.id-item.is)

pub returns-then-all_conflict : goal.returns-then-all_conflict
returns-then-all_conflict c =
    sym (any_at (all_against (is_other_conflict c.args.self.now) c.args.list.now) (clause_at c.args.pool.now) c.args.row.now c.id-item.result
    (item_in c.args.row.now c.loop-id.id-index c.id-item.result (omega arith) c.id-item.is)
    (ap (all_against (is_other_conflict c.args.self.now) c.args.list.now) (sym c.slice.ensures.lent) ∙ sym c.all_conflict.ensures ∙ c.if-all_conflict.true))

pub returns : goal.returns
returns c =
    sym (none_at (all_against (is_other_conflict c.args.self.now) c.args.list.now) (clause_at c.args.pool.now) c.args.row.now
    (λ k l. c.loop-id.invariant k (omega arith)))
