use Rattle.std.proofs.Common.{sym, ap, ◌∙◌, ◌∷◌, [], arith}
use Rattle.std.specs.List.{list_any}
use Rattle.listed.proofs.Lists.{any_at, none_at, item_in}
use Rattle.clause_pool.specs.Interned.{clause_at, clauses_at}
use Rattle.row_book.specs.Facing.{all_against}
use Rattle.conflict_reduce.specs.Others.{is_other_conflict}
use Rattle.conflict_reduce.proofs.facing.OtherConflicts.rows_face.Goals as goal

pub slice-requires : goal.slice-requires
slice-requires c = c.requires.first c.id-item.result (item_in c.args.first.now c.loop-id.id-index c.id-item.result (omega arith) c.id-item.is)

pub returns-then-faces : goal.returns-then-faces
returns-then-faces c =
    sym (any_at (λ d. list_any (all_against (is_other_conflict c.args.self.now) d) ((c.args.self.now.pair.high ∷ []) ∷ clauses_at c.args.pool.now c.args.second.now)) (clause_at c.args.pool.now) c.args.first.now c.id-item.result
    (item_in c.args.first.now c.loop-id.id-index c.id-item.result (omega arith) c.id-item.is)
    (ap (λ d. list_any (all_against (is_other_conflict c.args.self.now) d) ((c.args.self.now.pair.high ∷ []) ∷ clauses_at c.args.pool.now c.args.second.now)) (sym c.slice.ensures.lent) ∙ sym c.in_ok-faces.ensures ∙ c.if-faces.true))

pub returns : goal.returns
returns c =
    sym (none_at (λ d. list_any (all_against (is_other_conflict c.args.self.now) d) ((c.args.self.now.pair.high ∷ []) ∷ clauses_at c.args.pool.now c.args.second.now)) (clause_at c.args.pool.now) c.args.first.now
    (λ k l. c.loop-id.invariant k (omega arith)))
