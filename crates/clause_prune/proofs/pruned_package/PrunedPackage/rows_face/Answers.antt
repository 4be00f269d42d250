use Rattle.std.proofs.Common.{sym, ap, ◌∙◌, ◌∷◌, [], arith}
use Rattle.std.specs.List.{list_any}
use Rattle.listed.proofs.Lists.{any_at, none_at, item_in}
use Rattle.clause_pool.specs.Interned.{clause_at, clauses_at}
use Rattle.row_book.specs.Facing.{against_in, all_against}
use Rattle.clause_prune.proofs.pruned_package.PrunedPackage.rows_face.Goals as goal

pub slice-requires : goal.slice-requires
slice-requires c = c.requires.row c.id-item.result (item_in c.args.row.now c.loop-id.id-index c.id-item.result (omega arith) c.id-item.is)

pub returns-then-faces : goal.returns-then-faces
returns-then-faces c =
    sym (any_at (λ d. list_any (all_against (against_in c.args.self.now.table.now) d) ((c.args.self.now.number ∷ []) ∷ clauses_at c.args.self.now.pool.now c.args.row.now)) (clause_at c.args.self.now.pool.now) c.args.row.now c.id-item.result
    (item_in c.args.row.now c.loop-id.id-index c.id-item.result (omega arith) c.id-item.is)
    (ap (λ d. list_any (all_against (against_in c.args.self.now.table.now) d) ((c.args.self.now.number ∷ []) ∷ clauses_at c.args.self.now.pool.now c.args.row.now)) (sym c.slice.ensures.lent) ∙ sym c.in_ok-faces.ensures ∙ c.if-faces.true))

pub returns : goal.returns
returns c =
    sym (none_at (λ d. list_any (all_against (against_in c.args.self.now.table.now) d) ((c.args.self.now.number ∷ []) ∷ clauses_at c.args.self.now.pool.now c.args.row.now)) (clause_at c.args.self.now.pool.now) c.args.row.now
    (λ k l. c.loop-id.invariant k (omega arith)))
