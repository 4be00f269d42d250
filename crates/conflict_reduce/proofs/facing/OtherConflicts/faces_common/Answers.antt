use Rattle.std.proofs.Common.{◌≡◌, ◌∷◌, ◌||◌, ◌∙◌, [], List, ℕ, ap, sym, subst}
use Rattle.std.specs.List.{list_all, list_any}
use Rattle.clause_pool.specs.Interned.{clauses_at}
use Rattle.row_book.specs.{Book.{listed_for}, Facing.{all_against}}
use Rattle.listed.specs.Lists.{Ascending, is_inside, has}
use Rattle.row_book.proofs.Facing.{faces_filtered}
use Rattle.listed.proofs.Orders.{ascending_filter}
use Rattle.conflict_reduce.specs.Others.{common_others, is_other_conflict}
use Rattle.conflict_reduce.proofs.Left.{left_own}
use Rattle.conflict_reduce.proofs.facing.OtherConflicts.faces_common.Goals as goal

pub has_side_within-faces-requires-clause-numbers : goal.has_side_within-faces-requires-clause-numbers
has_side_within-faces-requires-clause-numbers c =
    subst Ascending (sym (c.as_slice.ensures.value ∙ c.in_ok-common.ensures))
    (ascending_filter (λ n. list_all (λ m. is_other_conflict c.args.self.now m n) c.args.list.now) (listed_for c.args.self.now.table.now c.args.first) (c.args.self.now.table_ascends c.args.first))

-- what the list conflicts with as a whole lies within the conflicts that its members have in common
pub returns : goal.returns
returns c =
    let p : ℕ = c.args.self.now.pair.high in
    let m : ℕ = c.args.first in
    let ms : List ℕ = c.requires.first.0 in
    let cs : List (List ℕ) = clauses_at c.args.pool.now c.args.row.now in
    let split : c.args.list.now ≡ m ∷ ms = c.requires.first.1 in
    let same : c.as_slice.result.now ≡ common_others c.args.self.now m (m ∷ ms) =
    c.as_slice.ensures.value ∙ c.in_ok-common.ensures ∙ ap (common_others c.args.self.now m) split in
    c.has_side_within-faces.ensures
    ∙ ap (λ ns. has ns p || list_any (λ e. is_inside e ns) cs) same
    ∙ sym (faces_filtered (is_other_conflict c.args.self.now) (listed_for c.args.self.now.table.now m) cs p m ms (left_own c.args.self.now.table.now c.args.self.now.gone.now c.args.self.now.pair m))
    ∙ ap (λ l. list_any (all_against (is_other_conflict c.args.self.now) l) ((p ∷ []) ∷ cs)) (sym split)
