-- The numbers of what the row gained are held by the new row, so they are in the table.
use Rattle.std.proofs.{Common.{◌≡◌, ◌<◌, ◌++◌, ◌∙◌, ap, sym, subst, length, take, drop}, lemmas.List.{length-map}, lemmas.Result.{on_err_weaker, on_ok_weaker}}
use Rattle.std.specs.List.{slice_set}
use Rattle.clause_pool.specs.Interned.{ids_at}
use Rattle.row_book.specs.Uses.{lists_in, uses_of, HoldsDifference}
use Rattle.row_book.proofs.{Differences.{difference_held}, Users.{held_below, lent_whole}}
use Rattle.row_book.proofs.uses.UseTable.replace.Goals as goal

pub exchange-answer-requires-clause-lost_of : goal.exchange-answer-requires-clause-lost_of
exchange-answer-requires-clause-lost_of c = λ id i. c.row.ensures.of_pool id (c.in_ok-changes.ensures.lost.part id i)

pub exchange-answer-requires-clause-gained_of : goal.exchange-answer-requires-clause-gained_of
exchange-answer-requires-clause-gained_of c = λ id i. c.row-2.ensures.of_pool id (c.in_ok-changes.ensures.gained.part id i)

pub exchange-answer-requires-clause-gained : goal.exchange-answer-requires-clause-gained
exchange-answer-requires-clause-gained c = λ n h.
    let size : length c.args.self.now ≡ length c.as_mut_slice-table.result.now =
    ap length (sym c.self.view_is) ∙ length-map c.self.inside.users.items (λ v. v.items) ∙ ap length (sym c.as_mut_slice-table.ensures.value) in
    let gained : HoldsDifference (ids_at c.args.pool.now c.args.new) (ids_at c.args.pool.now c.args.old) c.in_ok-changes.changes.gained.items =
    subst (λ xs. HoldsDifference xs (ids_at c.args.pool.now c.args.old) c.in_ok-changes.changes.gained.items) c.row-2.ensures.lent
    (subst (λ xs. HoldsDifference c.row-2.result.now xs c.in_ok-changes.changes.gained.items) c.row.ensures.lent c.in_ok-changes.ensures.gained) in
    subst (λ k. n < k) size
    (held_below c.args.pool.now c.args.new (length c.args.self.now) n c.requires.numbers
    (difference_held c.args.pool.now (ids_at c.args.pool.now c.args.new) (ids_at c.args.pool.now c.args.old) c.in_ok-changes.changes.gained.items n gained h))

pub returns-clause-ok : goal.returns-clause-ok
returns-clause-ok c =
    let users = c.self.inside.users in
    let third = c.exchange-answer.new.table in
    let size : length third ≡ length users.items = c.exchange-answer.auto.table ∙ ap length c.as_mut_slice-table.ensures.value in
    let whole : take users.len (third ++ drop (length third) users.items) ≡ third = lent_whole users.len third users.items size users.ok.0 in
    let lost : HoldsDifference (ids_at c.args.pool.now c.args.old) (ids_at c.args.pool.now c.args.new) c.in_ok-changes.changes.lost.items =
    subst (λ xs. HoldsDifference xs (ids_at c.args.pool.now c.args.new) c.in_ok-changes.changes.lost.items) c.row.ensures.lent
    (subst (λ xs. HoldsDifference c.row.result.now xs c.in_ok-changes.changes.lost.items) c.row-2.ensures.lent c.in_ok-changes.ensures.lost) in
    let gained : HoldsDifference (ids_at c.args.pool.now c.args.new) (ids_at c.args.pool.now c.args.old) c.in_ok-changes.changes.gained.items =
    subst (λ xs. HoldsDifference xs (ids_at c.args.pool.now c.args.old) c.in_ok-changes.changes.gained.items) c.row-2.ensures.lent
    (subst (λ xs. HoldsDifference c.row-2.result.now xs c.in_ok-changes.changes.gained.items) c.row.ensures.lent c.in_ok-changes.ensures.gained) in
    on_ok_weaker c.exchange-answer.result
    (λ f rows l o e. subst (λ t. lists_in t ≡ uses_of c.args.pool.now (slice_set rows c.args.package c.args.new)) (sym whole)
    (f rows l (subst (λ id. HoldsDifference (ids_at c.args.pool.now id) (ids_at c.args.pool.now c.args.new) c.in_ok-changes.changes.lost.items) (sym o) lost)
    (subst (λ id. HoldsDifference (ids_at c.args.pool.now c.args.new) (ids_at c.args.pool.now id) c.in_ok-changes.changes.gained.items) (sym o) gained)
    (ap lists_in c.as_mut_slice-table.ensures.value ∙ c.self.view_is ∙ e)))
    c.exchange-answer.ensures.ok

pub returns-clause-err : goal.returns-clause-err
returns-clause-err c =
    let users = c.self.inside.users in
    let third = c.exchange-answer.new.table in
    let size : length third ≡ length users.items = c.exchange-answer.auto.table ∙ ap length c.as_mut_slice-table.ensures.value in
    let whole : take users.len (third ++ drop (length third) users.items) ≡ third = lent_whole users.len third users.items size users.ok.0 in
    on_err_weaker c.exchange-answer.result (λ f. ap lists_in whole ∙ f ∙ ap lists_in c.as_mut_slice-table.ensures.value ∙ c.self.view_is) c.exchange-answer.ensures.err
