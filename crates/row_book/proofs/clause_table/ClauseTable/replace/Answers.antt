-- What the row gained is in the new one, so these clauses are of the pool.
use Rattle.std.proofs.{Common.{◌≡◌, ◌<◌, ◌++◌, ◌∙◌, ap, ap₂, drop, length, refl, subst, sym, take}, lemmas.List.{length-map}}
use Rattle.std.specs.List.{slice_set}
use Rattle.listed.proofs.Bools.{on_err}
use Rattle.row_book.specs.{Holders.{ListsClauses, TellsRows, holders_in}, Uses.{HoldsDifference, lists_in, list_in}}
use Rattle.listed.specs.Lists.{In}
use Rattle.row_book.proofs.{Holders.{lists_same, tells_replaced, tells_still}, Users.{lent_whole}}
use Rattle.row_book.proofs.clause_table.ClauseTable.replace.Goals as goal

pub returns-in_err-make_lists-clause-err : goal.returns-in_err-make_lists-clause-err
returns-in_err-make_lists-clause-err c = on_err _ c.from_residual-in_err-make_lists.result (λ rows t.
    let users = c.self.inside.users in
    let clauses = c.self.inside.clauses in
    tells_still c.args.pool.now rows (holders_in users.items clauses.items) (holders_in c.make_lists.new.lists.items clauses.items) refl
    (λ d m i. subst (λ xs. In m xs) (sym (c.make_lists.ensures.same d)) i)
    (lists_same c.args.pool.now (lists_in users.items) (lists_in c.make_lists.new.lists.items) (lists_in clauses.items) c.make_lists.ensures.same)
    (subst (TellsRows c.args.pool.now rows) (sym c.self.view_is) t))

pub enter_all-requires-clause-numbers : goal.enter_all-requires-clause-numbers
enter_all-requires-clause-numbers c id i n j =
    let size : length c.args.self.now.clauses ≡ length c.as_mut_slice-clauses.result.now =
    ap (λ t. length t.clauses) (sym c.self.view_is) ∙ length-map c.self.inside.clauses.items (λ v. v.items) ∙ ap length (sym c.as_mut_slice-clauses.ensures.value) in
    let came : In id c.args.new.now = c.in_ok-came.ensures.part id (subst (λ xs. In id xs) c.as_slice-gained.ensures.value i) in
    subst (λ k. n < k) size (c.requires.numbers id came n j)

pub returns-in_err-enter_all-clause-err : goal.returns-in_err-enter_all-clause-err
returns-in_err-enter_all-clause-err c = on_err _ c.from_residual-in_err-enter_all.result (λ rows t.
    let users = c.self.inside.users in
    let clauses = c.self.inside.clauses in
    let made = c.make_lists.new.lists in
    let new = c.enter_all.new.users in
    let lists = c.enter_all.new.clauses in
    let size : length new ≡ length made.items = c.enter_all.auto.users ∙ ap length c.as_mut_slice-users.ensures.value in
    let count : length lists ≡ length clauses.items = c.enter_all.auto.clauses ∙ ap length c.as_mut_slice-clauses.ensures.value in
    let whole : take made.len (new ++ drop (length new) made.items) ≡ new = lent_whole made.len new made.items size made.ok.0 in
    let all : take clauses.len (lists ++ drop (length lists) clauses.items) ≡ lists = lent_whole clauses.len lists clauses.items count clauses.ok.0 in
    subst (TellsRows c.args.pool.now rows) (sym (ap₂ holders_in whole all))
    (tells_still c.args.pool.now rows (holders_in users.items clauses.items) (holders_in new lists)
    (length-map lists (λ v. v.items) ∙ count ∙ sym (length-map clauses.items (λ v. v.items)))
    (λ d m i. c.enter_all.ensures.users d m (subst (λ xs. In m xs) (sym (ap (λ z. list_in z d) c.as_mut_slice-users.ensures.value ∙ c.make_lists.ensures.same d)) i))
    (λ f. c.enter_all.ensures.lists
    (subst (ListsClauses c.args.pool.now) (sym (ap₂ holders_in c.as_mut_slice-users.ensures.value c.as_mut_slice-clauses.ensures.value))
    (lists_same c.args.pool.now (lists_in users.items) (lists_in made.items) (lists_in clauses.items) c.make_lists.ensures.same f)))
    (subst (TellsRows c.args.pool.now rows) (sym c.self.view_is) t)))

pub returns-clause-ok : goal.returns-clause-ok
returns-clause-ok c rows l o t =
    let users = c.self.inside.users in
    let clauses = c.self.inside.clauses in
    let made = c.make_lists.new.lists in
    let new = c.enter_all.new.users in
    let lists = c.enter_all.new.clauses in
    let size : length new ≡ length made.items = c.enter_all.auto.users ∙ ap length c.as_mut_slice-users.ensures.value in
    let count : length lists ≡ length clauses.items = c.enter_all.auto.clauses ∙ ap length c.as_mut_slice-clauses.ensures.value in
    let whole : take made.len (new ++ drop (length new) made.items) ≡ new = lent_whole made.len new made.items size made.ok.0 in
    let all : take clauses.len (lists ++ drop (length lists) clauses.items) ≡ lists = lent_whole clauses.len lists clauses.items count clauses.ok.0 in
    let came : HoldsDifference c.args.new.now c.args.old.now c.as_slice-gained.result.now =
    subst (HoldsDifference c.args.new.now c.args.old.now) (sym c.as_slice-gained.ensures.value) c.in_ok-came.ensures in
    subst (TellsRows c.args.pool.now (slice_set rows c.args.number c.args.new.now)) (sym (ap₂ holders_in whole all))
    (tells_replaced c.args.pool.now rows c.args.number c.args.old.now c.args.new.now c.as_slice-gained.result.now (holders_in users.items clauses.items) (holders_in new lists) l o came
    (length-map lists (λ v. v.items) ∙ count ∙ sym (length-map clauses.items (λ v. v.items)))
    (λ d m i. c.enter_all.ensures.users d m (subst (λ xs. In m xs) (sym (ap (λ z. list_in z d) c.as_mut_slice-users.ensures.value ∙ c.make_lists.ensures.same d)) i))
    c.in_ok-enter_all.ensures.entered
    (λ f. c.enter_all.ensures.lists
    (subst (ListsClauses c.args.pool.now) (sym (ap₂ holders_in c.as_mut_slice-users.ensures.value c.as_mut_slice-clauses.ensures.value))
    (lists_same c.args.pool.now (lists_in users.items) (lists_in made.items) (lists_in clauses.items) c.make_lists.ensures.same f)))
    (subst (TellsRows c.args.pool.now rows) (sym c.self.view_is) t))
