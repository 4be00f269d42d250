use Rattle.std.proofs.Common.{◌≡◌, ◌∙◌, ap, subst, sym}
use Rattle.std.specs.List.{list_any}
use Rattle.row_book.specs.{Book.{listed_for}, Holders.{ArePlaced}, Uses.{IsListOf, lists_in, list_in}}
use Rattle.listed.specs.Lists.{has}
use Rattle.row_book.proofs.Holders.{are_placed, users_found}
use Rattle.row_book.proofs.clause_table.ClauseTable.users.Goals as goal

pub returns : goal.returns
returns c =
    let n = c.args.number in
    let table = c.args.self.now in
    let users : lists_in c.as_slice-2.result.now ≡ c.args.self.now.users = ap lists_in c.as_slice-2.ensures.value ∙ ap (λ w. w.users) c.self.view_is in
    let clauses : c.list_at-clauses.result.now ≡ listed_for c.args.self.now.clauses c.args.number =
    c.list_at-clauses.ensures ∙ ap (λ t. list_in t c.args.number) c.as_slice.ensures.value ∙ ap (λ w. listed_for w.clauses c.args.number) c.self.view_is in
    λ t. users_found c.args.pool.now c.args.rows.now table n c.in_ok-had.had.items c.users_still.result.items t
    (subst (λ us. IsListOf (λ m. list_any (λ d. has (listed_for us d) m) (listed_for c.args.self.now.clauses c.args.number)) c.in_ok-had.had.items) users
    (subst (λ cs. IsListOf (λ m. list_any (λ d. has (list_in c.as_slice-2.result.now d) m) cs) c.in_ok-had.had.items) clauses c.in_ok-had.ensures))
    (c.users_still.ensures (λ p. subst (λ ps. ArePlaced c.args.pool.now c.args.number ps (listed_for c.args.rows.now p)) (sym clauses) (are_placed c.args.pool.now c.args.rows.now table n p t)))
