use Rattle.std.proofs.{Common.{◌≡◌, ◌++◌, ◌∙◌, ap, ap₂, drop, length, subst, sym, take}, lemmas.List.{length-map}}
use Rattle.row_book.specs.{Holders.{TellsRows, holders_in}, Uses.{list_in}}
use Rattle.listed.specs.Lists.{In}
use Rattle.row_book.proofs.{Holders.{tells_forgot}, Users.{lent_whole}}
use Rattle.row_book.proofs.clause_table.ClauseTable.forget.Goals as goal

pub returns : goal.returns
returns c pool rows none t =
    let users = c.self.inside.users in
    let clauses = c.self.inside.clauses in
    let new = c.empty_each.new.lists in
    let lists = c.empty_one.new.lists in
    let size : length new ≡ length users.items = c.empty_each.auto.lists ∙ ap length c.as_mut_slice.ensures.value in
    let count : length lists ≡ length clauses.items = c.empty_one.auto.lists ∙ ap length c.as_mut_slice-2.ensures.value in
    let whole : take users.len (new ++ drop (length new) users.items) ≡ new = lent_whole users.len new users.items size users.ok.0 in
    let all : take clauses.len (lists ++ drop (length lists) clauses.items) ≡ lists = lent_whole clauses.len lists clauses.items count clauses.ok.0 in
    let own : c.list_at-clauses.result.now ≡ list_in clauses.items c.args.number = c.list_at-clauses.ensures ∙ ap (λ z. list_in z c.args.number) c.as_slice.ensures.value in
    subst (TellsRows pool rows) (sym (ap₂ holders_in whole all))
    (tells_forgot pool rows c.args.number (holders_in users.items clauses.items) (holders_in new lists) none
    (length-map lists (λ v. v.items) ∙ count ∙ sym (length-map clauses.items (λ v. v.items)))
    (λ d i. c.empty_each.ensures.empty d (subst (λ xs. In d xs) (sym own) i))
    (λ d f. c.empty_each.ensures.others d (λ i. f (subst (λ xs. In d xs) own i)) ∙ ap (λ z. list_in z d) c.as_mut_slice.ensures.value)
    c.empty_one.ensures.empty
    (λ n ne. c.empty_one.ensures.others n ne ∙ ap (λ z. list_in z n) c.as_mut_slice-2.ensures.value)
    (subst (TellsRows pool rows) (sym c.self.view_is) t))
