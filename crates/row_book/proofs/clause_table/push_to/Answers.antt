use Rattle.std.proofs.Common.{get_or, refl, subst, sym}
use Rattle.row_book.specs.{Holders.{HasAll}, Uses.{lists_in}}
use Rattle.row_book.proofs.{Holders.{gains_none, pushed_came, pushed_stays, pushed_there}, Tables.{lists_kept}}
use Rattle.row_book.proofs.clause_table.push_to.Goals as goal

pub returns-in_err-push-clause-stays : goal.returns-in_err-push-clause-stays
returns-in_err-push-clause-stays c =
    subst (HasAll (lists_in c.args.lists.now)) (sym (lists_kept c.args.lists.now c.args.number (get_or c.args.lists.now c.args.number c.index-lists-number.result) c.push.new.self c.index-lists-number.result c.requires refl c.in_err-push.ensures.items))
    (λ n m i. i)

pub returns-in_err-push-clause-came : goal.returns-in_err-push-clause-came
returns-in_err-push-clause-came c =
    gains_none _ c.args.item (lists_in c.args.lists.now) _
    (lists_kept c.args.lists.now c.args.number (get_or c.args.lists.now c.args.number c.index-lists-number.result) c.push.new.self c.index-lists-number.result c.requires refl c.in_err-push.ensures.items)

pub returns-clause-there : goal.returns-clause-there
returns-clause-there c =
    pushed_there c.args.lists.now c.args.number c.args.item c.push.new.self c.index-lists-number.result c.requires c.in_ok-push.ensures.items

pub returns-clause-stays : goal.returns-clause-stays
returns-clause-stays c =
    pushed_stays c.args.lists.now c.args.number c.args.item c.push.new.self c.index-lists-number.result c.requires c.in_ok-push.ensures.items

pub returns-clause-came : goal.returns-clause-came
returns-clause-came c =
    pushed_came c.args.lists.now c.args.number c.args.item c.push.new.self c.index-lists-number.result c.requires c.in_ok-push.ensures.items
