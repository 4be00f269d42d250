use Rattle.std.proofs.Common.{◌∙◌, ◌&&◌, ◌||◌, eqb, ap, ap₂, sym, subst, refl}
use Rattle.clause_pool.specs.Interned.{clauses_at}
use Rattle.listed.specs.Lists.{has}
use Rattle.row_book.specs.Uses.{list_in, row_id, some_holds, IsListOf}
use Rattle.row_book.proofs.Users.{shifts_of, uses_replaced}
use Rattle.row_book.proofs.uses.exchange.Goals as goal

pub returns-clause-ok : goal.returns-clause-ok
returns-clause-ok c = λ rows l d g e.
    let pool = c.args.pool.now in
    let old = row_id rows c.args.package in
    let lost = c.args.changes.now.lost.items in
    let gained = c.args.changes.now.gained.items in
    uses_replaced pool rows c.args.package old c.args.new l refl c.args.table.now c.add_gained.new.table c.take_from_each.new.table c.as_slice-4.result.now c.as_slice-5.result.now
    (some_holds (clauses_at pool gained)) e c.add_gained.auto.table c.take_from_each.auto.table
    (λ n. shifts_of pool old c.args.new lost gained c.as_slice-4.result.now n d g
    (ap (λ xs. has xs n) c.as_slice-4.ensures.value ∙ c.in_ok-before.ensures.members n ∙ ap (λ ids. some_holds (clauses_at pool ids) n) c.as_slice.ensures.value))
    (λ n. ap (λ xs. has xs n) c.as_slice-5.ensures.value ∙ c.in_ok-kept.ensures.members n
    ∙ ap₂ (λ ids xs. some_holds (clauses_at pool ids) n && has xs n) c.row.ensures.lent (c.as_slice-2.ensures.value ∙ sym c.as_slice-4.ensures.value))
    (λ n a. subst (λ ids. IsListOf (λ m. has (list_in c.args.table.now n) m || (some_holds (clauses_at pool ids) n && eqb m c.args.package)) (list_in c.add_gained.new.table n)) c.as_slice-3.ensures.value (c.in_ok-add_gained.ensures.ok n a))
    c.take_from_each.ensures
