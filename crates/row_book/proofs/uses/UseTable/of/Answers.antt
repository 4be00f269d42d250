use Rattle.std.proofs.{Common.{◌≡◌, ◌<◌, ◌+◌, ◌++◌, ◌∙◌, ap, sym, subst, length, take, drop, arith}, lemmas.List.{length-map}}
use Rattle.listed.specs.Lists.{In, has}
use Rattle.row_book.specs.Uses.{IsListOf, list_in, lists_in}
use Rattle.listed.proofs.Lists.{item_in}
use Rattle.row_book.proofs.Users.{held_within, is_uses_of, lent_whole, row_added, row_numbers, uses_number}
use Rattle.row_book.proofs.uses.UseTable.of.Goals as goal

pub row-requires : goal.row-requires
row-requires c = c.requires.fit.of_pool c.index-rows-number.result (item_in c.args.rows.now c.loop-number.number c.index-rows-number.result c.loop-number-test.true c.index-rows-number.is)

pub add_to_each-requires : goal.add_to_each-requires
add_to_each-requires c = λ n h.
    let row = c.index-rows-number.result in
    let i : In row c.args.rows.now = item_in c.args.rows.now c.loop-number.number row c.loop-number-test.true c.index-rows-number.is in
    subst (λ size. n < size) (sym (ap length c.as_mut_slice.ensures.value ∙ c.loop-number.invariant.size))
    (held_within c.args.pool.now c.args.rows.now row n c.requires.fit i (sym (row_numbers c.args.pool.now row c.row.result.now c.in_ok-numbers.numbers.items c.row.ensures.lent c.in_ok-numbers.ensures n) ∙ ap (λ xs. has xs n) (sym c.as_slice.ensures.value) ∙ h))

pub loop-number-preserved : goal.loop-number-preserved
loop-number-preserved c =
    let users = c.loop-number.users in
    let new = c.add_to_each.new.table in
    let k = c.loop-number.number in
    let size : length new ≡ length users.items = c.add_to_each.auto.table ∙ ap length c.as_mut_slice.ensures.value in
    let whole : take users.len (new ++ drop (length new) users.items) ≡ new = lent_whole users.len new users.items size users.ok.0 in
    record {
      size = ap length whole ∙ size ∙ c.loop-number.invariant.size;
      listed = λ n.
          subst (λ t. IsListOf (uses_number c.args.pool.now c.args.rows.now (k + 1) n) (list_in t n)) (sym whole)
          (row_added c.args.pool.now c.args.rows.now k c.index-rows-number.result c.index-rows-number.is c.loop-number-test.true users.items c.as_mut_slice.result.now new c.as_slice.result.now c.as_mut_slice.ensures.value
          (λ m. ap (λ xs. has xs m) c.as_slice.ensures.value ∙ row_numbers c.args.pool.now c.index-rows-number.result c.row.result.now c.in_ok-numbers.numbers.items c.row.ensures.lent c.in_ok-numbers.ensures m) c.loop-number.invariant.listed c.in_ok-add_to_each.ensures.ok n);
    }

pub returns : goal.returns
returns c =
    let all : c.loop-number.number ≡ length c.args.rows.now = omega arith in
    is_uses_of (lists_in c.loop-number.users.items) c.args.pool.now c.args.rows.now (length-map c.loop-number.users.items (λ v. v.items) ∙ c.loop-number.invariant.size)
    (λ n l. subst (λ k. IsListOf (uses_number c.args.pool.now c.args.rows.now k n) (list_in c.loop-number.users.items n)) all (c.loop-number.invariant.listed n))
