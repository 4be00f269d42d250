use Rattle.std.proofs.Common.{◌≡◌, ◌<◌, ◌+◌, ◌∙◌, [], List, ℕ, ap, arith, false, get_or, length, map, subst, sym}
use Rattle.std.proofs.lemmas.List.{get_or_read, get_or-map, length-map}
use Rattle.row_book.specs.{Parts.{row_in}, Uses.{row_id}}
use Rattle.listed.specs.Lists.{In}
use Rattle.listed.proofs.Lists.{In_at}
use Rattle.clause_pool.specs.Interned.{Interned, row_at}
use Rattle.clause_pool.proofs.Interned.{kept_along}
use Rattle.suite_part.specs.Left.{AreAllLeft}
use Rattle.suite_part.proofs.Parted.{parted_less, parted_more, parted_none, PartedTo}
use Rattle.suite_part.proofs.part.rows_in.Goals as goal
use Rattle.suite_part.proofs.part.rows_in.Goals.{then-index+in_ok-made+in_ok-push, else-index}

pub loop-place-init : goal.loop-place-init
loop-place-init c = record {
  rows = parted_none c.args.pool.now c.args.chosen.now.flags.items (map (row_at c.args.from.now) c.args.book.now.rows) c.new-rows.result.items c.new-rows.ensures.items;
  known = c.in_ok-left.ensures c.args.chosen.now.flags.items c.args.pool.now;
}

pub row_left-requires-clause-id : goal.row_left-requires-clause-id
row_left-requires-clause-id c =
    let in_rows : c.loop-place.place < length c.args.book.now.rows = subst (λ z. c.loop-place.place < z) c.size-place-end.ensures c.loop-place-test.true in
    subst (λ z. z < length c.args.from.now.rows) (sym c.row.ensures) (c.requires.book.rows.of_pool _ (In_at c.args.book.now.rows c.loop-place.place 0 in_rows))

pub row_left-requires-clause-numbers : goal.row_left-requires-clause-numbers
row_left-requires-clause-numbers c = λ d i n j.
    let in_rows : c.loop-place.place < length c.args.book.now.rows = subst (λ z. c.loop-place.place < z) c.size-place-end.ensures c.loop-place-test.true in
    subst (λ z. n < z) (sym c.requires.flags)
    (c.requires.book.rows.numbers (row_id c.args.book.now.rows c.loop-place.place) (In_at c.args.book.now.rows c.loop-place.place 0 in_rows) d
    (subst (λ z. In d z) (ap (row_at c.args.from.now) c.row.ensures) i) n j)

pub loop-place-preserved : goal.loop-place-preserved
loop-place-preserved c =
    let flags = c.args.chosen.now.flags.items in
    let book = c.args.book.now in
    let from = c.args.from.now in
    let place = c.loop-place.place in
    let size = c.requires.flags in
    let table : List (List (List ℕ)) = map (row_at from) book.rows in
    let in_rows : place < length book.rows = subst (λ z. place < z) c.size-place-end.ensures c.loop-place-test.true in
    let count : length table ≡ length book.rows = length-map book.rows (row_at from) in
    let in_flags : place < length flags = omega arith in
    let in_table : place < length table = omega arith in
    let read : c.index.result.now ≡ get_or flags place false = get_or_read flags place c.index.result.now in_flags c.index.ensures false in
    elim c.if-index.branch [
      | then-index+in_ok-made+in_ok-push w ↦
          let new : Interned = w.row_left.new.pool in
          let rows : PartedTo c.args.pool.now new flags table c.if-index.rows.items (place + 1) =
          parted_more c.args.pool.now c.loop-place.pool flags table c.loop-place.rows.items place in_flags in_table c.loop-place.invariant.rows new c.if-index.rows.items w.in_ok-made.made
          c.requires.pool w.row_left.ensures.kept (sym read ∙ w.if-index.true) w.in_ok-made.ensures.row.within
          (w.in_ok-made.ensures.row.is ∙ ap (row_in flags) (ap (row_at from) w.row.ensures ∙ sym (get_or-map (row_at from) book.rows place 0 [] in_rows)))
          (ap (λ v. v.items) w.rows-is ∙ w.in_ok-push.ensures.items) in
          record {
            rows = subst (λ p. PartedTo c.args.pool.now p flags table c.if-index.rows.items (place + 1)) (sym w.pool-is) rows;
            known = subst (λ p. AreAllLeft from flags p c.if-index.left) (sym w.pool-is) (subst (AreAllLeft from flags new) (sym w.left-is) w.in_ok-made.ensures.left);
          }
      | else-index w ↦
          let old : Interned = c.loop-place.pool in
          let rows : PartedTo c.args.pool.now old flags table c.loop-place.rows.items (place + 1) =
          parted_less c.args.pool.now old flags table c.loop-place.rows.items place in_flags in_table c.loop-place.invariant.rows (sym read ∙ w.if-index.false) in
          record {
            rows = subst (λ p. PartedTo c.args.pool.now p flags table c.if-index.rows.items (place + 1)) (sym w.pool-is)
                (subst (λ v. PartedTo c.args.pool.now old flags table v (place + 1)) (sym (ap (λ v. v.items) w.rows-is)) rows);
            known = subst (λ p. AreAllLeft from flags p c.if-index.left) (sym w.pool-is) (subst (AreAllLeft from flags old) (sym w.left-is) c.loop-place.invariant.known);
          }
    ]

pub returns-in_err-made-clause-kept : goal.returns-in_err-made-clause-kept
returns-in_err-made-clause-kept c = kept_along c.args.pool.now c.loop-place.pool c.row_left.new.pool c.loop-place.invariant.rows.kept c.row_left.ensures.kept

pub returns-in_err-push-clause-kept : goal.returns-in_err-push-clause-kept
returns-in_err-push-clause-kept c = kept_along c.args.pool.now c.loop-place.pool c.row_left.new.pool c.loop-place.invariant.rows.kept c.row_left.ensures.kept
