use Rattle.std.proofs.Common.{◌≡◌, ◌∙◌, ap, cond, length, subst, sym}
use Rattle.clause_pool.specs.Interned.{clauses_at}
use Rattle.listed.specs.Lists.{In}
use Rattle.row_book.specs.{Flags.{flag}, Parts.{number_in, numbers_up}, Uses.{row_id}, Book.{repository_of}}
use Rattle.row_book.proofs.Numbers.{length_numbers}
use Rattle.suite_part.proofs.SmallMade.{apart_there, numbers_count, numbers_within, rows_told, small_is, small_sound}
use Rattle.suite_part.specs.Small.{HaveRivals}
use Rattle.suite_part.proofs.small.small_book.Goals as goal

pub rows_or-requires-clause-count : goal.rows_or-requires-clause-count
rows_or-requires-clause-count c =
    let from = c.args.from.now in
    let book = c.args.book.now in
    let needed = c.in_ok-needed.needed.items in
    let apart = c.in_ok-apart.apart.flags.items in
    let are = apart_there from book c.args.flags.now c.args.changed.now needed c.deref.result.now c.in_ok-rivals.rivals.items apart c.requires.book c.requires.flags c.in_ok-needed.ensures c.deref.ensures.value
    c.in_ok-rivals.ensures c.in_ok-apart.ensures in
    ap length (c.as_slice-2.ensures ∙ c.in_ok-numbers.ensures ∙ ap numbers_up c.deref-2.ensures.value)
    ∙ numbers_count from book c.args.flags.now needed apart are c.part_of.new.pool c.in_ok-part.part c.in_ok-part.ensures.part ∙ ap length (sym c.as_slice.ensures)

pub rows_or-requires-clause-within : goal.rows_or-requires-clause-within
rows_or-requires-clause-within c = λ n i.
    let apart = c.in_ok-apart.apart.flags.items in
    let same : c.as_slice-2.result.now ≡ numbers_up apart = c.as_slice-2.ensures ∙ c.in_ok-numbers.ensures ∙ ap numbers_up c.deref-2.ensures.value in
    let long : length apart ≡ length c.deref-3.result.now =
    ap length c.in_ok-apart.ensures ∙ c.in_ok-rivals.ensures.size ∙ ap length (c.deref.ensures.value ∙ sym c.deref-3.ensures.value) in
    numbers_within apart c.deref-3.result.now long n (subst (λ z. In n z) same i)

pub with_rows-requires : goal.with_rows-requires
with_rows-requires c =
    let rows = c.as_slice.result.now in
    ap length (c.of-2.ensures ∙ c.in_ok-rows.ensures)
    ∙ length_numbers (λ k. cond (flag c.deref-3.result.now (number_in c.as_slice-2.result.now k)) (row_id rows k) c.in_ok-empty.empty) (length rows) 0 ∙ ap length c.as_slice.ensures

pub returns : goal.returns
returns c =
    let from = c.args.from.now in
    let book = c.args.book.now in
    let flags = c.args.flags.now in
    let needed = c.in_ok-needed.needed.items in
    let apart = c.in_ok-apart.apart.flags.items in
    let before = c.part_of.new.pool in
    let after = c.intern_row.new.self in
    let part_book = c.in_ok-part.part in
    let empty = c.in_ok-empty.empty in
    let made = c.in_ok-small.small in
    let are : HaveRivals (repository_of from book) flags needed apart =
    apart_there from book flags c.args.changed.now needed c.deref.result.now c.in_ok-rivals.rivals.items apart c.requires.book c.requires.flags c.in_ok-needed.ensures c.deref.ensures.value c.in_ok-rivals.ensures
    c.in_ok-apart.ensures in
    let lent = rows_told c.deref-3.result.now needed c.as_slice-2.result.now (numbers_up apart) c.as_slice.result.now part_book.rows empty c.deref-3.ensures.value
    (c.as_slice-2.ensures ∙ c.in_ok-numbers.ensures ∙ ap numbers_up c.deref-2.ensures.value) c.as_slice.ensures in
    let rows_are = c.in_ok-small.ensures.rows ∙ c.of-2.ensures ∙ c.in_ok-rows.ensures ∙ lent in
    record {
      needed = needed;
      needed_are = c.in_ok-needed.ensures;
      apart_are = are;
      sound = small_sound from book flags needed apart are before after c.intern_row.ensures.kept part_book c.in_ok-part.ensures.part c.in_ok-part.ensures.sound empty c.in_ok-empty.ensures.ok.within
          (ap (clauses_at after) c.in_ok-empty.ensures.ok.holds) made c.in_ok-small.ensures.conflicts rows_are;
      small_is = small_is from book flags needed apart are before after c.intern_row.ensures.kept part_book c.in_ok-part.ensures.part c.in_ok-part.ensures.sound empty c.in_ok-empty.ensures.ok.within
          (ap (clauses_at after) c.in_ok-empty.ensures.ok.holds) made c.in_ok-small.ensures.conflicts rows_are;
    }
