use Rattle.std.proofs.{Common.{◌≡◌, ◌∙◌, ap, length, map, subst, sym}, lemmas.List.{length-map}}
use Rattle.clause_pool.specs.{Interned.{row_at}, Compacting.{RowsOf}}
use Rattle.row_book.specs.Book.{IsSameBook}
use Rattle.row_book.proofs.Moved.{ok_both, same_book}
use Rattle.row_book.proofs.book.Book.carry.Goals as goal

pub carry_rows-requires : goal.carry_rows-requires
carry_rows-requires c = subst (RowsOf c.args.from.now) (sym c.as_slice.ensures) c.requires.rows.of_pool

pub with_rows-requires : goal.with_rows-requires
with_rows-requires c =
    let f = row_at c.carry_rows.new.self in
    let g = row_at c.args.from.now in
    ap length c.of.ensures ∙ sym (length-map c.in_ok-rows.rows.items f) ∙ ap length c.in_ok-rows.ensures.same ∙ length-map c.as_slice.result.now g ∙ ap length c.as_slice.ensures

pub returns-clause-same : goal.returns-clause-same
returns-clause-same c =
    ok_both (λ book. book.rows ≡ c.of.result) (λ book. book.conflicts ≡ c.args.self.now.conflicts)
    (λ book. IsSameBook c.args.from.now c.args.self.now c.carry_rows.new.self book) c.with_rows.result
    (λ book e f.
    let is : book.rows ≡ c.in_ok-rows.rows.items = e ∙ c.of.ensures in
    same_book c.args.from.now c.args.self.now c.carry_rows.new.self book c.carry_rows.ensures.sound
    (ap (map (row_at c.carry_rows.new.self)) is ∙ c.in_ok-rows.ensures.same ∙ ap (map (row_at c.args.from.now)) c.as_slice.ensures) f
    (subst (RowsOf c.carry_rows.new.self) (sym is) c.in_ok-rows.ensures.within))
    c.with_rows.ensures.rows c.with_rows.ensures.conflicts
