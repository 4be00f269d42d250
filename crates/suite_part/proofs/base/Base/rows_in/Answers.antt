use Rattle.std.proofs.{Common.{◌∙◌, ap, length, refl, subst, sym}, lemmas.Option.{none-some, same_Some}}
use Rattle.suite_part.specs.{Renewed.{AreRenewed, AreRowsOf}, Small.{IsSmallBook}}
use Rattle.suite_part.proofs.{BaseMade.{base_fits}, Renewing.{base_kept, base_rows_kept, flat_rows_made, mix_rows, passes_there}}
use Rattle.suite_part.proofs.base.Base.rows_in.Goals as goal

pub changed_by-requires-clause-fits : goal.changed_by-requires-clause-fits
changed_by-requires-clause-fits c = base_fits c.args.from.now c.args.book.now c.args.self.now c.requires.book c.requires.base

pub returns-in-Err-Limit-clause-passed : goal.returns-in-Err-Limit-clause-passed
returns-in-Err-Limit-clause-passed c =
    let from = c.args.from.now in
    let book = c.args.book.now in
    let flags = c.args.flags.now in
    let changed = c.in_ok-changed.changed.items in
    let small = c.in_ok-small.small in
    let small_is = subst (λ z. IsSmallBook from book flags z small) c.deref.ensures.value c.in_ok-small.ensures in
    let over = rw c.in-Err-Limit.field-0-is at c.in-Err-Limit.ensures.passed in
    λ _ none.
    none-some _
    (sym (passes_there from book c.args.self.now flags changed small c.requires.book c.requires.base (c.in_ok-changed.ensures.size ∙ sym c.requires.flags)
    (c.in_ok-changed.ensures.changed from c.requires.book c.requires.base.users_are) small_is none)
    ∙ over)

pub renewed_rows-requires-clause-made : goal.renewed_rows-requires-clause-made
renewed_rows-requires-clause-made c =
    subst (λ z. AreRowsOf c.flatten.new.pool c.in_ok-small.small.apart.flags.items z) (sym c.as_slice.ensures)
    (flat_rows_made c.args.from.now c.args.book.now c.args.flags.now c.deref.result.now c.in_ok-small.small c.requires.book c.in_ok-small.ensures c.args.self.now.limit c.flatten.new.pool c.in-Ok.made.book
    c.in-Ok.ensures.sound c.in-Ok.ensures.flat)

pub invariant_of-self : goal.invariant_of-self
invariant_of-self c = record {
  rows_are = base_rows_kept c.args.self.now.pool c.renewed_rows.new.pool c.args.self.now.rows.items (length c.args.self.now.flags.items) c.renewed_rows.ensures.kept c.args.self.now.rows_are;
}

pub returns-in_err-rows-clause-base : goal.returns-in_err-rows-clause-base
returns-in_err-rows-clause-base c = base_kept c.args.from.now c.args.book.now c.args.self.now _ c.requires.base c.args.self.now.rows_are c.renewed_rows.ensures.kept refl refl refl refl

pub returns-clause-base : goal.returns-clause-base
returns-clause-base c = base_kept c.args.from.now c.args.book.now c.args.self.now _ c.requires.base c.args.self.now.rows_are c.renewed_rows.ensures.kept refl refl refl refl

pub returns-clause-rows : goal.returns-clause-rows
returns-clause-rows c = λ x is.
    let from = c.args.from.now in
    let book = c.args.book.now in
    let flags = c.args.flags.now in
    let base = c.args.self.now in
    let changed = c.in_ok-changed.changed.items in
    let small = c.in_ok-small.small in
    let apart = small.apart.flags.items in
    let work = c.flatten.new.pool in
    let flat = c.in-Ok.made.book in
    let pool = c.renewed_rows.new.pool in
    let more = c.in_ok-rows.rows.items in
    let small_is = subst (λ z. IsSmallBook from book flags z small) c.deref.ensures.value c.in_ok-small.ensures in
    let first = subst (λ z. AreRenewed work z apart c.deref-3.result.now pool c.deref-2.result.now more) c.as_slice.ensures c.in_ok-rows.ensures.rows in
    let second = subst (λ z. AreRenewed work flat.rows apart z pool c.deref-2.result.now more) c.deref-3.ensures.value first in
    let renewed = subst (λ z. AreRenewed work flat.rows apart changed pool z more) c.deref-2.ensures.value second in
    mix_rows from book base flags changed small c.requires.book c.requires.base c.requires.flags (c.in_ok-changed.ensures.size ∙ sym c.requires.flags)
    (c.in_ok-changed.ensures.changed from c.requires.book c.requires.base.users_are) small_is work flat c.in-Ok.ensures.sound c.in-Ok.ensures.flat base.rows_are pool more c.renewed_rows.ensures.kept renewed _ _ refl refl
    (ap (λ v. v.items) (same_Some _ x is)) c.in-Ok.ensures.within
