use Rattle.std.proofs.{Common.{arith, inl, inr, Err}, lemmas.Bool.{both_ways}}
use Rattle.listed.specs.Lists.{has}
use Rattle.row_book.specs.Uses.{IsPlaceOf}
use Rattle.row_book.proofs.Inserts.{found_is_there, missed, inserted_list}
use Rattle.row_book.proofs.uses.put.Goals as goal

pub returns-in-Err : goal.returns-in-Err
returns-in-Err c = λ a d.
    let xs = c.args.list.now.items in
    let p = c.args.number in
    let s : IsPlaceOf xs p (Err c.in-Err.place) = (rw c.as_slice.ensures.value at c.in-Err.ensures.place) a in
    elim d [
      | inl h ↦ absurd (both_ways (has xs p) (missed xs p c.in-Err.place s) h)
      | inr r ↦ inserted_list xs c.insert.new.self.items p c.in-Err.place c.insert.result (c.insert.ensures.succeeds (omega arith)) c.insert.ensures.items a s
    ]

pub returns-in_default : goal.returns-in_default
returns-in_default c = λ a d.
    found_is_there c.args.list.now.items c.args.number c.in_default.field-0 a ((rw c.as_slice.ensures.value at c.in_default.ensures.place) a)
