use Rattle.std.proofs.{Common.{◌≡◌, ◌<◌, ◌∙◌, ap, false, length, subst, sym, true}, lemmas.List.{get_or_default, get_or_read}, lemmas.Option.{same_Some}}
use Rattle.row_book.specs.{Flags.{flag}, Parts.{place_in}, Uses.{row_id}}
use Rattle.row_book.proofs.{Flags.{flag_in}, Placed.{place_rises}}
use Rattle.suite_part.proofs.renewed.new_row.Goals as goal
use Rattle.suite_part.proofs.renewed.new_row.Goals.{After-place}

-- the package is in the part
up : (c : After-place) → flag c.args.apart.now.flags.items c.args.number ≡ true
up c =
    let flags = c.args.apart.now.flags.items in
    let within : c.args.number < length flags = subst (λ z. c.args.number < z) c.requires.changed c.requires.number in
    sym (get_or_read flags c.args.number c.index.result.now within c.index.ensures false) ∙ c.if-not-index.false

-- its place is one of the rows
below : (c : After-place) → c.place.result < length c.args.made.now
below c =
    let flags = c.args.apart.now.flags.items in
    let n = c.args.number in
    let rises : place_in flags n < place_in flags (length flags) = place_rises flags n (length flags) (up c) (flag_in flags n (up c)) in
    subst (λ z. z < length c.args.made.now) (sym c.place.ensures) (subst (λ z. place_in flags n < z) (sym c.requires.made) rises)

pub bounds-made-place : goal.bounds-made-place
bounds-made-place c = below (goal.at.bounds-made-place c).After-place

pub returns-clause-some : goal.returns-clause-some
returns-clause-some c = λ id told.
    let at = (goal.at.returns-clause-some c).After-place in
    let made = c.args.made.now in
    record {
      there = up at;
      changed_is = c.if-not-changed-number.false;
      is = ap (row_id made) (sym c.place.ensures) ∙ get_or_default made c.place.result 0 c.index-made-place.result (below at) ∙ sym c.index-made-place.is ∙ same_Some _ id told;
    }
