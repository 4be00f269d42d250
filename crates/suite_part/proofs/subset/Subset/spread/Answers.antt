use Rattle.std.proofs.{Common.{◌≤◌, ◌∙◌, ap, arith, length, map}, lemmas.List.{take_all}, lemmas.Simd.{map-map}}
use Rattle.row_book.specs.{Numbers.{numbers}, Parts.{number_in, place_in}}
use Rattle.suite_part.proofs.subset.Subset.spread.Goals as goal

pub returns : goal.returns
returns c =
    let flags = c.args.self.now.flags.items in
    let places = c.args.self.now.places.items in
    let list = c.args.list.now in
    let last : length places ≤ c.loop-place.place-index = omega (arith, c.loop-place-test.false) in
    c.loop-place.invariant ∙ ap (map (number_in list)) (take_all c.loop-place.place-index places last ∙ c.args.self.now.numbered)
    ∙ map-map (number_in list) (place_in flags) (numbers (length flags) 0)
