use Rattle.std.proofs.{Common.{◌≡◌, ◌<◌, ◌∙◌, ℕ, false, arith, ap, get_or, length, sym}, lemmas.List.{get_or_read}}
use Rattle.listed.proofs.Lists.{In_at}
use Rattle.row_book.proofs.Placed.{among_less, among_more, place_told, places_count}
use Rattle.suite_part.proofs.subset.Subset.put_among.Goals as goal
use Rattle.suite_part.proofs.subset.Subset.put_among.Goals.{then-index+in_ok-push, else-index}

pub index-requires : goal.index-requires
index-requires c =
    let within : get_or c.args.numbers.now c.loop-number.number-index 0 < length c.args.self.now.flags.items = c.requires _ (In_at c.args.numbers.now c.loop-number.number-index 0 c.loop-number-test.true) in
    omega (arith, c.args.self.now.flags.ok.0)

pub index-requires-then-index : goal.index-requires-then-index
index-requires-then-index c =
    let within : get_or c.args.numbers.now c.loop-number.number-index 0 < length c.args.self.now.flags.items = c.requires _ (In_at c.args.numbers.now c.loop-number.number-index 0 c.loop-number-test.true) in
    let count : length c.args.self.now.places.items ≡ length c.args.self.now.flags.items = places_count c.args.self.now.flags.items c.args.self.now.places.items c.args.self.now.numbered in
    omega (arith, c.args.self.now.places.ok.0)

pub loop-number-preserved : goal.loop-number-preserved
loop-number-preserved c =
    let within : get_or c.args.numbers.now c.loop-number.number-index 0 < length c.args.self.now.flags.items = c.requires _ (In_at c.args.numbers.now c.loop-number.number-index 0 c.loop-number-test.true) in
    let flags = c.args.self.now.flags.items in
    let number : ℕ = get_or c.args.numbers.now c.loop-number.number-index 0 in
    let read : c.index.result.now ≡ get_or flags number false = get_or_read flags number c.index.result.now within c.index.ensures false in
    elim c.if-index.branch [
      | then-index+in_ok-push w ↦
          let told = place_told flags c.args.self.now.places.items c.args.self.now.numbered number w.index-then-index.result.now within in
          among_more flags c.args.numbers.now c.loop-number.number-index c.loop-number-test.true c.loop-number.made.items c.loop-number.invariant c.if-index.made.items w.index-then-index.result.now
          (sym read ∙ w.if-index.true) (w.index-then-index.ensures ∙ told) (ap (λ v. v.items) w.made-is ∙ w.in_ok-push.ensures.items)
      | else-index w ↦
          ap (λ v. v.items) w.made-is ∙ among_less flags c.args.numbers.now c.loop-number.number-index c.loop-number-test.true c.loop-number.made.items c.loop-number.invariant (sym read ∙ w.if-index.false)
    ]
