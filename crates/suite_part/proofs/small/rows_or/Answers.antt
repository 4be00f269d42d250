use Rattle.std.proofs.{Common.{◌≡◌, ◌<◌, ◌∙◌, ap, cond, subst, sym}, lemmas.List.{get_or_read}}
use Rattle.row_book.specs.{Flags.{flag}, Numbers.{numbers}, Parts.{number_in}, Uses.{row_id}}
use Rattle.listed.proofs.Lists.{In_at}
use Rattle.suite_part.proofs.SmallMade.{row_more}
use Rattle.suite_part.proofs.small.rows_or.Goals as goal
use Rattle.suite_part.proofs.small.rows_or.Goals.{then-is_needed, else-is_needed}

pub loop-place-init : goal.loop-place-init
unfolding numbers
loop-place-init c = c.in_ok-made.ensures.items

pub bounds-needed-packages : goal.bounds-needed-packages
bounds-needed-packages c = c.requires.within _ (In_at c.args.packages.now c.loop-place.place 0 (subst (λ z. c.loop-place.place < z) (sym c.requires.count) c.loop-place-test.true))

pub loop-place-preserved : goal.loop-place-preserved
loop-place-preserved c =
    let rows = c.args.rows.now in
    let packages = c.args.packages.now in
    let needed = c.args.needed.now in
    let other = c.args.other in
    let place = c.loop-place.place in
    let read : c.index-rows-place.result ≡ row_id rows place = get_or_read rows place c.index-rows-place.result c.loop-place-test.true c.index-rows-place.is 0 in
    let is : c.if-is_needed.push ≡ cond (flag needed (number_in packages place)) (row_id rows place) other = elim c.if-is_needed.branch [
      | then-is_needed w ↦ w.push-is ∙ read ∙ sym (ap (λ b. cond b (row_id rows place) other) w.if-is_needed.true)
      | else-is_needed w ↦ w.push-is ∙ sym (ap (λ b. cond b (row_id rows place) other) w.if-is_needed.false)
    ] in
    row_more (λ k. cond (flag needed (number_in packages k)) (row_id rows k) other) place c.loop-place.made.items c.push.new.self.items c.if-is_needed.push c.loop-place.invariant is c.in_ok-push.ensures.items
