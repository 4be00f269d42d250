use Rattle.std.proofs.Common.{◌∙◌, ◌+◌, ap, cond, sym, refl, get_or, false}
use Rattle.row_book.specs.Numbers.{numbers}
use Rattle.row_book.proofs.Placed.{place_more, places_more}
use Rattle.suite_part.proofs.subset.places_in.Goals as goal

pub loop-flag-init : goal.loop-flag-init
unfolding numbers
loop-flag-init c = record { made = c.in_ok-places.ensures.items; counted = refl }

pub loop-flag-preserved : goal.loop-flag-preserved
loop-flag-preserved c = record {
  made = places_more c.args.flags.now c.loop-flag.flag-index c.loop-flag.places.items c.push.new.self.items c.loop-flag.count c.loop-flag.invariant.made c.loop-flag.invariant.counted c.in_ok-push.ensures.items;
  counted = c.in_ok-count.ensures ∙ ap (λ n. n + cond (get_or c.args.flags.now c.loop-flag.flag-index false) 1 0) c.loop-flag.invariant.counted
      ∙ sym (place_more c.args.flags.now c.loop-flag.flag-index c.loop-flag-test.true);
}
