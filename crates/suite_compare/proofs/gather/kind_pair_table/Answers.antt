use Rattle.std.proofs.Common.{◌<◌, ◌∙◌, ap, arith, get_or, length, refl, subst, sym}
use Rattle.listed.{specs.Lists.{In}, proofs.Lists.{In_at}}
use Rattle.suite_compare.proofs.Paired.{listed_below}
use Rattle.suite_compare.proofs.gather.kind_pair_table.Goals as goal

pub kind_pairs_of-requires : goal.kind_pairs_of-requires
kind_pairs_of-requires c = ap length c.deref.ensures.value ∙ c.args.sides.now.old_long ∙ sym (ap length c.deref-2.ensures.value ∙ c.args.sides.now.long)

pub places_by-requires : goal.places_by-requires
places_by-requires c = λ i l.
    let lt = c.in_ok-kind_pairs.ensures.within i (subst (λ z. i < z) (ap length c.deref-3.ensures.value ∙ c.in_ok-kind_pairs.ensures.long) l) in
    rw c.deref-3.ensures.value (omega (arith, lt, c.len.ensures, c.in_ok-kind_pairs.kind_pairs.new.ok.0))

pub places_by-requires-2 : goal.places_by-requires-2
places_by-requires-2 c = λ i l.
    let side = c.args.sides.now.side in
    let j = c.in_ok-kind_pairs.ensures.only_new _ (In_at c.in_ok-kind_pairs.kind_pairs.new.items i 0 (subst (λ z. i < length z) c.deref-4.ensures.value l)) in
    let lt = listed_below side.kind_of.items _ _ refl side.within _ (subst (λ z. In (get_or c.in_ok-kind_pairs.kind_pairs.new.items i 0) z) c.deref-2.ensures.value j) in
    rw c.deref-4.ensures.value (omega (arith, lt, c.len-2.ensures, side.judge.kinds.ok.0))

pub returns-clause-paired : goal.returns-clause-paired
returns-clause-paired c = rw (c.deref.ensures.value, c.deref-2.ensures.value) at c.in_ok-kind_pairs.ensures

pub returns-clause-fits : goal.returns-clause-fits
returns-clause-fits c = record {
  same = c.in_ok-kind_pairs.ensures.same;
  members_long = omega (arith, c.in_ok-members.ensures.size, c.len.ensures, c.in_ok-kind_pairs.kind_pairs.new.ok.0);
  placed = rw c.deref-3.ensures.value at c.in_ok-members.ensures.places;
  sorted = rw c.deref-4.ensures.value at c.in_ok-by_new.ensures.places;
  news = λ a l.
      let side = c.args.sides.now.side in
      let lt = listed_below side.kind_of.items _ _ refl side.within _ (subst (λ z. In (get_or c.in_ok-kind_pairs.kind_pairs.new.items a 0) z) c.deref-2.ensures.value (c.in_ok-kind_pairs.ensures.only_new _ (In_at c.in_ok-kind_pairs.kind_pairs.new.items a 0 l))) in
      omega (arith, lt, c.in_ok-by_new.ensures.size, c.len-2.ensures, side.judge.kinds.ok.0);
}
