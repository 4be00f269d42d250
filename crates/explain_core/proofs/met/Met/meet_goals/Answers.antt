use Rattle.std.proofs.Common.{◌<◌, ◌∙◌, [], get_or, length, sym, subst}
use Rattle.listed.specs.Lists.{In}
use Rattle.listed.proofs.Lists.{In_at}
use Rattle.explain_core.specs.Meeting.{Meets}
use Rattle.explain_core.proofs.Meetings.{meets_list}
use Rattle.explain_core.proofs.met.Met.meet_goals.Goals as goal

pub meet_all-requires : goal.meet_all-requires
meet_all-requires c = λ n i.
    let l : c.loop-place.place < length c.args.goals.now = subst (λ k. c.loop-place.place < k) c.count-place-end.ensures.count c.loop-place-test.true in
    subst (λ k. n < k) (sym c.loop-place.invariant.size)
    (c.requires (get_or c.args.goals.now c.loop-place.place []) (In_at c.args.goals.now c.loop-place.place [] l) n (subst (λ ns. In n ns) c.at.ensures.clause i))

pub loop-place-preserved : goal.loop-place-preserved
loop-place-preserved c = record {
  size = c.in_ok-meet_all.ensures.size ∙ c.loop-place.invariant.size;
  put =
      let l : c.loop-place.place < length c.args.goals.now = subst (λ k. c.loop-place.place < k) c.count-place-end.ensures.count c.loop-place-test.true in
      meets_list c.args.self.now.1 c.loop-place.self.1 c.meet_all.new.self.1 c.args.goals.now c.loop-place.place [] l c.loop-place.invariant.put
      (subst (λ m. Meets c.loop-place.self.1 c.meet_all.new.self.1 m) c.at.ensures.clause c.in_ok-meet_all.ensures.put);
}
