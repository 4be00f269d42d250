use Rattle.std.proofs.Common.{◌<◌, ◌∙◌, get_or, sym, subst}
use Rattle.listed.proofs.Lists.{In_at}
use Rattle.explain_core.proofs.Meetings.{meets_step}
use Rattle.explain_core.proofs.met.Met.meet_all.Goals as goal

pub meet-requires : goal.meet-requires
meet-requires c = subst (λ n. get_or c.args.clause.now c.loop-number.number-index 0 < n) (sym c.loop-number.invariant.size) (c.requires _ (In_at c.args.clause.now c.loop-number.number-index 0 c.loop-number-test.true))

pub loop-number-preserved : goal.loop-number-preserved
loop-number-preserved c = record {
  size = c.in_ok-meet.ensures.size ∙ c.loop-number.invariant.size;
  put = meets_step c.args.self.now.1 c.loop-number.self.1 c.meet.new.self.1 c.args.clause.now c.loop-number.number-index 0 c.loop-number-test.true c.loop-number.invariant.put c.in_ok-meet.ensures.put;
}
