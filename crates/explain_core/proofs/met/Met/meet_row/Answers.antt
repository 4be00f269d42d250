use Rattle.std.proofs.Common.{◌<◌, ◌∙◌, sym, subst}
use Rattle.clause_pool.specs.Interned.{clause_at}
use Rattle.listed.specs.Lists.{In}
use Rattle.listed.proofs.Lists.{In_map, item_in}
use Rattle.explain_core.specs.Meeting.{Meets}
use Rattle.explain_core.proofs.Meetings.{meets_row}
use Rattle.explain_core.proofs.met.Met.meet_row.Goals as goal

pub slice-requires : goal.slice-requires
slice-requires c = c.requires.row c.id-item.result (item_in c.args.row.now c.loop-id.id-index c.id-item.result c.loop-id-test.true c.id-item.is)

pub meet_all-requires : goal.meet_all-requires
meet_all-requires c = λ n i.
    subst (λ k. n < k) (sym c.loop-id.invariant.size)
    (c.requires.fit (clause_at c.args.pool.now c.id-item.result) (In_map (clause_at c.args.pool.now) c.args.row.now c.id-item.result (item_in c.args.row.now c.loop-id.id-index c.id-item.result c.loop-id-test.true c.id-item.is)) n
    (subst (λ ns. In n ns) c.slice.ensures.lent i))

pub loop-id-preserved : goal.loop-id-preserved
loop-id-preserved c = record {
  size = c.in_ok-meet_all.ensures.size ∙ c.loop-id.invariant.size;
  put = meets_row c.args.self.now.1 c.loop-id.self.1 c.meet_all.new.self.1 (clause_at c.args.pool.now) c.args.row.now c.loop-id.id-index c.id-item.result c.loop-id-test.true c.id-item.is c.loop-id.invariant.put
      (subst (λ m. Meets c.loop-id.self.1 c.meet_all.new.self.1 m) c.slice.ensures.lent c.in_ok-meet_all.ensures.put);
}
