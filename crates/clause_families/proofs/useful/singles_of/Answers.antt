use Rattle.std.proofs.Common.{ap, ◌∙◌}
use Rattle.clause_families.proofs.Families.{of_pool_item, singles_more}
use Rattle.clause_families.proofs.useful.singles_of.Goals as goal
use Rattle.clause_families.proofs.useful.singles_of.Goals.{in-Some+then-literal-spent+in_ok-push, in-Some+else-literal-spent, in_default}

pub slice-requires : goal.slice-requires
slice-requires c = of_pool_item c.args.pool.now c.args.row.now c.loop-id.id-index c.id-item.result c.requires c.loop-id-test.true c.id-item.is

pub loop-id-preserved : goal.loop-id-preserved
loop-id-preserved c =
    elim c.match-single.branch [
      | in-Some+then-literal-spent+in_ok-push w ↦
          singles_more c.args.spent c.args.pool.now c.args.row.now c.loop-id.id-index c.id-item.result c.slice.result.now w.in-Some.literal c.loop-id.singles.items c.match-single.singles.items
          c.loop-id-test.true c.id-item.is c.slice.ensures.lent w.in-Some.ensures w.if-literal-spent.true c.loop-id.invariant (ap (λ z. z.items) w.singles-is ∙ w.in_ok-push.ensures.items)
      | in-Some+else-literal-spent w ↦ rw (ap (λ z. z.items) w.singles-is) c.loop-id.invariant
      | in_default w ↦ rw (ap (λ z. z.items) w.singles-is) c.loop-id.invariant
    ]
