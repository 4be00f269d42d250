use Rattle.std.proofs.Common.{get_or, false, arith}
use Rattle.listed.proofs.Lists.{In_at}
use Rattle.explain_core.specs.declared.explanation.Mark.{Mark}
use Rattle.explain_core.proofs.goals.add_marked.Goals as goal

pub overflow_sub-mark : goal.overflow_sub-mark
overflow_sub-mark c =
    let d : Mark = record { goal = 0; unsettled = false } in
    let w = c.requires (get_or c.args.marks.now c.loop-mark.mark-index d) (In_at c.args.marks.now c.loop-mark.mark-index d c.loop-mark-test.true) in omega (arith, w.0)

pub at-requires : goal.at-requires
at-requires c =
    let d : Mark = record { goal = 0; unsettled = false } in
    let w = c.requires (get_or c.args.marks.now c.loop-mark.mark-index d) (In_at c.args.marks.now c.loop-mark.mark-index d c.loop-mark-test.true) in omega (arith, w.0, w.1)
