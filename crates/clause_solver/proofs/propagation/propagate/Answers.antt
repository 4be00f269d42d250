use Rattle.std.proofs.Common.{◌<◌, ◌≤◌, ◌∙◌, length}
use Rattle.clause_solver.specs.Engine.{sentences_in}
use Rattle.clause_solver.proofs.{Running.{runs_then}, Drains.{drain_step, drained, read_at}}
use Rattle.clause_solver.proofs.propagation.propagate.Goals as goal

pub returns-then-branch-clause-runs : goal.returns-then-branch-clause-runs
returns-then-branch-clause-runs c =
    runs_then (sentences_in c.args.formula.now) c.args.trail.now.1 c.loop-next.trail.1 c.propagate_literal.new.trail.1 c.loop-next.invariant.runs c.in_ok-propagate_literal.ensures.runs

pub loop-next-preserved : goal.loop-next-preserved
loop-next-preserved c =
    let F = sentences_in c.args.formula.now in
    let lt : c.loop-next.next < length c.loop-next.trail.1 = rw c.as_slice.ensures.items at c.loop-next-test.true in
    record {
      classes = c.in_ok-propagate_literal.ensures.classes ∙ c.loop-next.invariant.classes;
      runs = runs_then F c.args.trail.now.1 c.loop-next.trail.1 c.propagate_literal.new.trail.1 c.loop-next.invariant.runs c.in_ok-propagate_literal.ensures.runs;
      waits = drain_step F c.loop-next.trail.1 c.propagate_literal.new.trail.1 c.loop-next.next _ lt
          (read_at c.loop-next.trail.1 c.as_slice-in-loop-next.result.now c.loop-next.next _ c.as_slice-in-loop-next.ensures.items lt)
          c.in_ok-propagate_literal.ensures.runs c.loop-next.invariant.waits (rw c.if-branch.false at c.in_ok-propagate_literal.ensures.waits);
    }

pub returns-clause-closed : goal.returns-clause-closed
returns-clause-closed c =
    let le : length c.loop-next.trail.1 ≤ c.loop-next.next = rw c.as_slice.ensures.items at c.loop-next-test.false in
    drained (sentences_in c.args.formula.now) c.loop-next.trail.1 c.loop-next.next le c.loop-next.invariant.waits
