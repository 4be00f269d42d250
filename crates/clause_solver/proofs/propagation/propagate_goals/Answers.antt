use Rattle.clause_solver.proofs.{Running.{runs_none}, Drains.{each_goal_waits, no_goal_waits}}
use Rattle.clause_solver.proofs.propagation.propagate_goals.Goals as goal

pub returns-then-l-clause-runs : goal.returns-then-l-clause-runs
returns-then-l-clause-runs c = runs_none c.args.goals.now c.args.trail.now.1 c.requires.consistent

pub returns-then-l-clause-waits : goal.returns-then-l-clause-waits
returns-then-l-clause-waits c = no_goal_waits c.args.goals.now c.args.l c.args.trail.now.1 c.args.trail.now.1 c.requires.positive c.if-l.true

pub returns-clause-waits : goal.returns-clause-waits
returns-clause-waits c = each_goal_waits c.args.goals.now c.args.l c.args.trail.now.1 c.propagate_all.new.trail.1 (rw c.if-branch.false at c.in_ok-propagate_all.ensures.waits)
