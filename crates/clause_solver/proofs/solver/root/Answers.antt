use Rattle.clause_solver.specs.{Marking.{set_of_trail}, Engine.{sentences_in}}
use Rattle.clause_solver.proofs.{Running.{runs_more, runs_then}, Drains.{whole_goals, refuted_more}}
use Rattle.clause_solver.proofs.Calm.{base_waits, base_sound, sound_from, root_calm, root_clash}
use Rattle.clause_solver.proofs.solver.root.Goals as goal

pub returns-then-branch-clause-at : goal.returns-then-branch-clause-at
returns-then-branch-clause-at c =
    let F = sentences_in c.args.formula.now in
    let r = runs_more c.args.formula.now.goals.now F c.args.trail.now.1 c.propagate_all.new.trail.1 (whole_goals c.args.formula.now.goals.now c.args.formula.now.own.now c.args.formula.now.conflicts.now) c.in_ok-propagate_all.ensures.runs in
    root_clash F c.propagate_all.new.trail.1 (sound_from F c.args.trail.now.1 c.propagate_all.new.trail.1 (base_sound c.args.formula.now.goals.now c.args.formula.now.own.now c.args.formula.now.conflicts.now c.args.trail.now.1 c.requires.base) r)
    (refuted_more c.args.formula.now.goals.now F (set_of_trail c.propagate_all.new.trail.1) (whole_goals c.args.formula.now.goals.now c.args.formula.now.own.now c.args.formula.now.conflicts.now) (rw c.if-branch.true at c.in_ok-propagate_all.ensures.refuted))

pub propagate-requires-clause-waits : goal.propagate-requires-clause-waits
propagate-requires-clause-waits c =
    rw c.as_slice-from.ensures.items (base_waits c.args.formula.now.goals.now c.args.formula.now.own.now c.args.formula.now.conflicts.now c.args.trail.now.1 c.propagate_all.new.trail.1 c.requires.base c.in_ok-propagate_all.ensures.runs (rw c.if-branch.false at c.in_ok-propagate_all.ensures.waits))

pub returns-then-branch-2-clause-at : goal.returns-then-branch-2-clause-at
returns-then-branch-2-clause-at c =
    let F = sentences_in c.args.formula.now in
    let r = runs_more c.args.formula.now.goals.now F c.args.trail.now.1 c.propagate_all.new.trail.1 (whole_goals c.args.formula.now.goals.now c.args.formula.now.own.now c.args.formula.now.conflicts.now) c.in_ok-propagate_all.ensures.runs in
    let s = runs_then F c.args.trail.now.1 c.propagate_all.new.trail.1 c.propagate.new.trail.1 r c.in_ok-propagate.ensures.runs in
    root_clash F c.propagate.new.trail.1 (sound_from F c.args.trail.now.1 c.propagate.new.trail.1 (base_sound c.args.formula.now.goals.now c.args.formula.now.own.now c.args.formula.now.conflicts.now c.args.trail.now.1 c.requires.base) s) (rw c.if-branch-2.true at c.in_ok-propagate.ensures.refuted)

pub returns-clause-at : goal.returns-clause-at
returns-clause-at c =
    let F = sentences_in c.args.formula.now in
    let r = runs_more c.args.formula.now.goals.now F c.args.trail.now.1 c.propagate_all.new.trail.1 (whole_goals c.args.formula.now.goals.now c.args.formula.now.own.now c.args.formula.now.conflicts.now) c.in_ok-propagate_all.ensures.runs in
    let s = runs_then F c.args.trail.now.1 c.propagate_all.new.trail.1 c.propagate.new.trail.1 r c.in_ok-propagate.ensures.runs in
    root_calm F c.propagate.new.trail.1 (sound_from F c.args.trail.now.1 c.propagate.new.trail.1 (base_sound c.args.formula.now.goals.now c.args.formula.now.own.now c.args.formula.now.conflicts.now c.args.trail.now.1 c.requires.base) s) s.consistent (rw c.if-branch-2.false at c.in_ok-propagate.ensures.closed)
