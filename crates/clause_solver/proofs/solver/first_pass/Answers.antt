use Rattle.std.proofs.Common.{[]}
use Rattle.clause_solver.specs.{Marking.{set_of_trail}, Engine.{whole_form}}
use Rattle.clause_solver.proofs.{Running.{runs_more, runs_then}, Drains.{whole_own, refuted_more}}
use Rattle.clause_solver.proofs.Calm.{first_waits, sound_from, sound_none, root_calm, root_clash}
use Rattle.clause_solver.proofs.solver.first_pass.Goals as goal

pub returns-then-branch-clause-at : goal.returns-then-branch-clause-at
returns-then-branch-clause-at c =
    let F = whole_form [] c.args.own.now c.args.conflicts.now in
    let r = runs_more c.args.own.now F c.args.trail.now.1 c.propagate_all.new.trail.1 (whole_own [] c.args.own.now c.args.conflicts.now) c.in_ok-propagate_all.ensures.runs in
    root_clash F c.propagate_all.new.trail.1 (sound_from F c.args.trail.now.1 c.propagate_all.new.trail.1 (sound_none F c.args.trail.now.1 c.requires.none) r)
    (refuted_more c.args.own.now F (set_of_trail c.propagate_all.new.trail.1) (whole_own [] c.args.own.now c.args.conflicts.now) (rw c.if-branch.true at c.in_ok-propagate_all.ensures.refuted))

pub propagate-requires-clause-waits : goal.propagate-requires-clause-waits
propagate-requires-clause-waits c = first_waits c.args.own.now c.args.conflicts.now c.args.trail.now.1 c.propagate_all.new.trail.1 c.requires.none c.requires.apart (rw c.if-branch.false at c.in_ok-propagate_all.ensures.waits)

pub returns-then-branch-2-clause-at : goal.returns-then-branch-2-clause-at
returns-then-branch-2-clause-at c =
    let F = whole_form [] c.args.own.now c.args.conflicts.now in
    let r = runs_more c.args.own.now F c.args.trail.now.1 c.propagate_all.new.trail.1 (whole_own [] c.args.own.now c.args.conflicts.now) c.in_ok-propagate_all.ensures.runs in
    let s = runs_then F c.args.trail.now.1 c.propagate_all.new.trail.1 c.propagate.new.trail.1 r c.in_ok-propagate.ensures.runs in
    root_clash F c.propagate.new.trail.1 (sound_from F c.args.trail.now.1 c.propagate.new.trail.1 (sound_none F c.args.trail.now.1 c.requires.none) s) (rw c.if-branch-2.true at c.in_ok-propagate.ensures.refuted)

pub returns-clause-at : goal.returns-clause-at
returns-clause-at c =
    let F = whole_form [] c.args.own.now c.args.conflicts.now in
    let r = runs_more c.args.own.now F c.args.trail.now.1 c.propagate_all.new.trail.1 (whole_own [] c.args.own.now c.args.conflicts.now) c.in_ok-propagate_all.ensures.runs in
    let s = runs_then F c.args.trail.now.1 c.propagate_all.new.trail.1 c.propagate.new.trail.1 r c.in_ok-propagate.ensures.runs in
    root_calm F c.propagate.new.trail.1 (sound_from F c.args.trail.now.1 c.propagate.new.trail.1 (sound_none F c.args.trail.now.1 c.requires.none) s) s.consistent (rw c.if-branch-2.false at c.in_ok-propagate.ensures.closed)
