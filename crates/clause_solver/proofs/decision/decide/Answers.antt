use Rattle.std.proofs.Common.{◌≡◌, ◌++◌, ◌∷◌, [], ap}
use Rattle.clause_solver.specs.{Marking.{set_of_trail}, Engine.{sentences_in}}
use Rattle.clause_solver.proofs.{Running.{consistent_push}, Calm.{closure_closed, undecided_not, assume_waits, assume_calm, assume_clash}}
use Rattle.clause_solver.proofs.decision.decide.Goals as goal

pub propagate-requires-clause-consistent : goal.propagate-requires-clause-consistent
propagate-requires-clause-consistent c =
    let e : c.put.new.self.1 ≡ c.args.trail.now.1 ++ c.args.l ∷ [] = ap (λ w. w.1) c.in_ok-put.ensures.ok in
    rw e (consistent_push c.args.trail.now.1 c.args.l c.requires.calm.1.consistent (undecided_not (set_of_trail c.args.trail.now.1) c.args.l c.requires.undecided).1)

pub propagate-requires-clause-waits : goal.propagate-requires-clause-waits
propagate-requires-clause-waits c =
    let F = sentences_in c.args.formula.now in
    let e : c.put.new.self.1 ≡ c.args.trail.now.1 ++ c.args.l ∷ [] = ap (λ w. w.1) c.in_ok-put.ensures.ok in
    rw (c.as_slice-from.ensures.items, e) (assume_waits F c.args.trail.now.1 c.args.l (closure_closed F c.requires.calm.0 (set_of_trail c.args.trail.now.1) c.requires.calm.1.closure))

pub returns-then-branch-clause-contradiction : goal.returns-then-branch-clause-contradiction
returns-then-branch-clause-contradiction c = λ decisions calm.
    let e : c.put.new.self.1 ≡ c.args.trail.now.1 ++ c.args.l ∷ [] = ap (λ w. w.1) c.in_ok-put.ensures.ok in
    assume_clash (sentences_in c.args.formula.now) decisions c.args.trail.now.1 c.propagate.new.trail.1 c.args.l (rw e at c.in_ok-propagate.ensures.runs) (rw c.if-branch.true at c.in_ok-propagate.ensures.refuted) calm

pub returns-clause-calm : goal.returns-clause-calm
returns-clause-calm c = λ decisions calm.
    let e : c.put.new.self.1 ≡ c.args.trail.now.1 ++ c.args.l ∷ [] = ap (λ w. w.1) c.in_ok-put.ensures.ok in
    assume_calm (sentences_in c.args.formula.now) decisions c.args.trail.now.1 c.propagate.new.trail.1 c.args.l (rw e at c.in_ok-propagate.ensures.runs) (rw c.if-branch.false at c.in_ok-propagate.ensures.closed) calm
