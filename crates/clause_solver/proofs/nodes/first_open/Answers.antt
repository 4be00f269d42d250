use Rattle.std.proofs.Common.{arith, drop, subst}
use Rattle.clause_solver.specs.{Marking.{set_of_trail}, Starts.{IsSwept}}
use Rattle.clause_solver.proofs.Openings.{first_below, slice_behind, start_swept}
use Rattle.clause_solver.proofs.nodes.first_open.Goals as goal

pub returns-then-least-start-clause-first : goal.returns-then-least-start-clause-first
returns-then-least-start-clause-first c =
    let trail = c.args.trail.now.1 in
    let start = c.args.start.now in
    let swept = subst (λ seen. IsSwept (set_of_trail trail) c.args.own.now c.args.uses.now seen start.place c.least_open-least.result) (slice_behind start.height c.as_slice.result.now trail c.as_slice.ensures.items) c.least_open-least.ensures in
    first_below c.args.own.now c.args.uses.now trail (drop start.height trail) start c.least_open-least.result c.requires.start c.if-least-start.true
    (start_swept c.args.trail.now.0 c.args.own.now c.args.uses.now trail start c.least_open-least.result c.requires.table c.requires.start swept) swept

pub open_from-place-requires-clause-none : goal.open_from-place-requires-clause-none
open_from-place-requires-clause-none c k lt =
    let trail = c.args.trail.now.1 in
    let start = c.args.start.now in
    let swept = subst (λ seen. IsSwept (set_of_trail trail) c.args.own.now c.args.uses.now seen start.place c.least_open-least.result) (slice_behind start.height c.as_slice.result.now trail c.as_slice.ensures.items) c.least_open-least.ensures in
    start_swept c.args.trail.now.0 c.args.own.now c.args.uses.now trail start c.least_open-least.result c.requires.table c.requires.start swept k (let ge = c.if-least-start.false in omega (arith, lt, ge))
