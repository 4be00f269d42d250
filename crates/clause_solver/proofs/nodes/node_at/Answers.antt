use Rattle.std.proofs.Common.{◌≡◌, ◌∙◌, sym, Some, None}
use Rattle.std.specs.List.{find}
use Rattle.search_terms.specs.Tree.{is_undecided}
use Rattle.search_terms.proofs.Sets.{find_some}
use Rattle.clause_solver.specs.Marking.{set_of_trail}
use Rattle.clause_solver.proofs.Calm.{look_found, look_split, look_never, undecided_class}
use Rattle.clause_solver.proofs.nodes.node_at.Goals as goal

-- an open need of a calm node has an undecided member
pub unreachable-requires : goal.unreachable-requires
unreachable-requires c =
    let none : find (is_undecided (set_of_trail c.args.trail.now.1)) c.in-Some.need.now ≡ None = rw c.as_slice.ensures at (sym c.undecided.ensures ∙ c.in-None-undecided.is) in
    look_never c.args.trail.now.0 c.args.formula.now.goals.now c.args.formula.now.own.now c.args.formula.now.uses.now c.args.formula.now.conflicts.now c.requires.engine c.requires.negative c.requires.full c.requires.calm.0 c.args.trail.now.1 c.in-Some.need.now c.requires.calm.1 c.in-Some.ensures.first none

pub returns-in-None-clause-node : goal.returns-in-None-clause-node
returns-in-None-clause-node c = λ decisions calm.
    rw (← c.requires.classes) (look_found c.args.trail.now.0 c.args.formula.now.goals.now c.args.formula.now.own.now c.args.formula.now.uses.now c.args.formula.now.conflicts.now c.requires.engine c.requires.negative c.requires.full decisions c.args.trail.now.1 calm c.in-None.ensures.first)

pub returns-in-Some-undecided-clause-node : goal.returns-in-Some-undecided-clause-node
returns-in-Some-undecided-clause-node c = λ decisions calm.
    let least : find (is_undecided (set_of_trail c.args.trail.now.1)) c.in-Some.need.now ≡ Some c.in-Some-undecided.member = rw c.as_slice.ensures at (sym c.undecided.ensures ∙ c.in-Some-undecided.is) in
    rw (← c.requires.classes) (look_split c.args.trail.now.0 c.args.formula.now.goals.now c.args.formula.now.own.now c.args.formula.now.uses.now c.args.formula.now.conflicts.now c.requires.engine c.requires.negative c.requires.full decisions c.args.trail.now.1 c.in-Some.need.now c.in-Some-undecided.member
    calm c.in-Some.ensures.first least)

pub returns-in-Some-undecided-clause-undecided : goal.returns-in-Some-undecided-clause-undecided
returns-in-Some-undecided-clause-undecided c =
    let least : find (is_undecided (set_of_trail c.args.trail.now.1)) c.in-Some.need.now ≡ Some c.in-Some-undecided.member = rw c.as_slice.ensures at (sym c.undecided.ensures ∙ c.in-Some-undecided.is) in
    undecided_class (set_of_trail c.args.trail.now.1) c.in-Some-undecided.member (find_some (is_undecided (set_of_trail c.args.trail.now.1)) c.in-Some.need.now c.in-Some-undecided.member least).1
