use Rattle.std.proofs.Common.{◌<◌, length, arith, sym}
use Rattle.search_terms.specs.Tree.{is_open_need}
use Rattle.clause_solver.specs.Marking.{set_of_trail}
use Rattle.clause_solver.proofs.Openings.{found_none, found_some}
use Rattle.clause_solver.proofs.nodes.open_own.Goals as goal

pub returns-then-place-own-clause-first : goal.returns-then-place-own-clause-first
returns-then-place-own-clause-first c = sym (found_none (is_open_need (set_of_trail c.args.trail.now.1)) c.args.own.now c.first_open-place.result c.first_open-place.ensures.first.none c.first_open-place.ensures.first.opens c.first_open-place.ensures.first.within c.if-place-own.true)

pub returns-clause-first : goal.returns-clause-first
returns-clause-first c =
    let within = c.first_open-place.ensures.first.within in
    let lt : c.first_open-place.result < length c.args.own.now = omega (arith, within, c.if-place-own.false) in
    sym (found_some (is_open_need (set_of_trail c.args.trail.now.1)) c.args.own.now c.first_open-place.result c.index-own-place.result c.first_open-place.ensures.first.none c.first_open-place.ensures.first.opens within lt c.index-own-place.is)
