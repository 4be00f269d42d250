use Rattle.std.proofs.Common.{◌∙◌, sym}
use Rattle.search_terms.specs.Tree.{is_open_need}
use Rattle.clause_solver.specs.Marking.{set_of_trail}
use Rattle.clause_solver.proofs.Openings.{find_behind, find_front}
use Rattle.clause_solver.proofs.nodes.open_need.Goals as goal

pub returns-in-Some-clause-first : goal.returns-in-Some-clause-first
returns-in-Some-clause-first c = sym (find_front (is_open_need (set_of_trail c.args.trail.now.1)) c.args.goals.now c.args.own.now c.in-Some.goal.now (sym c.in-Some.ensures))

pub returns-in-None-clause-first : goal.returns-in-None-clause-first
returns-in-None-clause-first c = c.open_own.ensures.first ∙ sym (find_behind (is_open_need (set_of_trail c.args.trail.now.1)) c.args.goals.now c.args.own.now (sym c.in-None.ensures))
