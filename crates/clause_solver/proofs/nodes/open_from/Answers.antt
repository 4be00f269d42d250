use Rattle.clause_solver.proofs.Openings.{first_swept}
use Rattle.clause_solver.proofs.nodes.open_from.Goals as goal

pub returns : goal.returns
returns c = first_swept c.args.trail.now.0 c.args.own.now c.args.uses.now c.args.trail.now.1 c.least_open.result c.requires.table c.requires.negative (rw c.as_slice.ensures.items at c.least_open.ensures)
