use Rattle.clause_solver.proofs.{AnyConflicts.{fit_clauses}, Preparing.{decided}}
use Rattle.clause_solver.proofs.book_solver.search.Goals as goal

pub solve-requires-clause-goals : goal.solve-requires-clause-goals
solve-requires-clause-goals c = fit_clauses c.args.pool.now c.args.book.now c.in_ok-solver.solver c.args.goals.now c.in_ok-solver.ensures c.requires.goals

pub returns-clause-enough : goal.returns-clause-enough
returns-clause-enough c = decided c.args.pool.now c.args.book.now c.args.goals.now c.requires.sound c.args.book.now.paired c.requires.goals c.args.budget c.in_ok-outcome.outcome (rw c.in_ok-solver.ensures at c.in_ok-outcome.ensures.tree)
