use Rattle.std.proofs.Common.{◌∙◌, ap, refl}
use Rattle.row_book.specs.Lent.{repository_in}
use Rattle.search_terms.specs.declared.literals.Log.{Log}
use Rattle.clause_solver.specs.declared.outcomes.Outcome.TheVariants.{Found, Refuted}
use Rattle.clause_solver.proofs.{AnyConflicts.{fit_in}, Preparing.{certified, outcome_found, outcome_refuted}}
use Rattle.clause_solver.proofs.book_solver.BookSolver.solve.Goals as goal

-- the flags are those that the tree finds
pub returns-in_ok-flags-in-Yes-clause-certified : goal.returns-in_ok-flags-in-Yes-clause-certified
returns-in_ok-flags-in-Yes-clause-certified c =
    let own = c.self.inside.book in
    rw (← c.self.view_is) (certified own.pool.now own.book.now c.args.goals.now own.sound own.book.now.paired (fit_in own c.args.self.now c.args.goals.now (ap (λ R. R.clauses) c.self.view_is) c.requires.goals) c.args.budget (Found c.of.result)
    (outcome_found (repository_in own) c.args.goals.now c.args.budget c.self.inside.solver.classes c.in_ok-walked.walked.trail.1 c.in_ok-walked.walked.log c.of.result c.self.invariant.size (c.of.ensures ∙ c.in_ok-flags-in-Yes.ensures)
    (rw c.in-Yes.is at c.in_ok-walked.ensures)))

-- the log is that of the tree
pub returns-in-No-clause-certified : goal.returns-in-No-clause-certified
returns-in-No-clause-certified c =
    let own = c.self.inside.book in
    let log : Log = record { entries = c.in_ok-walked.walked.log } in
    rw (← c.self.view_is) (certified own.pool.now own.book.now c.args.goals.now own.sound own.book.now.paired (fit_in own c.args.self.now c.args.goals.now (ap (λ R. R.clauses) c.self.view_is) c.requires.goals) c.args.budget (Refuted log)
    (outcome_refuted (repository_in own) c.args.goals.now c.args.budget c.in_ok-walked.walked.trail.1 log (rw c.in-No.is at c.in_ok-walked.ensures)))
