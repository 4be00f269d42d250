use Rattle.std.proofs.Common.{◌∙◌, ap}
use Rattle.clause_solver.proofs.AnyConflicts.{fit_clauses}
use Rattle.suite_compare.proofs.Judged.{verdict_is}
use Rattle.status_check.specs.Report.{state_of}
use Rattle.status_check.proofs.classes.suite_state.Goals as goal

pub verdict-requires-clause-goals : goal.verdict-requires-clause-goals
verdict-requires-clause-goals c = fit_clauses c.args.view.now.pool c.args.view.now.kernel.book c.in_ok-solver.solver c.args.classes.now c.in_ok-solver.ensures c.requires.fit

pub returns : goal.returns
returns c =
    let view = c.args.view.now in
    c.state_of.ensures ∙ ap (state_of c.args.budget) (verdict_is view.pool view.kernel.book c.args.classes.now c.args.budget c.in_ok-verdict.verdict view.of_suite.kernel_is.book.sound c.requires.fit (rw c.in_ok-solver.ensures at c.in_ok-verdict.ensures))
