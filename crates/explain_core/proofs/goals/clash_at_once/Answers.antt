use Rattle.std.proofs.Common.{◌∙◌, ap}
use Rattle.clause_solver.proofs.AnyConflicts.{fit_clauses}
use Rattle.suite_compare.proofs.Judged.{verdict_is}
use Rattle.explain_core.specs.Deletion.{is_no}
use Rattle.explain_core.proofs.goals.clash_at_once.Goals as goal

pub verdict-requires-clause-goals : goal.verdict-requires-clause-goals
verdict-requires-clause-goals c = fit_clauses c.args.view.now.pool c.args.view.now.kernel.book c.args.solver.now c.args.classes.now c.requires.solver c.requires.fit

pub returns : goal.returns
returns c =
    let v = c.args.view.now in
    c.is_no.ensures ∙ ap is_no (verdict_is v.pool v.kernel.book c.args.classes.now 1 c.in_ok-verdict.verdict v.of_suite.kernel_is.book.sound c.requires.fit (rw c.requires.solver at c.in_ok-verdict.ensures))
