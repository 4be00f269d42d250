use Rattle.std.proofs.Common.{◌≡◌, ◌∙◌, sym, ap, subst}
use Rattle.clause_solver.specs.declared.outcomes.Verdict.TheVariants as verdict
use Rattle.clause_solver.proofs.AnyConflicts.{fit_clauses}
use Rattle.suite_compare.specs.Asking.{verdict_in}
use Rattle.explain_core.specs.{Explaining.{explained_by}, Meaning.{MeansExplanation}, Picking.{ArePlacesFrom1}}
use Rattle.explain_core.proofs.{Answering.{core_fits, core_places, core_told, wanted_long}, CoreLoop.{images_are_fit, verdict_found}, Cores.{judged}}
use Rattle.explain_core.proofs.Explained.{explanation_means}
use Rattle.explain_core.proofs.explaining.explain.Goals as goal

pub verdict-requires-clause-goals : goal.verdict-requires-clause-goals
verdict-requires-clause-goals c =
    let v = c.args.view.now in
    fit_clauses v.pool v.kernel.book c.in_ok-solver.solver c.in_ok-classes.classes c.in_ok-solver.ensures
    (images_are_fit v.pool v.suite.home v.suite.packages v.book v.kernel v.limit v.of_suite c.args.goals.now c.in_ok-classes.classes c.in_ok-classes.ensures c.args.goals.now c.in_ok-classes.classes c.in_ok-classes.ensures)

pub returns-in-Yes-clause-explanation : goal.returns-in-Yes-clause-explanation
returns-in-Yes-clause-explanation c =
    let v = c.args.view.now in
    let told : c.in_ok-verdict.verdict ≡ verdict_in v.limit v.kernel.hold v.suite.home v.suite.packages c.args.budget c.args.goals.now =
    verdict_found v.pool v.suite.home v.suite.packages v.book v.kernel v.limit v.of_suite c.args.goals.now c.in_ok-classes.classes c.in_ok-classes.ensures c.args.budget c.args.goals.now c.in_ok-classes.classes c.in_ok-verdict.verdict
    c.in_ok-classes.ensures (rw c.in_ok-solver.ensures at c.in_ok-verdict.ensures) in
    ap (explained_by v.limit v.kernel.hold v.suite.home v.suite.packages c.args.budget c.args.goals.now) (sym c.in-Yes.is ∙ told)

pub returns-in-Yes-clause-meaning : goal.returns-in-Yes-clause-meaning
returns-in-Yes-clause-meaning c =
    let v = c.args.view.now in
    let told : c.in_ok-verdict.verdict ≡ verdict_in v.limit v.kernel.hold v.suite.home v.suite.packages c.args.budget c.args.goals.now =
    verdict_found v.pool v.suite.home v.suite.packages v.book v.kernel v.limit v.of_suite c.args.goals.now c.in_ok-classes.classes c.in_ok-classes.ensures c.args.budget c.args.goals.now c.in_ok-classes.classes c.in_ok-verdict.verdict
    c.in_ok-classes.ensures (rw c.in_ok-solver.ensures at c.in_ok-verdict.ensures) in
    (judged v.limit v.kernel.hold v.suite.home v.suite.packages c.args.budget c.args.goals.now verdict.Yes (sym told ∙ c.in-Yes.is)).1

pub returns-in-Spent-clause-explanation : goal.returns-in-Spent-clause-explanation
returns-in-Spent-clause-explanation c =
    let v = c.args.view.now in
    let told : c.in_ok-verdict.verdict ≡ verdict_in v.limit v.kernel.hold v.suite.home v.suite.packages c.args.budget c.args.goals.now =
    verdict_found v.pool v.suite.home v.suite.packages v.book v.kernel v.limit v.of_suite c.args.goals.now c.in_ok-classes.classes c.in_ok-classes.ensures c.args.budget c.args.goals.now c.in_ok-classes.classes c.in_ok-verdict.verdict
    c.in_ok-classes.ensures (rw c.in_ok-solver.ensures at c.in_ok-verdict.ensures) in
    ap (explained_by v.limit v.kernel.hold v.suite.home v.suite.packages c.args.budget c.args.goals.now) (sym c.in-Spent.is ∙ told)

pub marked-requires : goal.marked-requires
marked-requires c =
    let v = c.args.view.now in
    subst (λ n. ArePlacesFrom1 n c.as_slice.result.now) (sym (wanted_long v.pool v.suite.home v.suite.packages v.book v.kernel v.limit v.of_suite c.args.budget c.args.goals.now c.in_ok-wanted.wanted c.in_ok-wanted.ensures.wanted))
    (core_places v.limit v.kernel.hold v.suite.home v.suite.packages c.args.budget c.args.goals.now c.as_slice.result.now (c.as_slice.ensures ∙ c.in_ok-marks-in-No.ensures))

pub clashes_for-requires-clause-goals : goal.clashes_for-requires-clause-goals
clashes_for-requires-clause-goals c =
    let v = c.args.view.now in
    core_fits v.pool v.suite.home v.suite.packages v.book v.kernel v.limit v.of_suite c.args.budget c.args.goals.now c.in_ok-wanted.wanted c.in_ok-wanted.ensures.wanted c.in_ok-marks-in-No.marks c.in_ok-marks-in-No.ensures
    c.as_slice.result.now c.as_slice.ensures c.in_ok-core-in-No.core c.in_ok-core-in-No.ensures

pub returns-clause-explanation : goal.returns-clause-explanation
returns-clause-explanation c =
    let v = c.args.view.now in
    let told : c.in_ok-verdict.verdict ≡ verdict_in v.limit v.kernel.hold v.suite.home v.suite.packages c.args.budget c.args.goals.now =
    verdict_found v.pool v.suite.home v.suite.packages v.book v.kernel v.limit v.of_suite c.args.goals.now c.in_ok-classes.classes c.in_ok-classes.ensures c.args.budget c.args.goals.now c.in_ok-classes.classes c.in_ok-verdict.verdict
    c.in_ok-classes.ensures (rw c.in_ok-solver.ensures at c.in_ok-verdict.ensures) in
    core_told v.pool v.suite.home v.suite.packages v.book v.kernel v.limit v.of_suite c.args.budget c.args.goals.now c.in_ok-wanted.wanted c.in_ok-wanted.ensures.wanted c.in_ok-marks-in-No.marks c.in_ok-marks-in-No.ensures
    c.as_slice.result.now c.as_slice.ensures c.in_ok-core-in-No.core c.in_ok-core-in-No.ensures c.in_ok-clashes-in-No.clashes c.in_ok-clashes-in-No.ensures (sym c.in-No.is ∙ told)

pub returns-clause-meaning : goal.returns-clause-meaning
returns-clause-meaning c =
    let v = c.args.view.now in
    subst (MeansExplanation v.suite.home v.suite.packages c.args.goals.now) (sym (returns-clause-explanation c)) (explanation_means v.suite.home v.suite.packages v.limit v.kernel.hold c.args.budget c.args.goals.now)
