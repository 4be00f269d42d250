use Rattle.std.proofs.{Common.{◌≤◌, sym, subst}, lemmas.Result.{err_from_is_err_and}}
use Rattle.migrate_plan.specs.Plan.{plan_settings}
use Rattle.repo_model.specs.{Feeding.{IsSuiteOf}, Limits.{most_bytes}}
use Rattle.suite_compare.specs.Refusals.{home_in, packages_in}
use Rattle.coinst_run.specs.{Index.{Index, index_of}, IndexKernel.{index_kernel}, Migrate.{kernel_at, new_course, old_answer}}
use Rattle.coinst_run.proofs.Follows.{settled_follows, stage_passed, stopped, text_passed}
use Rattle.coinst_run.proofs.Migrating.{checked_read, kernel_checked, stops_before, stops_behind}
use Rattle.coinst_run.proofs.migrate.migrate.Goals as goal

pub with_newer-report-requires-clause-short : goal.with_newer-report-requires-clause-short
with_newer-report-requires-clause-short g c =
    let read = c.in_ok-older.ensures.index in
    subst (λ z. z ≤ most_bytes) (sym read.held.length_is) read.whole.calls.within

pub returns : goal.returns
returns g c =
    let settings = plan_settings c.args.settings.budget c.args.settings.clause_limit c.args.settings.hold in
    let old = c.args.old.now in
    let read = c.in_ok-older.ensures.index in
    let text = read.text in
    let suite = c.in_ok-older.older.suite in
    let checked = checked_read old text suite.home suite.packages read.held.suite_is in
    let same = subst (λ (index : Index). IsSuiteOf text index.packages index.home.name) (sym c.in_ok-view.ensures.suite) read.held.suite_is in
    text_passed old text (old_answer old c.args.new.now settings) _ _ read.whole _ _
    (stage_passed (kernel_at old settings.limit settings.hold text) (index_kernel settings.limit settings.hold (home_in text) (packages_in text)) (λ kernel. new_course old c.args.new.now settings text) _
    (kernel_checked old text settings.limit settings.hold (index_of suite) checked c.in_ok-view.ensures.kernel) _ _
    (rw (c.in_ok-view.ensures.limit, c.in_ok-view.ensures.hold) at c.with_newer-report.ensures text same read.held.length_is))

-- the older text has a fault, or no memory was found
pub returns-in_err-older : goal.returns-in_err-older
returns-in_err-older g c =
    let settings = plan_settings c.args.settings.budget c.args.settings.clause_limit c.args.settings.hold in
    let old = c.args.old.now in
    let p = err_from_is_err_and c.from_residual.result c.from_residual.ensures.1 in rw (p.1, p.2)
    (c.in_err-older.ensures.stop (old_answer old c.args.new.now settings)
    (λ text stops.
    stopped (kernel_at old settings.limit settings.hold text) (λ kernel. new_course old c.args.new.now settings text) _ (stops_before old text settings.limit settings.hold _ stops)))

-- its suite passes the clause limit, or no memory was found
pub returns-in_err-view : goal.returns-in_err-view
returns-in_err-view g c =
    let settings = plan_settings c.args.settings.budget c.args.settings.clause_limit c.args.settings.hold in
    let old = c.args.old.now in
    let read = c.in_ok-older.ensures.index in
    let text = read.text in
    let suite = c.in_ok-older.older.suite in
    let p = err_from_is_err_and c.from_residual-in_err-view.result c.from_residual-in_err-view.ensures.1 in rw (p.1, p.2)
    (text_passed old text (old_answer old c.args.new.now settings) _ _ read.whole _ _
    (settled_follows (old_answer old c.args.new.now settings text) _ _
    (stopped (kernel_at old settings.limit settings.hold text) (λ kernel. new_course old c.args.new.now settings text) _
    (stops_behind old text settings.limit settings.hold (index_of suite) _ (checked_read old text suite.home suite.packages read.held.suite_is) c.in_err-view.ensures.stop))))
