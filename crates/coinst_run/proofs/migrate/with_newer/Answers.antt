use Rattle.std.proofs.{Common.{◌≤◌, sym, subst}, lemmas.Result.{err_from_is_err_and}}
use Rattle.migrate_plan.specs.Plan.{plan_settings}
use Rattle.repo_model.specs.Limits.{most_bytes}
use Rattle.coinst_run.specs.{Ending.{ending_of}, Index.{checked_index, index_of}, Migrate.{new_answer, plan_answer}}
use Rattle.coinst_run.proofs.{Follows.{settled_follows, settled_on, stopped, text_passed}, Migrating.{checked_read}}
use Rattle.coinst_run.proofs.migrate.with_newer.Goals as goal

pub plan_report-report-requires-clause-newer_short : goal.plan_report-report-requires-clause-newer_short
plan_report-report-requires-clause-newer_short g c =
    let read = c.in_ok-newer.ensures.index in
    subst (λ z. z ≤ most_bytes) (sym read.held.length_is) read.whole.calls.within

pub returns : goal.returns
returns g c = λ text suite length_is.
    let settings = plan_settings c.args.budget c.args.view.now.limit c.args.view.now.kernel.hold in
    let old = c.args.old.now in
    let new = c.args.new.now in
    let read = c.in_ok-newer.ensures.index in
    let newer = read.text in
    let made = c.in_ok-newer.newer.suite in
    text_passed new newer (new_answer old new settings text) _ _ read.whole _ _
    (settled_follows (new_answer old new settings text newer) _ _
    (settled_on (checked_index new newer) (index_of made) (λ index. plan_answer old new settings text newer) (ending_of c.plan_report-report.result)
    (checked_read new newer made.home made.packages read.held.suite_is)
    (c.plan_report-report.ensures (record { old = text; new = newer })
    (record { suites = record { old_is = suite; new_is = read.held.suite_is }; old_length_is = length_is; new_length_is = read.held.length_is }))))

-- the newer text has a fault, or no memory was found
pub returns-in_err-newer : goal.returns-in_err-newer
returns-in_err-newer g c =
    let settings = plan_settings c.args.budget c.args.view.now.limit c.args.view.now.kernel.hold in
    let old = c.args.old.now in
    let new = c.args.new.now in
    let p = err_from_is_err_and c.from_residual.result c.from_residual.ensures.1 in rw (p.1, p.2)
    (λ text suite length_is.
    c.in_err-newer.ensures.stop (new_answer old new settings text)
    (λ newer stops. stopped (checked_index new newer) (λ index. plan_answer old new settings text newer) _ stops))
