use Rattle.std.proofs.Common.{◌∙◌, ap, map, refl}
use Rattle.suite_compare.specs.Asking.{verdict_in, wanted_by}
use Rattle.suite_compare.proofs.Answered.{classes_fit}
use Rattle.status_check.specs.{Own.{own_home, own_packages}, Report.{had_goals, line_for, state_of}}
use Rattle.status_check.proofs.Judging.{judged, state_moved, told_healthy, verdict_of_view}
use Rattle.status_check.proofs.status.status_report.Goals as goal

pub suite_state-requires-clause-fit : goal.suite_state-requires-clause-fit
suite_state-requires-clause-fit c =
    let view = c.args.view.now in
    let goals = had_goals view.suite.packages c.as_slice-packages.result.now in
    classes_fit view.pool view.suite.home view.suite.packages view.book view.kernel view.limit view.of_suite goals (wanted_by view.suite.packages goals) c.in_ok-had.had.classes refl c.in_ok-had.ensures.classes

pub returns-clause-lines : goal.returns-clause-lines
returns-clause-lines c = c.in_ok-had.ensures.lines ∙ ap (map (line_for c.args.view.now.suite.packages)) (c.as_slice-packages.ensures ∙ c.in_ok-read.ensures.packages)

pub returns-clause-own : goal.returns-clause-own
returns-clause-own c =
    let home = c.args.view.now.suite.home in
    state_moved c.in_ok-read.read.suite.home (own_home home c.args.bytes.now) c.in_ok-read.read.suite.packages (own_packages home c.args.bytes.now) c.in_ok-own.own c.in_ok-read.ensures.home c.in_ok-read.ensures.packages c.in_ok-own.ensures

pub returns-clause-healthy : goal.returns-clause-healthy
returns-clause-healthy c =
    let home = c.args.view.now.suite.home in
    told_healthy (own_home home c.args.bytes.now) (own_packages home c.args.bytes.now) c.in_ok-own.own
    (state_moved c.in_ok-read.read.suite.home (own_home home c.args.bytes.now) c.in_ok-read.read.suite.packages (own_packages home c.args.bytes.now) c.in_ok-own.own c.in_ok-read.ensures.home c.in_ok-read.ensures.packages c.in_ok-own.ensures)

pub returns-clause-verdict : goal.returns-clause-verdict
returns-clause-verdict c =
    let view = c.args.view.now in
    let index = view.suite.packages in
    c.in_ok-verdict.ensures
    ∙ ap (state_of c.args.budget)
    (verdict_of_view view.pool view.suite.home index view.book view.kernel view.limit c.args.budget (had_goals index c.as_slice-packages.result.now) c.in_ok-had.had.classes view.of_suite c.in_ok-had.ensures.classes
    ∙ ap (λ xs. verdict_in view.limit view.kernel.hold view.suite.home index c.args.budget (had_goals index xs)) (c.as_slice-packages.ensures ∙ c.in_ok-read.ensures.packages))

pub returns-clause-judged : goal.returns-clause-judged
returns-clause-judged c =
    let view = c.args.view.now in
    let index = view.suite.packages in
    judged view.limit view.kernel.hold view.suite.home index c.args.budget (had_goals index (own_packages view.suite.home c.args.bytes.now)) c.in_ok-verdict.verdict
    (c.in_ok-verdict.ensures
    ∙ ap (state_of c.args.budget)
    (verdict_of_view view.pool view.suite.home index view.book view.kernel view.limit c.args.budget (had_goals index c.as_slice-packages.result.now) c.in_ok-had.had.classes view.of_suite c.in_ok-had.ensures.classes
    ∙ ap (λ xs. verdict_in view.limit view.kernel.hold view.suite.home index c.args.budget (had_goals index xs)) (c.as_slice-packages.ensures ∙ c.in_ok-read.ensures.packages)))
