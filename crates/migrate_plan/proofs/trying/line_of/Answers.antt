use Rattle.std.proofs.Common.{ap}
use Rattle.migrate_plan.specs.{Plan.{plan_settings}, declared.plan.PlanLine.TheVariants.{LeftLimit}}
use Rattle.migrate_plan.proofs.Made.{limit_made, line_answered}
use Rattle.migrate_plan.proofs.trying.line_of.Goals as goal

pub line_by_view-line-requires-clause-limit : goal.line_by_view-line-requires-clause-limit
line_by_view-line-requires-clause-limit c = let made = rw c.in-Some.is at c.in_ok-made.ensures in made.limit_is

pub line_by_view-line-requires-clause-hold : goal.line_by_view-line-requires-clause-hold
line_by_view-line-requires-clause-hold c = let made = rw c.in-Some.is at c.in_ok-made.ensures in made.hold_is

pub returns-in-Some : goal.returns-in-Some
returns-in-Some c =
    let old = c.args.old.now.view.now in
    let view = c.in-Some.view in
    let made = rw c.in-Some.is at c.in_ok-made.ensures in
    line_answered (plan_settings c.args.old.now.budget old.limit old.kernel.hold) old.suite.home old.suite.packages c.args.mix.home c.args.mix.packages c.args.name.now view.suite.home view.suite.packages
    made.within made.packages_are made.home_is c.line_by_view-line.result c.line_by_view-line.ensures

pub returns-in_ok-name-in-None : goal.returns-in_ok-name-in-None
returns-in_ok-name-in-None c =
    let old = c.args.old.now.view.now in
    let made = rw c.in-None.is at c.in_ok-made.ensures in
    limit_made (plan_settings c.args.old.now.budget old.limit old.kernel.hold) old.suite.home old.suite.packages c.args.mix.home c.args.mix.packages c.args.name.now (LeftLimit c.in_ok-name-in-None.name) made.0 made.1
    (ap LeftLimit c.in_ok-name-in-None.ensures)
