use Rattle.migrate_plan.specs.{Plan.{plan_settings}, Trying.{told_of}}
use Rattle.migrate_plan.proofs.trying.line_by_view.Goals as goal

pub returns : goal.returns
returns c =
    let old = c.args.old.now.view.now in
    let suite = c.args.view.now.suite in
    c.in_ok-line.ensures (told_of (plan_settings c.args.old.now.budget old.limit old.kernel.hold) old.suite.home old.suite.packages suite.home suite.packages) c.in_ok-first.ensures
