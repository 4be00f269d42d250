use Rattle.migrate_plan.specs.{Plan.{plan, plan_settings}, Refusals.{plan_refusal}}
use Rattle.coinst_run.specs.{Course.{answers}, Migrate.{lines_answer, planned}}
use Rattle.coinst_run.proofs.Follows.{stopped}
use Rattle.coinst_run.proofs.migrate.plan_report.Goals as goal

pub returns-in-Err : goal.returns-in-Err
returns-in-Err c = λ texts are.
    let settings = plan_settings c.args.budget c.args.view.now.limit c.args.view.now.kernel.hold in
    stopped (planned c.args.old.now c.args.new.now settings texts.old texts.new) (λ lines. answers (lines_answer lines)) _
    (c.refusal.ensures (plan settings texts.old texts.new) (plan_refusal texts.old texts.new) (c.in-Err.ensures.refused texts are))
