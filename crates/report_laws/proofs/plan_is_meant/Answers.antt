use Rattle.coinst_run.proofs.MigrateMeant.{migrate_is_meant}
use Rattle.report_laws.proofs.plan_is_meant.Goals as goal

pub returns : goal.returns
returns c = migrate_is_meant
