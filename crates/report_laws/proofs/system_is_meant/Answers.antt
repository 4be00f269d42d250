use Rattle.coinst_run.proofs.SystemMeant.{system_is_meant}
use Rattle.report_laws.proofs.system_is_meant.Goals as goal

pub returns : goal.returns
returns c = system_is_meant
