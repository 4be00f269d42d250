use Rattle.migrate_plan.proofs.Deciding.{test_is_equality}
use Rattle.migrate_plan.proofs.laws.test_is_equality.Goals as goal

pub returns : goal.returns
returns c = test_is_equality
