use Rattle.migrate_plan.proofs.Made.{left_by_first, taken_by_none}
use Rattle.migrate_plan.proofs.trying.plan_line.Goals as goal

pub returns-in-None : goal.returns-in-None
returns-in-None c = λ lines told. taken_by_none c.args.name.now c.in_ok-name.name c.args.first lines c.in_ok-name.ensures c.in-None.is told

pub returns-in-Some : goal.returns-in-Some
returns-in-Some c = λ lines told. left_by_first c.args.name.now c.in_ok-name.name c.args.first c.in-Some.line lines c.in_ok-name.ensures c.in-Some.is told
