use Rattle.cases_suites.proofs.MoreGoals.{fits_push}
use Rattle.cases_suites.proofs.logs.add_goal.Goals as goal

pub returns : goal.returns
returns c = fits_push c.args.size c.args.goals.now c.push.new.self c.args.number c.in_ok-push.ensures.ok c.requires.fit c.requires.below
