use Rattle.suite_compare.proofs.Judged.{verdict_is}
use Rattle.suite_compare.proofs.verdicts.verdict_on.Goals as goal

pub returns : goal.returns
returns c = verdict_is c.args.judge.now.kernel.pool.now c.args.judge.now.kernel.book.now c.args.goals.now c.args.judge.now.budget c.in_ok-verdict.verdict c.args.judge.now.kernel.sound c.requires (rw c.args.judge.now.of_kernel at c.in_ok-verdict.ensures)
