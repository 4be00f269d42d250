use Rattle.std.proofs.Common.{length}
use Rattle.suite_compare.proofs.Judged.{below_at, need_at}
use Rattle.suite_compare.proofs.verdicts.classes_of.Goals as goal

pub returns-clause-need : goal.returns-clause-need
returns-clause-need c = rw (c.classes_at.ensures, c.deref.ensures.value) (need_at c.args.judge.now.kinds.items c.args.kind c.requires c.args.judge.now.needs)

pub returns-clause-below : goal.returns-clause-below
returns-clause-below c = rw (c.classes_at.ensures, c.deref.ensures.value) (below_at (length c.args.judge.now.kernel.book.now.rows) c.args.judge.now.kinds.items c.args.kind c.requires c.args.judge.now.fit)
