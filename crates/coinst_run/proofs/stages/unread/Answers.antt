use Rattle.coinst_run.specs.Lines.{too_long_line}
use Rattle.coinst_run.proofs.stages.unread.Goals as goal

pub returns-in-TooLong : goal.returns-in-TooLong
returns-in-TooLong c = rw c.in-TooLong.is (c.refused.ensures (too_long_line c.args.path.now) c.too_long_line.ensures)
