use Rattle.std.proofs.Common.{get_or}
use Rattle.listed.proofs.Lists.{In_at}
use Rattle.repo_model.proofs.rows.note_ranks.Goals as goal

pub bounds-ranks-mark : goal.bounds-ranks-mark
bounds-ranks-mark c = c.requires (get_or c.args.marks.now c.loop-mark.mark-index 0) (In_at c.args.marks.now c.loop-mark.mark-index 0 c.loop-mark-test.true)
