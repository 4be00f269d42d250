use Rattle.class_merge.proofs.Made.{MadeFrom}
use Rattle.class_merge.proofs.class_rows.family_rows.Given as goal

abbrev pub invariant-loop-family : goal.invariant-loop-family
invariant-loop-family l = MadeFrom l.fn.pool l.pool l.families l.rows.items l.family-index
