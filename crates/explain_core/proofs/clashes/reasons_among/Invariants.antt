use Rattle.std.proofs.Common.{◌≡◌, ◌+◌, ◌*◌, ◌-◌, ◌<◌, drop, length}
use Rattle.row_book.specs.{Book.{PairsFit}, Lent.{repository_in}}
use Rattle.explain_core.specs.{Deletion.{kept_behind, kept_of}, Reasons.{clash_pairs, verdict_over}}
use Rattle.explain_core.proofs.Told.{kept_clashes}
use Rattle.explain_core.proofs.clashes.reasons_among.Given as goal

abbrev pub invariant-loop-place : goal.invariant-loop-place
invariant-loop-place l = record {
  left : kept_of (verdict_over (repository_in l.asked.book) l.budget l.goals) l.pairs
      ≡ kept_behind (verdict_over (repository_in l.asked.book) l.budget l.goals) (kept_clashes l.clashes) (drop l.place l.pairs);
  fit : PairsFit (clash_pairs l.clashes) (length l.asked.book.book.now.rows);
  some : 0 < l.block;
}

abbrev pub decreases-loop-place : goal.decreases-loop-place
decreases-loop-place l = (length l.pairs - l.place) * 3 + l.block
