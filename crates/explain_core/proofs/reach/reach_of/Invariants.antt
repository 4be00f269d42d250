use Rattle.std.proofs.Common.{◌≡◌, ◌-◌, length}
use Rattle.row_book.specs.Book.{repository_of}
use Rattle.explain_core.specs.Meeting.{IsReachedTo}
use Rattle.explain_core.proofs.reach.reach_of.Given as goal

abbrev pub invariant-loop-place : goal.invariant-loop-place
invariant-loop-place l = record {
  size : l.met.0 ≡ length l.book.rows;
  reached : IsReachedTo (repository_of l.pool l.book) l.goals l.met.1 l.place;
}

abbrev pub decreases-loop-place : goal.decreases-loop-place
decreases-loop-place l = length l.book.rows - l.place
