use Rattle.std.proofs.Common.{◌≡◌, ◌+◌, ◌*◌, length, true, not}
use Rattle.std.specs.{Prelude.{All, count_by}, List.{list_any}}
use Rattle.row_book.specs.{Book.{repository_of}, Flags.{flag}, Sets.{Within}}
use Rattle.install_lift.specs.{Trimming.{AreHitBefore, AreMetOutside, IsTrimming}, Waiting.{is_waiting, waiting_count}}
use Rattle.install_lift.proofs.trimming.trim_clauses.Given as goal

abbrev pub invariant-loop-number : goal.invariant-loop-number
invariant-loop-number l = record {
  long : length l.set ≡ length l.chosen;
  trimming : IsTrimming (repository_of l.pool l.book) l.goals (flag l.chosen) (flag l.set);
  hit : All (λ g. list_any (flag l.set) g ≡ true) l.goals;
  part : Within (is_waiting l.waiting) (flag l.set);
  long_places : length l.places ≡ length l.book.rows;
  before : AreHitBefore l.pool l.book (flag l.set) l.places;
  met : AreMetOutside (repository_of l.pool l.book) (flag l.set) (is_waiting l.waiting);
}

abbrev pub decreases-loop-number : goal.decreases-loop-number
decreases-loop-number l = count_by not l.set * 2 + waiting_count l.waiting
