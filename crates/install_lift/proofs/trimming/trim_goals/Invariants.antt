use Rattle.std.proofs.Common.{◌≡◌, ℕ, take, length, true}
use Rattle.std.specs.{Prelude.{All}, List.{list_any}}
use Rattle.row_book.specs.{Book.{repository_of}, Flags.{flag}}
use Rattle.install_lift.specs.{Trimming.{IsTrimming}, Waiting.{is_waiting}}
use Rattle.install_lift.proofs.trimming.trim_goals.Given as goal

abbrev pub invariant-loop-place : goal.invariant-loop-place
invariant-loop-place l = record {
  long : length l.set ≡ length l.chosen;
  trimming : IsTrimming (repository_of l.pool l.book) l.goals (flag l.chosen) (flag l.set);
  waits : (q : ℕ) → is_waiting l.waiting q ≡ flag l.set q;
  hit : All (λ g. list_any (flag l.set) g ≡ true) (take l.place l.goals);
}
