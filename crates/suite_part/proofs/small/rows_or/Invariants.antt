use Rattle.std.proofs.Common.{◌≡◌, cond, map}
use Rattle.row_book.specs.{Flags.{flag}, Numbers.{numbers}, Parts.{number_in}, Uses.{row_id}}
use Rattle.suite_part.proofs.small.rows_or.Given as goal

abbrev pub invariant-loop-place : goal.invariant-loop-place
invariant-loop-place l = l.made.items ≡ map (λ k. cond (flag l.needed (number_in l.packages k)) (row_id l.rows k) l.other) (numbers l.place 0)
