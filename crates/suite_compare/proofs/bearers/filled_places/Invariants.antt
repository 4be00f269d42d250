use Rattle.std.proofs.Common.{◌≡◌, filter}
use Rattle.row_book.specs.Numbers.{numbers}
use Rattle.suite_compare.specs.Bearers.{is_borne}
use Rattle.suite_compare.proofs.bearers.filled_places.Given as goal

abbrev pub invariant-loop-place : goal.invariant-loop-place
invariant-loop-place l = l.places.items ≡ filter (is_borne l.lists) (numbers l.place 0)
