use Rattle.std.proofs.Common.{◌≡◌, ◌++◌, filter}
use Rattle.std.specs.List.{flat_map}
use Rattle.row_book.specs.{Numbers.{numbers}, Flags.{flag}}
use Rattle.coinst_run.specs.StoredQuery.{class_line}
use Rattle.coinst_run.proofs.stored_query.push_classes.Given as goal

abbrev pub invariant-loop-number : goal.invariant-loop-number
invariant-loop-number l = l.out.items ≡ l.fn.out.items ++ flat_map class_line (filter (flag l.chosen) (numbers l.number 0))
