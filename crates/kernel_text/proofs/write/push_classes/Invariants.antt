use Rattle.std.proofs.Common.{◌≡◌, ◌++◌}
use Rattle.std.specs.List.{flat_map}
use Rattle.row_book.specs.{Book.{repository_of}, Numbers.{numbers}, Flags.{flag}}
use Rattle.kernel_text.specs.Writing.{block_text}
use Rattle.kernel_text.proofs.write.push_classes.Given as goal

abbrev pub invariant-loop-number : goal.invariant-loop-number
invariant-loop-number l = l.out.items ≡ l.fn.out.items ++ flat_map (λ n. block_text (repository_of l.pool l.book) l.packages l.by_class (flag l.flags n) n) (numbers l.number 0)
