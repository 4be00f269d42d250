use Rattle.std.proofs.Common.{◌≡◌, map}
use Rattle.row_book.specs.{Book.{repository_of}, Numbers.{numbers}}
use Rattle.serde_json.specs.View.{view}
use Rattle.kernel_text.specs.JsonData.{data_of_class, mark_of_class}
use Rattle.kernel_text.proofs.write_json.document.Given as goal

abbrev pub invariant-loop-number : goal.invariant-loop-number
invariant-loop-number l = map view l.items.items ≡ map (λ n. data_of_class (repository_of l.pool l.book) l.packages l.by_class (mark_of_class l.hold l.flags n) n) (numbers l.number 0)
