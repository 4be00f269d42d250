use Rattle.std.proofs.Common.{ap, filter, length, ltb, ◌∙◌}
use Rattle.row_book.specs.Book.{listed_for}
use Rattle.coinst_run.proofs.Sizes.{sum_more, sum_none}
use Rattle.coinst_run.proofs.sample.conflict_count.Goals as goal

pub loop-class-init : goal.loop-class-init
loop-class-init c = sum_none (λ n. length (filter (λ m. ltb n m) (listed_for c.args.book.now.conflicts n)))

pub loop-class-preserved : goal.loop-class-preserved
loop-class-preserved c =
    sum_more (λ n. length (filter (λ m. ltb n m) (listed_for c.args.book.now.conflicts n))) c.loop-class.class c.loop-class.count c.greater_count.result c.in_ok-count.count
    c.loop-class.invariant (c.greater_count.ensures ∙ ap (λ list. length (filter (λ m. ltb c.loop-class.class m) list)) c.against.ensures) c.in_ok-count.ensures.1
