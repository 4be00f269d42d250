use Rattle.std.proofs.Common.{ap, ◌∙◌}
use Rattle.row_book.specs.Book.{repository_of}
use Rattle.kernel_text.specs.JsonData.{data_of_class, mark_of_class}
use Rattle.kernel_text.proofs.JsonTexts.{no_values, one_class_value}
use Rattle.kernel_text.proofs.write_json.document.Goals as goal

pub loop-number-init : goal.loop-number-init
loop-number-init c = no_values (λ n. data_of_class (repository_of c.args.pool.now c.args.book.now) c.args.packages.now c.args.by_class.now (mark_of_class c.args.hold c.args.flags.now n) n) c.new-items.result.items c.new-items.ensures.items

pub loop-number-preserved : goal.loop-number-preserved
loop-number-preserved c =
    one_class_value (λ n. data_of_class (repository_of c.args.pool.now c.args.book.now) c.args.packages.now c.args.by_class.now (mark_of_class c.args.hold c.args.flags.now n) n) c.loop-number.number c.loop-number.items.items c.push.new.self.items
    c.in_ok-class_value.field-0 c.loop-number.invariant
    (c.in_ok-class_value.ensures
    ∙ ap (λ mark. data_of_class (repository_of c.args.pool.now c.args.book.now) c.args.packages.now c.args.by_class.now mark c.loop-number.number) c.mark_of-mark.ensures) c.in_ok-push.ensures.items
