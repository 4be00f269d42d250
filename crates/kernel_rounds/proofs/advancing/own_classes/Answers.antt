use Rattle.std.proofs.Common.{◌∷◌, [], ◌++◌, ◌∙◌, ap, sym}
use Rattle.row_book.proofs.Numbers.{numbers_more}
use Rattle.row_book.specs.Numbers.{numbers}
use Rattle.kernel_rounds.proofs.advancing.own_classes.Goals as goal

pub loop-number-init : goal.loop-number-init
unfolding numbers
loop-number-init c = c.new-made.ensures.items

pub loop-number-preserved : goal.loop-number-preserved
loop-number-preserved c = c.in_ok-push.ensures.items ∙ ap (λ z. z ++ c.loop-number.number ∷ []) c.loop-number.invariant ∙ sym (numbers_more c.loop-number.number)
