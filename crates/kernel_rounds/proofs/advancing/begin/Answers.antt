use Rattle.std.proofs.Common.{◌∙◌, ap, refl}
use Rattle.row_book.specs.Numbers.{numbers}
use Rattle.kernel_rounds.proofs.{Midways.{midway_none}, MovedSteps.{same_copy}}
use Rattle.kernel_rounds.proofs.advancing.begin.Goals as goal

pub returns : goal.returns
returns c = λ pool limit hold s.
    midway_none limit hold pool c.args.book.now _ (same_copy pool pool c.args.book.now c.in_ok-own.own refl c.in_ok-own.ensures.rows c.in_ok-own.ensures.conflicts) s
    (c.in_ok-class_of.ensures ∙ ap (λ n. numbers n 0) c.size.ensures) c.new.ensures refl
