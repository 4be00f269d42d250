use Rattle.std.proofs.Common.{◌∙◌, ap, map}
use Rattle.row_book.specs.{Merging.{class_list, quotient}, Pruning.{idle_steps, prune}, Rounds.{round, IdleStep}, Thinning.{thin}}
use Rattle.kernel_rounds.proofs.rounding.reduce.Goals as goal

pub returns-clause-reduced : goal.returns-clause-reduced
unfolding round
returns-clause-reduced c =
    let merged = c.in_ok-merged.ensures.quotient ∙ ap quotient c.in_ok-flat.ensures.flat in
    record {
      is = c.in_ok-shrunk.ensures.book ∙ ap (λ R. thin (prune R)) merged;
      class_of = c.in_ok-merged.ensures.class_of ∙ ap class_list c.in_ok-flat.ensures.flat;
      held = c.in_ok-flat.ensures.held;
      idle = c.in_ok-shrunk.ensures.idle ∙ ap (λ R. map IdleStep (idle_steps R)) merged;
      sound = c.in_ok-shrunk.ensures.sound;
      within = c.in_ok-flat.ensures.within;
    }
