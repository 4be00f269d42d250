use Rattle.std.proofs.Common.{subst, sym}
use Rattle.row_book.specs.Rounds.{steps_after}
use Rattle.kernel_rounds.specs.Extracting.{IsExtracted}
use Rattle.kernel_rounds.proofs.{Midways.{midway_end}, MovedSteps.{live_behind}}
use Rattle.kernel_rounds.proofs.extraction.finish.Goals as goal

pub returns-clause-kernel : goal.returns-clause-kernel
returns-clause-kernel c = λ R limit start old s m r fixed.
    subst (λ classes. IsExtracted R limit c.args.hold start c.carry.new.into c.in_ok-book.book classes c.args.made.held c.args.now.steps) (sym c.of.ensures)
    (midway_end limit c.args.hold R start c.args.into.now c.carry.new.into old c.args.from.now c.args.now c.args.made c.in_ok-book.book s c.requires.into m r fixed c.in_ok-book.ensures.same c.carry.ensures.kept)

pub returns-clause-only : goal.returns-clause-only
returns-clause-only c = λ R limit start old m.
    live_behind start c.args.into.now c.carry.new.into c.in_ok-book.book c.args.now.steps (steps_after limit c.args.hold R m.index) m.steps c.in_ok-book.ensures.only c.carry.ensures.kept
