use Rattle.std.proofs.{Common.{◌∙◌, subst, sym}, lemmas.{Bool.{OnTrue_at}, Option.{none-some, same_Some}}}
use Rattle.row_book.specs.Book.{repository_of}
use Rattle.kernel_rounds.specs.Known.{AreRoundsOf}
use Rattle.kernel_rounds.proofs.known.rounds_behind.Goals as goal

pub returns-then-are_there-clause-known : goal.returns-then-are_there-clause-known
returns-then-are_there-clause-known c = λ rounds is. c.requires.earlier rounds (sym c.take.ensures.value ∙ is)

pub returns-then-are_there-clause-of_first : goal.returns-then-are_there-clause-of_first
returns-then-are_there-clause-of_first c = λ rounds is.
    let there = OnTrue_at c.if-are_there.true c.are_there.ensures in
    subst (λ made. AreRoundsOf made c.args.limit (repository_of c.args.pool c.args.first)) (same_Some _ rounds (sym there.1 ∙ sym c.take.ensures.value ∙ is)) there.2

pub returns-then-are_there-clause-passed : goal.returns-then-are_there-clause-passed
returns-then-are_there-clause-passed c = λ none _.
    let there = OnTrue_at c.if-are_there.true c.are_there.ensures in
    absurd (none-some _ (sym none ∙ c.take.ensures.value ∙ there.1))
