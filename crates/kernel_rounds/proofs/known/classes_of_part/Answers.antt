use Rattle.std.proofs.{Common.{◌∙◌, ap, ap₂, false, map, subst}, lemmas.Option.{same_Some}}
use Rattle.class_merge.specs.Classes.{class_in}
use Rattle.row_book.specs.{Pruning.{prune}, Rounds.{limit_at}, Thinning.{thin}}
use Rattle.kernel_rounds.specs.Known.{AreKnownRounds, IsClassifiedPart}
use Rattle.kernel_rounds.proofs.Behind.{classified_part, kernel_behind_round_lem, left_by_first}
use Rattle.kernel_rounds.proofs.known.classes_of_part.Goals as goal

pub returns-in_default-clause-passed : goal.returns-in_default-clause-passed
returns-in_default-clause-passed c = λ P flat _ none.
    let first = left_by_first c.args.limit P c.args.masked.now c.requires.mask flat _ (c.in_ok-left.ensures.book ∙ ap (λ R. thin (prune R)) c.in_ok-merged.ensures.quotient) in
    c.in_ok-rounds.ensures.passed c.in_default.is (ap (limit_at c.args.limit false) first ∙ ((kernel_behind_round_lem c.args.limit false P flat.sound).within.0 none).1)

pub returns-clause-classes : goal.returns-clause-classes
returns-clause-classes c = λ P flat made is.
    let first = left_by_first c.args.limit P c.args.masked.now c.requires.mask flat _ (c.in_ok-left.ensures.book ∙ ap (λ R. thin (prune R)) c.in_ok-merged.ensures.quotient) in
    subst (IsClassifiedPart c.args.limit P c.args.masked.now.flags.now) (same_Some _ made is)
    (classified_part c.args.limit P c.args.masked.now c.requires.mask flat _ c.in-Some.rounds c.in_ok-merged.merged.class_of c.of.result first
    (c.in_ok-rounds.ensures.known c.in-Some.rounds c.in-Some.is)
    (c.in_ok-rounds.ensures.of_first c.in-Some.rounds c.in-Some.is)
    c.in_ok-merged.ensures.class_of c.in_ok-merged.ensures.size
    (c.of.ensures ∙ c.in_ok-classes.ensures ∙ ap₂ (λ next classes. map (class_in next) classes) c.as_slice-2.ensures c.as_slice.ensures))

pub returns-clause-rounds : goal.returns-clause-rounds
returns-clause-rounds c = λ made is.
    subst (λ made. AreKnownRounds made.rounds) (same_Some _ made is) (c.in_ok-rounds.ensures.known c.in-Some.rounds c.in-Some.is)
