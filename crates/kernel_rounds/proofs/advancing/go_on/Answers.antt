use Rattle.std.proofs.Common.{◌∙◌, ap₂, map, sym}
use Rattle.row_book.specs.{Book.{repository_of, IsSameBook}, Rounds.{steps_after}}
use Rattle.listed.proofs.Lists.{In_none}
use Rattle.class_merge.specs.Classes.{class_in}
use Rattle.kernel_rounds.proofs.{Midways.{midway_more}, MovedSteps.{steps_more_round}}
use Rattle.kernel_rounds.proofs.advancing.go_on.Goals as goal

pub keep_live-requires-clause-steps : goal.keep_live-requires-clause-steps
keep_live-requires-clause-steps c = λ step i. absurd (In_none i)

pub returns-clause-next : goal.returns-clause-next
returns-clause-next c = λ R limit hold start old s m same r f.
    let before : IsSameBook c.args.work.now c.args.now.book c.book_in.new.into c.in_ok-before.before =
    c.in_ok-before.ensures.same (λ one. record { repository = (m.first one).repository ∙ sym same; sound = λ _. (m.first one).sound m.sound }) in
    midway_more limit hold R start c.args.into.now c.book_in.new.into old c.args.work.now c.keep_live.new.pool c.args.now _ c.args.made s m r f
    c.in_ok-after.ensures.book
    (steps_more_round limit hold (repository_of old c.args.now.book) start c.args.into.now c.book_in.new.into c.args.work.now c.in_ok-before.before c.args.now.steps c.in_ok-steps.steps
    (steps_after limit hold R m.index) c.args.made c.requires.into m.steps r (before.repository ∙ same) (before.sound c.requires.before) c.in_ok-before.ensures.only c.book_in.ensures.kept c.in_ok-steps.ensures)
    (c.in_ok-classes.ensures ∙ ap₂ (λ n cs. map (class_in n) cs) c.as_slice-2.ensures c.as_slice.ensures.value) c.saturating_add.ensures
