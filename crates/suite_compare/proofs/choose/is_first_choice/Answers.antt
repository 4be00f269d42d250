use Rattle.std.{proofs.Common.{sym, ◌∙◌}, proofs.lemmas.Bool.{false≢true}}
use Rattle.listed.proofs.Lists.{In_at, In_none}
use Rattle.suite_compare.proofs.{Groups.{first_all, first_more}, Chosen.{choice_is}}
use Rattle.suite_compare.proofs.choose.is_first_choice.Goals as goal

pub loop-class-init : goal.loop-class-init
loop-class-init c = λ p i. absurd (In_none i)

pub is_served-requires : goal.is_served-requires
is_served-requires c = rw (← c.requires) (c.as_slice-class-items.ensures.below _ (In_at c.as_slice-class-items.result.now c.loop-class.class-index 0 c.loop-class-test.true))

pub loop-class-preserved : goal.loop-class-preserved
loop-class-preserved c = first_more _ c.as_slice-class-items.result.now c.loop-class.class-index 0 c.loop-class-test.true (c.is_served.ensures c.if-not-is_served.false) c.loop-class.invariant

pub returns-then-not-is_served : goal.returns-then-not-is_served
returns-then-not-is_served c = λ e. absurd (false≢true e)

pub returns : goal.returns
returns c = λ e. choice_is c.args.kernel.now.pool.now c.args.kernel.now.book.now c.args.goal.now c.args.chosen.now.1 (rw (← c.requires) (rw c.as_slice-class-items.ensures.items at c.as_slice-class-items.ensures.below))
    (sym c.has_first.ensures ∙ e) (rw c.as_slice-class-items.ensures.items at (first_all _ c.as_slice-class-items.result.now c.loop-class.class-index c.loop-class-test.false c.loop-class.invariant))
