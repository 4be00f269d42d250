use Rattle.std.{proofs.Common.{sym, ap, ◌∙◌}, proofs.lemmas.Bool.{false≢true}}
use Rattle.listed.proofs.Lists.{In_none, item_in}
use Rattle.suite_compare.{specs.Choices.{has_first_member}, proofs.Groups.{first_all, first_more}, proofs.Chosen.{have_firsts}}
use Rattle.suite_compare.proofs.choose.has_firsts.Goals as goal

pub loop-clause-init : goal.loop-clause-init
loop-clause-init c = λ id i. absurd (In_none i)

pub slice-requires : goal.slice-requires
slice-requires c = c.requires c.clause-item.result (item_in c.args.row.now c.loop-clause.clause-index c.clause-item.result c.loop-clause-test.true c.clause-item.is)

pub loop-clause-preserved : goal.loop-clause-preserved
loop-clause-preserved c = first_more _ c.args.row.now c.loop-clause.clause-index c.clause-item.result c.loop-clause-test.true
    (rw (← c.clause-item.is) (ap (has_first_member c.args.chosen.now.1) (sym c.slice.ensures.lent) ∙ sym c.has_first.ensures ∙ c.if-not-has_first.false)) c.loop-clause.invariant

pub returns-then-not-has_first : goal.returns-then-not-has_first
returns-then-not-has_first c = λ e. absurd (false≢true e)

pub returns : goal.returns
returns c = λ e. have_firsts c.args.pool.now c.args.row.now c.args.chosen.now.1 (first_all _ c.args.row.now c.loop-clause.clause-index c.loop-clause-test.false c.loop-clause.invariant)
