use Rattle.std.{proofs.Common.{◌∙◌, sym}, proofs.lemmas.Bool.{false≢true}}
use Rattle.suite_compare.proofs.Chosen.{served}
use Rattle.suite_compare.proofs.choose.is_served.Goals as goal

pub returns-then-conflicts_with_one : goal.returns-then-conflicts_with_one
returns-then-conflicts_with_one c = λ e. absurd (false≢true e)

pub returns : goal.returns
returns c = λ e. served c.args.kernel.now.pool.now c.args.kernel.now.book.now c.args.class c.args.chosen.now.1 _ (sym c.conflicts_with_one.ensures ∙ c.if-conflicts_with_one.false) c.row_of.ensures.clauses (c.has_firsts.ensures e)
