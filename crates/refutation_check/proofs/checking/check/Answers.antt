use Rattle.std.proofs.Common.{◌∙◌}
use Rattle.row_book.specs.Book.{repository_of}
use Rattle.search_terms.proofs.Ranges.{form_ranged}
use Rattle.refutation_check.proofs.Logs.{refutes_where}
use Rattle.refutation_check.proofs.checking.check.Goals as goal

pub derives-requires-clause-formula : goal.derives-requires-clause-formula
derives-requires-clause-formula c =
    rw (c.deref.ensures.value ∙ c.in_ok-formula.ensures, c.size.ensures) (form_ranged c.args.pool.now c.args.book.now c.args.goals.now c.requires.sound c.args.book.now.paired c.requires.goals)

pub returns-clause-refutes : goal.returns-clause-refutes
returns-clause-refutes c = refutes_where (repository_of c.args.pool.now c.args.book.now) c.args.goals.now c.args.log.now.entries c.in_ok-answer.answer (rw c.as_slice.ensures at (rw (c.deref.ensures.value ∙ c.in_ok-formula.ensures) at c.in_ok-answer.ensures))
