use Rattle.row_book.specs.Book.{repository_of}
use Rattle.clause_flatten.proofs.Running.{RunAt}
use Rattle.clause_flatten.proofs.flattening.take_all_out.Given as goal

abbrev pub invariant-loop-turn : goal.invariant-loop-turn
invariant-loop-turn l = RunAt (repository_of l.fn.pool l.book) l.rule.limit l.rule.hold l.turn l.fn.pool l.pool l.rows l.uses l.waiting l.held.items
