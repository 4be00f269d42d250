use Rattle.row_book.specs.Book.{Sound}
use Rattle.tool_times.proofs.measure_rounds.Given as goal

abbrev pub invariant-loop : goal.invariant-loop
invariant-loop l = Sound l.pool l.book
