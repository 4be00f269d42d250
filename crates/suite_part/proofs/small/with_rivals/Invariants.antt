use Rattle.suite_part.proofs.Rivals.{RivalsTo}
use Rattle.suite_part.proofs.small.with_rivals.Given as goal

abbrev pub invariant-loop-number : goal.invariant-loop-number
invariant-loop-number l = RivalsTo l.book.conflicts l.flags l.needed l.apart.items l.number
