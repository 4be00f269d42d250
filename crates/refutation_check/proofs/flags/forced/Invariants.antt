use Rattle.std.proofs.Common.{take}
use Rattle.search_terms.specs.{Closure.{IsUnitClosed}, Marks.{is_marked}}
use Rattle.refutation_check.proofs.flags.forced.Given as goal

abbrev pub invariant-loop-sentence : goal.invariant-loop-sentence
invariant-loop-sentence l = IsUnitClosed (take l.sentence-index l.formula) (is_marked l.flags)
