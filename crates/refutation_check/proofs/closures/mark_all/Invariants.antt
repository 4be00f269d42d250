use Rattle.std.proofs.Common.{take, Bool}
use Rattle.search_terms.specs.{declared.literals.Literal.{Literal}, Closure.{HasGiven}, Marks.{IsWithin, is_marked}}
use Rattle.refutation_check.proofs.closures.mark_all.Given as goal

abbrev pub invariant-loop-l : goal.invariant-loop-l
invariant-loop-l l = record {
  all : HasGiven (is_marked l.flags) (take l.l-index l.given);
  only : (s : Literal → Bool) → HasGiven s l.given → IsWithin (is_marked l.initial.flags) s → IsWithin (is_marked l.flags) s;
}
