use Rattle.search_terms.specs.Closure.{InRange}
use Rattle.cases_suites.proofs.logs.entries_of.Given as goal

abbrev pub invariant-loop-literal : goal.invariant-loop-literal
invariant-loop-literal l = InRange l.size l.entries
