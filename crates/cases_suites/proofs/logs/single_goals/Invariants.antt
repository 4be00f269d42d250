use Rattle.row_book.specs.Needs.{NeedsFit}
use Rattle.cases_suites.proofs.logs.single_goals.Given as goal

abbrev pub invariant-loop-number : goal.invariant-loop-number
invariant-loop-number l = NeedsFit l.size l.goals
