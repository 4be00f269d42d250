use Rattle.suite_part.proofs.Lefts.{none_left}
use Rattle.suite_part.proofs.rows.LeftClauses.new.Goals as goal

pub returns : goal.returns
returns c = λ flags pool. none_left c.args.from.now flags pool _ _ _ c.clause_count-count.ensures.count c.in_ok-known.ensures.size c.in_ok-known.ensures.none c.in_ok-whole.ensures
