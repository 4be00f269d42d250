use Rattle.suite_part.proofs.Lefts.{no_rows_left}
use Rattle.suite_part.proofs.rows.LeftRows.new.Goals as goal

pub returns : goal.returns
returns c = λ flags pool. record {
  rows = no_rows_left c.args.from.now flags pool _ _ c.row_count.ensures.count c.in_ok-known.ensures.size c.in_ok-known.ensures.none;
  clauses = c.in_ok-clauses.ensures flags pool;
}
