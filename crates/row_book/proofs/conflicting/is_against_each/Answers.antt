use Rattle.std.proofs.Common.{sym, arith}
use Rattle.row_book.specs.Facing.{against_in}
use Rattle.clause_pool.proofs.Leads.{all_pass}
use Rattle.row_book.proofs.conflicting.is_against_each.Goals as goal

pub returns : goal.returns
returns c = sym (all_pass (λ other. against_in c.args.table.now other c.args.number) c.args.others.now (λ k l. c.loop-other.invariant k (omega arith)))
