use Rattle.std.proofs.Common.{sym, ◌∙◌, arith, length}
use Rattle.clause_flatten.specs.{Ready.{table_of}, TakingOut.{is_over}}
use Rattle.clause_flatten.proofs.Runs.{least_passing, none_passing}
use Rattle.clause_flatten.proofs.taking_out.least_over.Goals as goal

pub returns-then-is_over : goal.returns-then-is_over
returns-then-is_over c pool =
    sym (least_passing (is_over (table_of pool c.args.rows.now) c.args.limit) (length c.args.rows.now) c.loop-number.number (omega arith)
    (c.loop-number.invariant pool) (sym (c.is_over.ensures pool) ∙ c.if-is_over.true))

pub returns : goal.returns
returns c pool =
    sym (none_passing (is_over (table_of pool c.args.rows.now) c.args.limit) (length c.args.rows.now) (λ k l. c.loop-number.invariant pool k (omega arith)))
