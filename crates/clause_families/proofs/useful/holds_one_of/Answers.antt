use Rattle.std.proofs.{Common.{get_or}, lemmas.Bool.{OnTrue_at}}
use Rattle.clause_pool.proofs.Lists.{In_at}
use Rattle.clause_families.proofs.useful.holds_one_of.Goals as goal

pub returns-then-is_one_of : goal.returns-then-is_one_of
returns-then-is_one_of c =
    (get_or c.args.clause.now c.loop-literal.literal-index 0, In_at c.args.clause.now c.loop-literal.literal-index 0 c.loop-literal-test.true, OnTrue_at c.if-is_one_of.true c.is_one_of.ensures)
