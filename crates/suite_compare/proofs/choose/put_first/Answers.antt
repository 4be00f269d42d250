use Rattle.std.{proofs.Common.{◌<◌, length, arith}, proofs.lemmas.Grind.{common_steps}}
use Rattle.listed.proofs.Lists.{In_at}
use Rattle.suite_compare.proofs.choose.put_first.Goals as goal

pub put-requires : goal.put-requires
put-requires c = let some : 0 < length c.args.clause.now = grind (arith, common_steps) in c.requires _ (In_at c.args.clause.now 0 0 some)
