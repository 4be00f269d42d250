use Rattle.install_lift.proofs.Chained.{no_chains}
use Rattle.install_lift.proofs.user_table.UserTable.new.Goals as goal

pub returns : goal.returns
returns c = no_chains c.in_ok-heads.heads.items c.new.result.items c.args.size c.in_ok-heads.ensures c.new.ensures.items
