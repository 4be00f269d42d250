use Rattle.std.proofs.Common.{◌+◌, arith}
use Rattle.install_lift.proofs.Through.{only_is}
use Rattle.install_lift.proofs.lifting.put_last.Goals as goal

pub returns : goal.returns
returns c = rw c.requires (only_is c.args.number (c.args.number + 1) (omega arith))
