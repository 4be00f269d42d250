use Rattle.deb_version.proofs.Numbers.{order_by_runs}
use Rattle.deb_version.proofs.digits.order_numbers.Goals as goal

pub returns : goal.returns
returns c = let e = order_by_runs c.args.left.now c.args.right.now c.requires.left c.requires.right in cc
