use Rattle.std.proofs.Common.{refl, arith}
use Rattle.deb_version.specs.{declared.classes.TheConstants.{CLASS}, Grammar.{is_upstream_byte}}
use Rattle.deb_version.proofs.ClassTable.{agree_below, from_table}
use Rattle.deb_version.proofs.classes.is_upstream_byte.Goals as goal

pub returns : goal.returns
unfolding agree_below
returns c = from_table CLASS 4 is_upstream_byte c.args.byte (omega arith) refl
