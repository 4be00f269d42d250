use Rattle.std.proofs.Common.{refl, arith}
use Rattle.deb_version.specs.{declared.classes.TheConstants.{CLASS}, Names.{is_name_byte}}
use Rattle.deb_version.proofs.ClassTable.{agree_below, from_table}
use Rattle.deb_version.proofs.classes.is_name_byte.Goals as goal

pub returns : goal.returns
unfolding agree_below
returns c = from_table CLASS 1 is_name_byte c.args.byte (omega arith) refl
