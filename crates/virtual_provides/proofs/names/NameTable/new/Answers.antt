use Rattle.virtual_provides.proofs.Built.{none_built}
use Rattle.virtual_provides.proofs.names.NameTable.new.Goals as goal

pub returns : goal.returns
returns c = none_built _
