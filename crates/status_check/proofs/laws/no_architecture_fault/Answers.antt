use Rattle.status_check.proofs.Architectures.{no_architecture_fault}
use Rattle.status_check.proofs.laws.no_architecture_fault.Goals as goal

pub returns : goal.returns
returns c = no_architecture_fault
