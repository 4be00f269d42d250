use Rattle.kernel_text.proofs.ReadIsWritten.{read_is_written}
use Rattle.kernel_text.proofs.laws.read_is_written.Goals as goal

pub returns : goal.returns
returns c = read_is_written
