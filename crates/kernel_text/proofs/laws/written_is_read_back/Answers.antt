use Rattle.kernel_text.proofs.ReadBack.{read_back}
use Rattle.kernel_text.proofs.laws.written_is_read_back.Goals as goal

pub returns : goal.returns
returns c = read_back
