use Rattle.kernel_text.proofs.StoredReading.{one_reading}
use Rattle.kernel_text.proofs.laws.texts_are_read_once.Goals as goal

pub returns : goal.returns
returns c = one_reading
