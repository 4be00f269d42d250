use Rattle.kernel_text.proofs.StoredReading.{texts_are_told}
use Rattle.kernel_text.proofs.laws.texts_are_told.Goals as goal

pub returns : goal.returns
returns c = texts_are_told
