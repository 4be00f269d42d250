use Rattle.kernel_text.proofs.StoredReading.{is_judged}
use Rattle.kernel_text.proofs.laws.texts_are_judged.Goals as goal

pub returns : goal.returns
returns c = is_judged
