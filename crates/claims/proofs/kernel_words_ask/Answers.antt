use Rattle.claims.proofs.Words.{kernel_words_ask}
use Rattle.claims.proofs.kernel_words_ask.Goals as goal

pub returns : goal.returns
returns c = kernel_words_ask
