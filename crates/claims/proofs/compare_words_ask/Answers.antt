use Rattle.claims.proofs.Words.{compare_words_ask}
use Rattle.claims.proofs.compare_words_ask.Goals as goal

pub returns : goal.returns
returns c = compare_words_ask
