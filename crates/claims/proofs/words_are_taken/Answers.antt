use Rattle.claims.proofs.Words.{words_are_taken}
use Rattle.claims.proofs.words_are_taken.Goals as goal

pub returns : goal.returns
returns c = words_are_taken
