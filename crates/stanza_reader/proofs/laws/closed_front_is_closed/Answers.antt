use Rattle.stanza_reader.proofs.CloseLemmas.{closed_front_is_closed}
use Rattle.stanza_reader.proofs.laws.closed_front_is_closed.Goals as goal

pub returns : goal.returns
returns c = closed_front_is_closed
