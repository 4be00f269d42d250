use Rattle.stanza_reader.proofs.PartLemmas.{closed_texts_join}
use Rattle.stanza_reader.proofs.laws.closed_texts_join.Goals as goal

pub returns : goal.returns
returns c = closed_texts_join
