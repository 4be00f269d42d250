use Rattle.stanza_reader.proofs.PartLemmas.{reads_in_parts}
use Rattle.stanza_reader.proofs.laws.reads_in_parts.Goals as goal

pub returns : goal.returns
returns c = reads_in_parts
