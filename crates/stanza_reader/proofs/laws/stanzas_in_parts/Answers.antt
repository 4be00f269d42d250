use Rattle.stanza_reader.proofs.PartLemmas.{stanzas_in_parts}
use Rattle.stanza_reader.proofs.laws.stanzas_in_parts.Goals as goal

pub returns : goal.returns
returns c = stanzas_in_parts
