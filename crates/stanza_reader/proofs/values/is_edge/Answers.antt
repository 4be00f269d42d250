use Rattle.std.proofs.Common.{◌∙◌}
use Rattle.stanza_reader.proofs.ValueLemmas.{same_edge}
use Rattle.stanza_reader.proofs.values.is_edge.Goals as goal

pub returns : goal.returns
returns c = c.is_white_byte.ensures ∙ same_edge c.args.byte
