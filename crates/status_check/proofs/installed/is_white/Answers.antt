use Rattle.std.proofs.Common.{◌∙◌}
use Rattle.stanza_reader.proofs.ValueLemmas.{same_edge}
use Rattle.status_check.proofs.installed.is_white.Goals as goal

pub returns : goal.returns
returns c = c.is_white_byte.ensures ∙ same_edge c.args.byte
