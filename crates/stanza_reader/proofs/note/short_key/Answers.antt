use Rattle.std.proofs.Common.{◌∙◌}
use Rattle.stanza_reader.proofs.MarkLemmas.{short_is}
use Rattle.stanza_reader.proofs.note.short_key.Goals as goal

pub returns : goal.returns
returns c = c.from_be_bytes.ensures ∙ short_is c.args.name.now c.requires.some
