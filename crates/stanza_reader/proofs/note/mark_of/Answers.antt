use Rattle.stanza_reader.proofs.MarkLemmas.{mark_is}
use Rattle.stanza_reader.proofs.note.mark_of.Goals as goal

pub returns : goal.returns
returns c = mark_is c.args.key
