use Rattle.std.proofs.Common.{ap, ◌∙◌}
use Rattle.stanza_reader.specs.Fields.{trimmed_start}
use Rattle.stanza_reader.proofs.ValueLemmas.{trimmed_back, trimmed_front}
use Rattle.stanza_reader.proofs.values.trimmed.Goals as goal

pub returns : goal.returns
returns c = c.trim_front.ensures ∙ trimmed_front c.trim_back.result.now ∙ ap trimmed_start (c.trim_back.ensures ∙ trimmed_back c.args.text.now)
