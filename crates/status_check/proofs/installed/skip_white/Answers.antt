use Rattle.std.proofs.Common.{◌∙◌}
use Rattle.stanza_reader.proofs.ValueLemmas.{trimmed_front}
use Rattle.status_check.proofs.installed.skip_white.Goals as goal

pub returns : goal.returns
returns c = c.trim_front.ensures ∙ trimmed_front c.args.text.now
