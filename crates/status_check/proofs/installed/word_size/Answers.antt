use Rattle.std.proofs.Common.{◌∙◌, sym}
use Rattle.status_check.proofs.Words.{white_none}
use Rattle.status_check.proofs.installed.word_size.Goals as goal

pub returns-in-None-clause-place : goal.returns-in-None-clause-place
returns-in-None-clause-place c = white_none c.args.text.now (sym c.white_place.ensures ∙ c.in-None.is)
