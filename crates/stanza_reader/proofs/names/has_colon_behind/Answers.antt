use Rattle.std.proofs.Common.{eqb-true}
use Rattle.stanza_reader.proofs.NameLemmas.{name_before}
use Rattle.stanza_reader.proofs.names.has_colon_behind.Goals as goal

pub returns-then-len-line-clause-name : goal.returns-then-len-line-clause-name
returns-then-len-line-clause-name c colon = name_before c.args.line.now c.args.len c.requires c.if-len-line.true (eqb-true _ _ colon)
