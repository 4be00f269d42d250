use Rattle.std.proofs.Common.{◌≡◌, ◌++◌, take}
use Rattle.std.specs.{Prelude.{codes}, List.{flat_map}}
use Rattle.coinst_run.specs.{Lines.{line_of_text}, QueryText.{log_line}}
use Rattle.coinst_run.proofs.query_text.no_text.Given as goal

abbrev pub invariant-loop-entry : goal.invariant-loop-entry
invariant-loop-entry l = l.text.items ≡ line_of_text (codes "no") ++ flat_map log_line (take l.entry-index l.entries)
