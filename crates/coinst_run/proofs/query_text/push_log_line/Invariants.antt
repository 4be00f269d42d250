use Rattle.std.proofs.Common.{◌≡◌, ◌++◌, take}
use Rattle.std.specs.{Prelude.{codes}, List.{flat_map}}
use Rattle.coinst_run.specs.QueryText.{literal_text}
use Rattle.coinst_run.proofs.query_text.push_log_line.Given as goal

abbrev pub invariant-loop-literal : goal.invariant-loop-literal
invariant-loop-literal l = l.out.items ≡ l.fn.out.items ++ codes "log" ++ flat_map literal_text (take l.literal-index l.entry)
