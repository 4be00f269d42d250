use Rattle.std.proofs.Common.{◌≡◌, take}
use Rattle.std.specs.List.{flat_map}
use Rattle.coinst_run.specs.MigrateText.{plan_line}
use Rattle.coinst_run.proofs.migrate_text.plan_text.Given as goal

abbrev pub invariant-loop-line : goal.invariant-loop-line
invariant-loop-line l = l.text.items ≡ flat_map plan_line (take l.line-index l.lines)
