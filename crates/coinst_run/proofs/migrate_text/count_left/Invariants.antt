use Rattle.std.proofs.Common.{◌≡◌, ◌≤◌, filter, length, take}
use Rattle.coinst_run.specs.MigrateText.{is_not_taken}
use Rattle.coinst_run.proofs.migrate_text.count_left.Given as goal

abbrev pub invariant-loop-line : goal.invariant-loop-line
invariant-loop-line l = record { counted : l.count ≡ length (filter is_not_taken (take l.line-index l.lines)); few : l.count ≤ l.line-index }
