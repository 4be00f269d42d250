use Rattle.std.proofs.Common.{◌≡◌, take}
use Rattle.kernel_rounds.specs.Moving.{live_rows}
use Rattle.kernel_rounds.proofs.moving.live_rows.Given as goal

abbrev pub invariant-loop-step : goal.invariant-loop-step
invariant-loop-step l = l.rows.items ≡ live_rows l.book (take l.step-index l.steps)
