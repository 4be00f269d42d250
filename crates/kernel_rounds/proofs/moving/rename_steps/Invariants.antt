use Rattle.std.proofs.Common.{ℕ, List, take}
use Rattle.clause_pool.specs.{Interned.{Interned}, Compacting.{Compacts}}
use Rattle.kernel_rounds.specs.Moving.{AreSameSteps}
use Rattle.kernel_rounds.proofs.moving.rename_steps.Given as goal

abbrev pub invariant-loop-step : goal.invariant-loop-step
invariant-loop-step l = (old new : Interned) (live : List ℕ) → Compacts old live l.remap new → AreSameSteps old (take l.step-index l.steps) new l.made
