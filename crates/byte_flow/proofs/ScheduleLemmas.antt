-- What is not pending stays not pending.
use Rattle.std.proofs.{Common.{◌≡◌, ℕ, ◌+◌, ◌≤◌, false, List, [], ◌∷◌, refl, arith}, lemmas.Grind.{common_steps}}
use Rattle.std.specs.{Prelude.{◌==◌}, List.{list_any}}
use Rattle.byte_flow.specs.Schedule.{has_pending}

pub none_pending_later : (calls later : ℕ) (listed : List ℕ) → calls ≤ later → has_pending calls listed ≡ false → has_pending later listed ≡ false
none_pending_later calls later [] h none = refl
none_pending_later calls later (n ∷ listed) h none = grind (arith, common_steps, none_pending_later calls later listed h)

pub none_pending_next : (calls : ℕ) (listed : List ℕ) → has_pending calls listed ≡ false → list_any (λ n. n == calls + 1) listed ≡ false
none_pending_next calls [] none = refl
none_pending_next calls (n ∷ listed) none = grind (arith, common_steps, none_pending_next calls listed)
