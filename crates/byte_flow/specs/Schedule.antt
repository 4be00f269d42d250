-- Calls that are numbered from 1, and the numbers of those that are to fail.
use Rattle.std.specs.{Prelude.{ℕ, ◌+◌, ◌-◌, ◌^◌, Bool, ◌&&◌, ◌==◌, nat_lt, List}, List.{list_any}}

-- whether a listed call is still to come, after this number of calls
abbrev pub has_pending : ℕ → List ℕ → Bool
has_pending calls listed = list_any (λ n. nat_lt calls n) listed

-- Whether the next call is a listed one, after this number of calls. A call after number 2^64 - 1
-- has no number.
abbrev pub is_next_listed : ℕ → List ℕ → Bool
is_next_listed calls listed = nat_lt calls (2 ^ 64 - 1) && list_any (λ n. n == calls + 1) listed
