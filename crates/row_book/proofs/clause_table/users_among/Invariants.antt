use Rattle.std.proofs.Common.{◌≡◌, ℕ, take}
use Rattle.std.specs.List.{list_any}
use Rattle.listed.specs.Lists.{has}
use Rattle.row_book.specs.Uses.{list_in}
use Rattle.row_book.proofs.clause_table.users_among.Given as goal

abbrev pub invariant-loop-place : goal.invariant-loop-place
invariant-loop-place l = (m : ℕ) → has l.found.items m ≡ list_any (λ c. has (list_in l.users c) m) (take l.place-index l.places)
