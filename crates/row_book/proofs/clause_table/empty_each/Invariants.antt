use Rattle.std.proofs.Common.{◌≡◌, ℕ, [], take}
use Rattle.listed.specs.Lists.{In}
use Rattle.row_book.specs.Uses.{list_in}
use Rattle.row_book.proofs.clause_table.empty_each.Given as goal

abbrev pub invariant-loop-number : goal.invariant-loop-number
invariant-loop-number l = record {
  empty : (n : ℕ) → In n (take l.number-index l.numbers) → list_in l.lists n ≡ [];
  others : (n : ℕ) → (In n (take l.number-index l.numbers) → ⊥) → list_in l.lists n ≡ list_in l.fn.lists n;
}
