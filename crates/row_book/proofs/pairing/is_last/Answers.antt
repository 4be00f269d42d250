use Rattle.std.proofs.Common.{ℕ, ◌≡◌, ◌-◌, List, [], ◌∷◌, length, Some, eqb, arith}
use Rattle.std.specs.List.{slice_get}
use Rattle.row_book.specs.Pairs.{is_last}
use Rattle.row_book.proofs.Pairs.{is_last_at}
use Rattle.row_book.proofs.pairing.is_last.Goals as goal

-- the last item, read at the length less one
last_read : (xs : List ℕ) (x n : ℕ) → Some x ≡ slice_get xs (length xs - 1) → eqb x n ≡ is_last xs n
last_read [] x n e = let f : eqb x n ≡ is_last [] n = cc in f
last_read (y ∷ ys) x n e = is_last_at (y ∷ ys) (length (y ∷ ys) - 1) x n (omega arith) e

pub returns-in-Some : goal.returns-in-Some
returns-in-Some c = last_read c.args.list.now c.in-Some.last.now c.args.number c.in-Some.ensures.value
