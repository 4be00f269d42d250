-- When a book is refused.
use Rattle.std.specs.Prelude.{⊤}
use Rattle.row_book.specs.Flattening.{Passed}
use Rattle.clause_flatten.specs.declared.error.FlatError.{FlatError}
use Rattle.clause_flatten.specs.declared.error.FlatError.TheVariants.{Limit, Memory}

-- what holds of the row that has too many clauses, if that is the error, and nothing if no memory
-- is found
abbrev pub OnLimit : (Passed → Type 0) → FlatError → Type 0
OnLimit P (Limit gone over count) = P (record { gone = gone; over = over; count = count })
OnLimit P Memory = ⊤
