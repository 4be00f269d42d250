-- What a solver of a book holds.
use Rattle.std.specs.Prelude.{◌≡◌, ℕ, List, [], length}
use Rattle.listed.specs.Lists.{In}
use Rattle.row_book.specs.{Book.{listed_for}, Repository.{Repository}}
use Rattle.clause_solver.specs.{declared.solver.Solver.{Solver}, Engine.{whole_form, IsEngine}}
use Rattle.clause_solver.specs.Levels.{IsAt}
use Rattle.search_terms.specs.Form.{owned_sentences, clause_sentence}

-- nothing conflicts with itself
abbrev pub AreApart : List (List ℕ) → Type 0
AreApart conflicts = (p : ℕ) → In p (listed_for conflicts p) → ⊥

-- the sentences of the repository's clauses, their table, and the closure of its own formula
pub record IsReady (R : Repository) (solver : Solver) : Type 0 where
  pub size : solver.classes ≡ length R.clauses
  pub sentences : solver.own.items ≡ owned_sentences clause_sentence 0 R.clauses
  pub engine : IsEngine solver.classes [] solver.own.items solver.uses.items R.conflicts
  pub trail : solver.base.0 ≡ solver.classes
  pub base : IsAt solver.dead (whole_form [] solver.own.items R.conflicts) [] [] solver.base.1
