-- What is there for a course to go on by: a file, an index without a fault, one within the clause
-- limit.
use Rattle.std.specs.Prelude.{◌≡◌, ℕ, ◌≤◌, Bool, List, length, Some, None}
use Rattle.byte_flow.specs.Flow.{Files}
use Rattle.repo_model.specs.{FirstFault.{first_fault}, Repository.{suite_repository}}
use Rattle.row_book.specs.Rounds.{limit_at}
use Rattle.suite_compare.specs.Refusals.{home_in, packages_in}
use Rattle.coinst_run.specs.Outcome.{file_limit}

-- the file at the path is there, with this text, and no longer than a file may be
pub record HasFile (files : Files) (path text : List ℕ) : Type 0 where
  pub is : files path ≡ Some text
  pub short : length text ≤ file_limit

-- and its text is an index without a fault
pub record HasIndex (files : Files) (path text : List ℕ) : Type 0 where
  pub file : HasFile files path text
  pub accepted : first_fault text ≡ None

-- no package of the index passes the clause limit in any round
abbrev pub IsWithinLimit : ℕ → Bool → List ℕ → Type 0
IsWithinLimit limit hold text =
    limit_at limit hold (suite_repository (home_in text) (packages_in text)) ≡ None

-- an index at the path, whose packages stay within the clause limit
abbrev pub HasKernel : Files → List ℕ → ℕ → Bool → List ℕ → Type 0
HasKernel files path limit hold text = HasIndex files path text × IsWithinLimit limit hold text
