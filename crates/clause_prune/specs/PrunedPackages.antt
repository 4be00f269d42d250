-- for the bodies of this crate alone
-- A package that is pruned, and its repository as it is left.
use Rattle.std.specs.Prelude.{ℕ, ◌<◌, List, [], length}
use Rattle.listed.specs.Lists.{In, Ascending}
use Rattle.row_book.specs.{Book.{listed_for, RowsFit}, Repository.{Repository}}
use Rattle.clause_prune.specs.Tests.{with_ids}
use Rattle.clause_prune.specs.declared.pruned_package.PrunedPackage.{PrunedPackage}

-- the package has one of the rows, which fit the pool; the conflicts are of packages, and ascend
pub record IsPrunable (p : PrunedPackage) : Type 0 where
  pub fit : RowsFit p.pool.now p.rows.now
  pub conflicts : (m n : ℕ) → In n (listed_for p.table.now m) → n < length p.rows.now
  pub inside : p.number < length p.rows.now
  pub ascending : (m : ℕ) → Ascending (listed_for p.table.now m)

-- the repository, with these clauses for the package
abbrev pub left_with : PrunedPackage → List ℕ → Repository
left_with p left = with_ids p.pool.now p.rows.now p.number left p.table.now

-- the rows, with these clauses for the package, without conflicts
abbrev pub bare_with : PrunedPackage → List ℕ → Repository
bare_with p left = with_ids p.pool.now p.rows.now p.number left []
