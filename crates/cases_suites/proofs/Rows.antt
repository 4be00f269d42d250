-- The table of users of rows has a list for each of them.
use Rattle.std.proofs.Common.{◌≡◌, ℕ, List, length, ap, ◌∙◌}
use Rattle.clause_pool.specs.Interned.{Interned}
use Rattle.row_book.specs.Uses.{uses_of}
use Rattle.row_book.proofs.Users.{length_uses}

pub uses_size : (pool : Interned) (rows : List ℕ) (table : List (List ℕ)) → table ≡ uses_of pool rows → length table ≡ length rows
uses_size pool rows table e = ap length e ∙ length_uses pool rows
