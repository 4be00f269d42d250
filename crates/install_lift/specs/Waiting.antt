-- for the bodies of this crate alone
-- The packages that wait to be looked at.
use Rattle.std.specs.{Prelude.{◌≡◌, ℕ, ◌≤◌, true}, Ordering.{nat_cmp}}
use Rattle.std.specs.BTreeSet.{contains, btree_set_len}
use Rattle.row_book.specs.Sets.{NumSet}
use Rattle.install_lift.specs.declared.waiting.Waiting.{Waiting}

-- whether the package waits
abbrev pub is_waiting : Waiting → NumSet
is_waiting waiting q = contains nat_cmp waiting.packages q

-- how many packages wait
abbrev pub waiting_count : Waiting → ℕ
waiting_count waiting = btree_set_len waiting.packages

-- the package is one of the set, and none of the set is less
pub record IsLeast (set : NumSet) (p : ℕ) : Type 0 where
  pub waits : set p ≡ true
  pub least : (q : ℕ) → set q ≡ true → p ≤ q
