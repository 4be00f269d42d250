-- for the bodies of this crate alone
-- Chains of entries in one list: each entry leads to one before it.
use Rattle.std.specs.Prelude.{ℕ, zero, suc, ◌<◌, ◌≤◌, List, [], ◌∷◌, length, map, slice_index_or}
use Rattle.install_lift.specs.declared.user_table.Entry.{Entry}

abbrev pub entry_at : List Entry → ℕ → Entry
entry_at entries place = slice_index_or entries place (record { user = 0; before = 0 })

-- the users along a chain, of at most a number of entries; the chain begins at the entry whose
-- place plus one is given, and ends at zero
unfoldable pub chain : ℕ → List Entry → ℕ → List ℕ
chain zero entries head = []
chain (suc most) entries zero = []
chain (suc most) entries (suc place) =
    (entry_at entries place).user ∷ chain most entries (entry_at entries place).before

-- each entry leads to one before it
abbrev pub Falls : List Entry → Type 0
Falls entries = (place : ℕ) → place < length entries → (entry_at entries place).before ≤ place

-- chains that begin at entries of the list
pub record AreChains (heads : List ℕ) (entries : List Entry) : Type 0 where
  pub falls : Falls entries
  pub begin : (n : ℕ) → slice_index_or heads n 0 ≤ length entries

-- the users along each chain
unfoldable pub chains_of : List ℕ → List Entry → List (List ℕ)
chains_of heads entries = map (chain (length entries) entries) heads
