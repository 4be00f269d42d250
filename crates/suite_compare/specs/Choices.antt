-- for the bodies of this crate alone
-- First choices as lists of classes, and which of them are at peace.
use Rattle.std.specs.Prelude.{◌≡◌, ℕ, ◌<◌, Bool, true, false, if◌then◌else◌, List, [], ◌∷◌, ◌++◌}
use Rattle.std.specs.Prelude.{slice_index_or}
use Rattle.listed.specs.Lists.{In, has}
use Rattle.row_book.specs.{Book.{listed_for}, Repository.{Repository, against, clauses_of}}
use Rattle.suite_compare.specs.FirstChoices.{first_member, is_one_of, IsFirstChoice}

-- each number of the list is below the size
abbrev pub AreBelow : ℕ → List ℕ → Type 0
AreBelow size list = (n : ℕ) → In n list → n < size

-- no member of the first list conflicts with one of the second
abbrev pub ArePeaceful : List (List ℕ) → List ℕ → List ℕ → Type 0
ArePeaceful conflicts S T = (m n : ℕ) → In m S → In n T → has (listed_for conflicts m) n ≡ false

-- the class appended, unless it is there already
abbrev pub with_class : List ℕ → ℕ → List ℕ
with_class members class = if has members class then members else members ++ class ∷ []

-- a flag for each class, up for the members
pub record AreFlagged (flags : List Bool) (members : List ℕ) : Type 0 where
  pub each : (n : ℕ) → slice_index_or flags n false ≡ has members n

-- the first member of a clause is among the chosen, and so is that of each of some clauses
abbrev pub has_first_member : List ℕ → List ℕ → Bool
has_first_member chosen clause = is_one_of (has chosen) (first_member clause)

abbrev pub HaveFirsts : List (List ℕ) → List ℕ → Type 0
HaveFirsts clauses chosen = (c : List ℕ) → In c clauses → has_first_member chosen c ≡ true

-- the first member of each clause of a class is among the chosen, and none of these conflicts with
-- it
pub record IsServed (R : Repository) (chosen : List ℕ) (p : ℕ) : Type 0 where
  pub firsts : HaveFirsts (clauses_of R p) chosen
  pub peace : (n : ℕ) → In n chosen → against R p n ≡ false

-- if there is any chosen class, the set is a first choice of the goal
abbrev pub IsChosen : Repository → List ℕ → List ℕ → Type 0
IsChosen R goal chosen = (n : ℕ) → In n chosen → IsFirstChoice R (goal ∷ []) (has chosen)
