-- Goals picked by marks.
use Rattle.std.specs.Prelude.{ℕ, ◌-◌, ◌<◌, ◌≤◌, List, map}
use Rattle.row_book.specs.Book.{listed_for}
use Rattle.listed.specs.Lists.{In}
use Rattle.explain_core.specs.declared.explanation.Mark.{Mark}

-- each mark has a number from 1 up to the count
abbrev pub ArePlacesFrom1 : ℕ → List Mark → Type 0
ArePlacesFrom1 count marks = (m : Mark) → In m marks → (0 < m.goal) × (m.goal ≤ count)

-- the lists whose numbers, from 1, are marked
abbrev pub picked : List (List ℕ) → List Mark → List (List ℕ)
picked lists marks = map (λ m. listed_for lists (m.goal - 1)) marks
