-- Steps whose books come into another pool, and pools that have only some rows.
use Rattle.std.specs.Prelude.{◌≡◌, ℕ, ◌<◌, List, [], ◌∷◌, ◌++◌, length}
use Rattle.clause_pool.specs.Interned.{Interned, Kept, ids_at}
use Rattle.row_book.specs.{declared.book.Book.{Book}, declared.trail.Step.{Step}}
use Rattle.row_book.specs.{declared.trail.Step.TheVariants.{Flat, Idle, Merge}, Book.{AddsOnly}}
use Rattle.row_book.specs.Rounds.{RoundStep}
use Rattle.row_book.specs.Trail.{SoundStep, SoundSteps, step_meaning, trail_meaning}
use Rattle.listed.specs.Lists.{In}

-- the rows of the book of a step, if it has one
abbrev pub step_rows : Step → List ℕ
step_rows (Flat before) = before.rows
step_rows (Idle «package» clause added) = []
step_rows (Merge class_of) = []

-- the rows of the books of the steps
abbrev pub trail_rows : List Step → List ℕ
trail_rows [] = []
trail_rows (step ∷ steps) = step_rows step ++ trail_rows steps

-- the rows of a book and of the books of the steps by which it came
abbrev pub live_rows : Book → List Step → List ℕ
live_rows book steps = book.rows ++ trail_rows steps

-- a step in another pool: its meaning is the same, and it is sound if the first is
pub record IsSameStep (pool : Interned) (step : Step) (new : Interned) (moved : Step) : Type 0 where
  pub meaning : step_meaning new moved ≡ step_meaning pool step
  pub sound : SoundStep pool step → SoundStep new moved

-- steps in another pool: their meaning is the same, and they are sound if the first are
pub record AreSameSteps (pool : Interned) (steps : List Step) (new : Interned)
    (moved : List Step) : Type 0 where
  pub meaning : trail_meaning new moved ≡ trail_meaning pool steps
  pub sound : SoundSteps pool steps → SoundSteps new moved

-- the pool has these rows and no others, and the clauses that they name and no others
pub record HasOnly (pool : Interned) (these : List ℕ) : Type 0 where
  pub of_pool : (id : ℕ) → In id these → id < length pool.rows
  pub rows : (id : ℕ) → id < length pool.rows → In id these
  pub clauses : (id : ℕ) → id < length pool.clauses →
      (row : ℕ) × In row these × In id (ids_at pool row)

-- the pool has gained steps with this meaning, which are sound: the rows of their books with the
-- clauses of these, and no others
pub record HasSteps (start pool : Interned) (steps : List Step)
    (told : List RoundStep) : Type 0 where
  pub meaning : trail_meaning pool steps ≡ told
  pub books : SoundSteps pool steps
  pub only : AddsOnly start pool (trail_rows steps)
  pub kept : Kept start pool
