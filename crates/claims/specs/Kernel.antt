-- The kernel of a repository, and the images of sets of packages in it. This is a second
-- definition, since that of `row_book` computes the kernel, with a bound for the number of rounds.
use Rattle.std.specs.Prelude.{◌≡◌, ◌≢◌, ℕ, Bool, List, map, Some}
use Rattle.row_book.specs.{Flattening.{flat, Passed, passes}, Merging.{image}}
use Rattle.row_book.specs.{Repository.{Repository}, Rounds.{round}, Sets.{NumSet}}

-- The first that a round leaves as it is, of the repository, its round, the round of that, and so
-- on. What becomes of sets of packages on the way: the classes that have a member of them.
pub data SettlesTo (limit : ℕ) (hold : Bool) : Repository → List NumSet → Repository →
    List NumSet → Type 0 where
  at_rest : {R : Repository} {sets : List NumSet} → round limit hold R ≡ R →
      SettlesTo limit hold R sets R sets
  after : {R K : Repository} {sets images : List NumSet} → round limit hold R ≢ R →
      SettlesTo limit hold (round limit hold R) (map (image (flat limit hold R)) sets) K images →
      SettlesTo limit hold R sets K images

-- in some round up to the kernel, the clauses of some package pass the limit
pub data PassesOnTheWay (limit : ℕ) (hold : Bool) : Repository → Type 0 where
  now : {R : Repository} → (w : Passed) → passes limit hold R ≡ Some w → PassesOnTheWay limit hold R
  later : {R : Repository} → round limit hold R ≢ R →
      PassesOnTheWay limit hold (round limit hold R) → PassesOnTheWay limit hold R
