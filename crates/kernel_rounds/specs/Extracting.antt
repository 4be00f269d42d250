-- The extraction of a kernel: midway, after some rounds that each changed something, and at its
-- end.
use Rattle.std.specs.Prelude.{◌≡◌, ◌≢◌, ℕ, suc, ◌<◌, Bool, min, eqb, List, [], map, None, ⊤}
use Rattle.clause_pool.specs.Interned.{Interned, Kept}
use Rattle.clause_flatten.specs.declared.error.FlatError.{FlatError}
use Rattle.clause_flatten.specs.declared.error.FlatError.TheVariants as faults
use Rattle.row_book.specs.{declared.book.Book.{Book}, declared.trail.Step.{Step}}
use Rattle.row_book.specs.{Book.{repository_of, IsSameBook, Sound}, Repository.{Repository}}
use Rattle.row_book.specs.Flattening.{flat, held_of, packages, passes}
use Rattle.row_book.specs.{Merging.{class_list, place_of, quotient}, Pruning.{idle_steps}}
use Rattle.row_book.specs.Rounds.{round, rounds, IdleStep, class_after, steps_after, kernel}
use Rattle.row_book.specs.Rounds.{kernel_class, kernel_held, kernel_steps, limit_at, PassedRound}
use Rattle.row_book.specs.Trail.{SoundSteps, trail_meaning}
use Rattle.kernel_rounds.specs.declared.advancing.Progress.{Progress}
use Rattle.kernel_rounds.specs.declared.rounding.Reduced.{Reduced}
use Rattle.kernel_rounds.specs.declared.error.RoundError.{RoundError}
use Rattle.kernel_rounds.specs.declared.error.RoundError.TheVariants.{Limit, Memory}
use Rattle.kernel_rounds.specs.Moving.{HasSteps}

-- what a round makes of a book of the repository, if no row passes the limit
pub record IsReduced (limit : ℕ) (hold : Bool) (R : Repository) (pool : Interned)
    (made : Reduced) : Type 0 where
  pub is : repository_of pool made.book ≡ round limit hold R
  pub class_of : made.class_of ≡ class_list (flat limit hold R)
  pub held : made.held ≡ held_of limit hold R
  pub idle : trail_meaning pool made.idle ≡ map IdleStep (idle_steps (quotient (flat limit hold R)))
  pub sound : Sound pool made.book
  pub within : passes limit hold R ≡ None

-- After some rounds that each changed something and passed no limit. The book is of the pool that
-- the rounds work in. The steps are of another pool, in which the first book has the same ids.
pub record IsMidway (R : Repository) (limit : ℕ) (hold : Bool) (start pool work : Interned)
    (now : Progress) : Type 0 where
  pub index : ℕ
  pub is : repository_of work now.book ≡ rounds limit hold R index
  pub sound : Sound work now.book
  pub first : now.number ≡ 1 → IsSameBook work now.book pool now.book
  pub class_of : now.class_of.items ≡ map (class_after limit hold R index) (packages R)
  pub steps : HasSteps start pool now.steps (steps_after limit hold R index)
  pub counted : now.number ≡ min (suc index) 4294967295
  pub passed : (j : ℕ) → j < index → passes limit hold (rounds limit hold R j) ≡ None
  pub changed : (j : ℕ) → j < index →
      round limit hold (rounds limit hold R j) ≡ rounds limit hold R j → ⊥

-- the kernel with its classes, its held classes and its trail, whose books are sound
pub record IsExtracted (R : Repository) (limit : ℕ) (hold : Bool) (start pool : Interned)
    (book : Book) (classes held_classes : List ℕ) (trail : List Step) : Type 0 where
  pub is : repository_of pool book ≡ kernel limit hold R
  pub class_of : classes ≡ map (kernel_class limit hold R) (packages R)
  pub held : held_classes ≡ kernel_held limit hold R
  pub steps : trail_meaning pool trail ≡ kernel_steps limit hold R
  pub sound : Sound pool book
  pub books : SoundSteps pool trail
  pub within : limit_at limit hold R ≡ None
  pub kept : Kept start pool

-- Extraction from the kernel, at the same limit and hold, gives the same repository with the same
-- held packages. Each package is its own class, and there is no step.
pub record IsOwnKernel (K : Repository) (held_classes : List ℕ) (limit : ℕ)
    (hold : Bool) : Type 0 where
  pub same : kernel limit hold K ≡ K
  pub held : kernel_held limit hold K ≡ held_classes
  pub classes : (p : ℕ) → kernel_class limit hold K p ≡ p
  pub steps : kernel_steps limit hold K ≡ []
  pub within : limit_at limit hold K ≡ None

-- the fact of the limit, if that was passed; nothing for want of memory
abbrev pub OnRoundLimit : (PassedRound → Type 0) → RoundError → Type 0
OnRoundLimit P (Limit round gone over count) =
    P (record { number = round; gone = gone; over = over; count = count })
OnRoundLimit P Memory = ⊤

-- the pool has gained the steps of the rounds before the first one that passes the clause limit,
-- and no others
pub record HasStepsBefore (R : Repository) (limit : ℕ) (hold : Bool)
    (start pool : Interned) : Type 0 where
  pub index : ℕ
  pub within : (j : ℕ) → j < index → passes limit hold (rounds limit hold R j) ≡ None
  pub over : passes limit hold (rounds limit hold R index) ≢ None
  pub steps : List Step
  pub gained : HasSteps start pool steps (steps_after limit hold R index)

-- why no kernel is extracted if a round is refused
abbrev pub refusal : ℕ → List ℕ → FlatError → RoundError
refusal number class_of (faults.Limit gone over count) =
    Limit number gone (place_of (λ k. eqb k over) class_of) count
refusal number class_of faults.Memory = Memory
