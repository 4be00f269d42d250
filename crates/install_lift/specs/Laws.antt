-- The laws of lifting.
use Rattle.std.specs.Prelude.{◌≡◌, ◌↔◌, ℕ, ◌<◌, Bool, List, length}
use Rattle.row_book.specs.{Sets.{NumSet, Is}, Repository.{Repository, Healthy}}
use Rattle.row_book.specs.Sound.{SoundRepository}
use Rattle.row_book.specs.Rounds.{RoundStep, kernel, kernel_class, kernel_steps}
use Rattle.install_lift.specs.Lifting.{IsLift, lift_of}

-- K is the kernel of R at some limit and hold, and the trail is its own
pub record IsKernelBy (R K : Repository) (trail : List RoundStep) : Type 0 where
  pub limit : ℕ
  pub hold : Bool
  pub is : K ≡ kernel limit hold R
  pub steps : trail ≡ kernel_steps limit hold R

-- the set holds each package whose class is in the other one
abbrev pub HoldsMembers : ℕ → Bool → Repository → NumSet → NumSet → Type 0
HoldsMembers limit hold R I T = (p : ℕ) → p < length R.clauses →
    Is I (kernel_class limit hold R p) → Is T p

-- a healthy set of the kernel, taken back through its steps, is healthy, and holds each package of
-- each of its classes
abbrev pub LiftIsHealthy : Type 0
LiftIsHealthy = (limit : ℕ) (hold : Bool) (R : Repository) (I T : NumSet) → SoundRepository R →
    Healthy (kernel limit hold R) I → IsLift (kernel_steps limit hold R) I T →
    Healthy R T × HoldsMembers limit hold R I T

-- a set is taken back in only one way
abbrev pub LiftIsOne : Type 0
LiftIsOne = (steps : List RoundStep) (I S T : NumSet) → IsLift steps I S → IsLift steps I T → T ≡ S

-- the set that is taken back is the one that is computed
abbrev pub LiftIsOf : Type 0
LiftIsOf = (steps : List RoundStep) (I T : NumSet) → (IsLift steps I T ↔ (T ≡ lift_of steps I))
