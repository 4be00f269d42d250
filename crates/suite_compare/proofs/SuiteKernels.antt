-- The repository of an index and its kernel: both are sound, and the classes of packages are classes of the kernel.
use Rattle.std.proofs.Common.{◌≡◌, ℕ, ◌<◌, Bool, List, length, refl, arith}
use Rattle.row_book.{specs.Flattening.{packages}, specs.Repository.{Repository}, specs.Rounds.{kernel, kernel_class, kernel_image, round_count}, specs.Sound.{SoundRepository}, proofs.Numbers.{numbers_from, numbers_parts, numbers_ascending}}
use Rattle.listed.{specs.Lists.{In, has, Ascending}, proofs.Lists.{In_has, has_In, filter_cases, filter_from}, proofs.Orders.{ascending_filter}}
use Rattle.kernel_rounds.{specs.Laws.{HasImage}, proofs.Classes.{class_within}, proofs.Reached.{image_is_of_classes_lem}}
pub use Rattle.repo_model.proofs.SoundSuite.{suite_sound}
use Rattle.suite_compare.specs.Asking.{goal_classes}

-- the class of a package is a class of the kernel
pub kernel_class_within : (limit : ℕ) (hold : Bool) → (R : Repository) → SoundRepository R → (p : ℕ) → p < length R.clauses → kernel_class limit hold R p < length (kernel limit hold R).clauses
kernel_class_within limit hold R s p l = class_within limit hold (round_count limit hold R) R s p l

-- the classes of some packages are those of its members, ascending
pub classes_parts : (limit : ℕ) (hold : Bool) → (R : Repository) → SoundRepository R → (chosen : List ℕ) → ((n : ℕ) → In n chosen → n < length R.clauses) → (k : ℕ) → In k (goal_classes limit hold R chosen) →
    (p : ℕ) × In p chosen × (kernel_class limit hold R p ≡ k)
classes_parts limit hold R s chosen within k i =
    let w : HasImage limit hold R (has chosen) k = (image_is_of_classes_lem limit hold R s (has chosen) (λ n t. within n (has_In chosen n t)) k).0 (filter_cases (kernel_image limit hold R (has chosen)) (packages (kernel limit hold R)) k i).1 in
    (w.by, has_In chosen w.by w.inside, w.class)

pub classes_from : (limit : ℕ) (hold : Bool) → (R : Repository) → SoundRepository R → (chosen : List ℕ) → ((n : ℕ) → In n chosen → n < length R.clauses) → (p : ℕ) → In p chosen →
    In (kernel_class limit hold R p) (goal_classes limit hold R chosen)
classes_from limit hold R s chosen within p i =
    filter_from (kernel_image limit hold R (has chosen)) (packages (kernel limit hold R)) (kernel_class limit hold R p)
    (numbers_from (length (kernel limit hold R).clauses) 0 (kernel_class limit hold R p) (omega arith) (let l = kernel_class_within limit hold R s p (within p i) in omega arith))
    ((image_is_of_classes_lem limit hold R s (has chosen) (λ n t. within n (has_In chosen n t)) (kernel_class limit hold R p)).1 record { by = p; within = within p i; inside = In_has i; class = refl })

pub classes_ascending : (limit : ℕ) (hold : Bool) → (R : Repository) (chosen : List ℕ) → Ascending (goal_classes limit hold R chosen)
classes_ascending limit hold R chosen = ascending_filter (kernel_image limit hold R (has chosen)) (packages (kernel limit hold R)) (numbers_ascending (length (kernel limit hold R).clauses) 0)

pub classes_fit : (limit : ℕ) (hold : Bool) → (R : Repository) (chosen : List ℕ) (k : ℕ) → In k (goal_classes limit hold R chosen) → k < length (kernel limit hold R).clauses
classes_fit limit hold R chosen k i =
    let w = numbers_parts (length (kernel limit hold R).clauses) 0 k (filter_cases (kernel_image limit hold R (has chosen)) (packages (kernel limit hold R)) k i).0 in omega (arith, w.1)
