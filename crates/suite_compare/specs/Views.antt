-- A view of a suite: the repository of its packages as a book over a pool, and the kernel of that
-- at a clause limit, with hold or without. The kernel has its classes, its held classes and its
-- steps.
use Rattle.std.specs.Prelude.{◌≡◌, ◌⊎◌, ℕ, Bool, List, [], ◌∷◌, map, refl}
use Rattle.std.specs.Coded.{Coded, Coded-set, code_by, coded×, coded⊎, coded_list, coded_ℕ}
use Rattle.std.specs.Coded.{Unit-prop}
use Rattle.std.proofs.Common.{inl, inr}
use Rattle.clause_pool.specs.Interned.{Interned}
use Rattle.row_book.specs.{Book.{repository_of, Sound}, Flattening.{packages}}
use Rattle.row_book.specs.{Props.{repository_code, Same-prop, Sound-prop}, Pruning.{IdleClause}}
use Rattle.row_book.specs.Repository.{Repository}
use Rattle.row_book.specs.Rounds.{RoundStep, FlatStep, MergeStep, IdleStep, kernel, kernel_class}
use Rattle.row_book.specs.Rounds.{kernel_held, kernel_steps}
use Rattle.row_book.specs.{Trail.{SoundStep, SoundSteps, trail_meaning}, declared.book.Book.{Book}}
use Rattle.row_book.specs.declared.trail.Step.{Step}
use Rattle.row_book.specs.declared.trail.Step.TheVariants.{Flat, Idle, Merge}
use Rattle.kernel_rounds.specs.declared.extraction.Kernel.{Kernel}
use Rattle.relation_fields.specs.declared.packages.Home.{Home}
use Rattle.relation_fields.specs.declared.packages.PackageFacts.{PackageFacts}
use Rattle.repo_model.specs.Repository.{suite_repository}

-- a book is a repository over the pool, and sound
pub record IsBookOf (pool : Interned) (book : Book) (R : Repository) : Type 0 where
  pub repository : repository_of pool book ≡ R
  pub sound : Sound pool book

-- A kernel is that of a repository at this limit, with or without hold as it says itself. It has
-- the class of each package, the held classes and the steps by which it came.
pub record HoldsKernelOf (pool : Interned) (made : Kernel) (limit : ℕ)
    (R : Repository) : Type 0 where
  pub book : IsBookOf pool made.book (kernel limit made.hold R)
  pub class_of : made.class_of ≡ map (kernel_class limit made.hold R) (packages R)
  pub held : made.held ≡ kernel_held limit made.hold R
  pub steps : trail_meaning pool made.trail.steps ≡ kernel_steps limit made.hold R
  pub books : SoundSteps pool made.trail.steps

-- the book is the repository of the packages, and the kernel is its kernel at this limit
pub record IsViewOf (pool : Interned) (home : Home) (stanzas : List PackageFacts) (book : Book)
    (made : Kernel) (limit : ℕ) : Type 0 where
  pub book_is : IsBookOf pool book (suite_repository home stanzas)
  pub kernel_is : HoldsKernelOf pool made limit (suite_repository home stanzas)

-- These facts have one proof at most, so that a view may keep them.
abbrev idle_code : Coded IdleClause
idle_code =
    code_by (ℕ × (List ℕ × ℕ)) (coded× coded_ℕ (coded× (coded_list coded_ℕ) coded_ℕ))
    (λ s. (s.«package», (s.clause, s.added)))
    (λ p. record { «package» = p.0; clause = p.1.0; added = p.1.1 }) (λ _. refl)

abbrev step_code : Coded RoundStep
step_code =
    code_by (Repository ⊎ (List ℕ ⊎ IdleClause))
    (coded⊎ repository_code (coded⊎ (coded_list coded_ℕ) idle_code))
    (elim [ FlatStep R ↦ inl R | MergeStep c ↦ inr (inl c) | IdleStep s ↦ inr (inr s) ])
    (elim
    [ inl R ↦ FlatStep R | inr rest ↦ elim rest [ inl c ↦ MergeStep c | inr s ↦ IdleStep s ] ])
    (elim [ FlatStep R ↦ refl | MergeStep c ↦ refl | IdleStep s ↦ refl ])

SoundStep-prop : (pool : Interned) (step : Step) → IsProp (SoundStep pool step)
SoundStep-prop pool (Flat before) = Sound-prop pool before
SoundStep-prop pool (Idle «package» clause added) = Unit-prop
SoundStep-prop pool (Merge class_of) = Unit-prop

book-prop : (pool : Interned) (book : Book) (R : Repository) → IsProp (IsBookOf pool book R)
book-prop pool book R =
    let e : IsProp (repository_of pool book ≡ R) = Same-prop (repository_of pool book) R in
    hlevel (e, Sound-prop)

kernel-prop : (pool : Interned) (made : Kernel) (limit : ℕ) (R : Repository) →
    IsProp (HoldsKernelOf pool made limit R)
kernel-prop pool made limit R =
    let classes : IsProp (made.class_of ≡ map (kernel_class limit made.hold R) (packages R)) =
    Coded-set (coded_list coded_ℕ) made.class_of
    (map (kernel_class limit made.hold R) (packages R)) in
    let held : IsProp (made.held ≡ kernel_held limit made.hold R) =
    Coded-set (coded_list coded_ℕ) made.held (kernel_held limit made.hold R) in
    let steps : IsProp (trail_meaning pool made.trail.steps ≡ kernel_steps limit made.hold R) =
    Coded-set (coded_list step_code) (trail_meaning pool made.trail.steps)
    (kernel_steps limit made.hold R) in
    hlevel (book-prop, classes, held, steps, SoundStep-prop)

pub IsViewOf-prop : (pool : Interned) (home : Home) (stanzas : List PackageFacts) (book : Book)
    (made : Kernel) (limit : ℕ) → IsProp (IsViewOf pool home stanzas book made limit)
IsViewOf-prop pool home stanzas book made limit = hlevel (book-prop, kernel-prop)
