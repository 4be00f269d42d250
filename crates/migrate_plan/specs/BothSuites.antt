-- for the bodies of this crate alone
-- What mixes of two indexes are made of: all packages of the old one, then those of the new one
-- whose names differ.
use Rattle.std.specs.Prelude.{◌≡◌, ℕ, ◌≤◌, Bool, true, List, ◌++◌, length, map, Option, Some, None}
use Rattle.std.specs.{Prelude.{⊤}, List.{items_where_true}, Option.{ForSome}}
use Rattle.class_merge.specs.Classes.{class_in}
use Rattle.clause_pool.specs.Interned.{Interned}
use Rattle.kernel_rounds.specs.Known.{AreKnownRounds}
use Rattle.relation_fields.specs.declared.packages.PackageFacts.{PackageFacts}
use Rattle.repo_model.specs.{Limits.{most_packages}, Repository.{suite_repository}}
use Rattle.row_book.specs.{declared.book.Book.{Book}, Flags.{flag}, Parts.{part, place_in}}
use Rattle.row_book.specs.Repository.{Repository}
use Rattle.row_book.specs.Rounds.{PassedRound, kernel, kernel_class, limit_at}
use Rattle.suite_compare.specs.{Bearers.{bearers_of}, Known.{AreKnownPairs}, Views.{IsBookOf}}
use Rattle.suite_part.specs.{declared.base.Base.{Base}, BaseRows.{AreBaseRows}, Bases.{IsBase}}
use Rattle.suite_part.specs.Mixes.{AreMixRows}
use Rattle.migrate_plan.specs.{Differing.{differing}, Mix.{is_taken}, Indexes.{AreTexts, Texts}}
use Rattle.migrate_plan.specs.{Plan.{plan_settings, Settings}, Refusals.{packages_with}}
use Rattle.migrate_plan.specs.declared.reuse.Reuse.{Reuse}
use Rattle.migrate_plan.specs.declared.kernels.MadeKernel.{MadeKernel}
use Rattle.migrate_plan.specs.declared.kernels.MadeKernel.TheVariants.{Beside, Own}
use Rattle.migrate_plan.specs.declared.both_suites.BothSuites.{BothSuites}

-- the names that differ between the two indexes
abbrev pub names_between : BothSuites → List (List ℕ)
names_between both = differing both.old.now.view.now.suite.packages both.new.now.packages

-- at which budget, limit and hold the two are compared
abbrev pub settings_between : BothSuites → Settings
settings_between both = plan_settings both.old.now.budget both.old.now.view.now.limit
    both.old.now.view.now.kernel.hold

-- the texts of the two indexes
abbrev pub AreTextsOf : Texts → BothSuites → Type 0
AreTextsOf texts both = AreTexts texts both.old.now.view.now.suite both.new.now

-- all packages that mixes of the two have
abbrev pub packages_of_both : BothSuites → List PackageFacts
packages_of_both both = both.old.now.view.now.suite.packages
    ++ items_where_true both.added.items both.new.now.packages

-- a base for both suites: rows of a part of their packages without hold, at the limit of the old
-- view
pub record IsBaseFor (both : BothSuites) (base : Base) : Type 0 where
  pub limit_is : base.limit ≡ both.old.now.view.now.limit
  pub base_is : IsBase both.pool both.book base

-- the packages that mixes of two indexes have, which are not too many, with their repository, and
-- those that bear each name of the old side
pub record AreBothSuites (both : BothSuites) : Type 0 where
  pub few : packages_with both.old.now.view.now.suite.packages both.new.now.packages
      (names_between both) ≤ most_packages
  pub added_are : both.added.items
      ≡ map (λ facts. is_taken (names_between both) facts.name) both.new.now.packages
  pub book_is : IsBookOf both.pool both.book
      (suite_repository both.home (packages_of_both both))
  pub named_are : both.named.items ≡ bearers_of (packages_of_both both) both.old.now.names

-- the book of a kernel with its pool, and the class of each package
abbrev pub pool_made : MadeKernel → Interned
pool_made (Own pool kernel class_of) = pool
pool_made (Beside classified rows) = classified.rounds.pool

abbrev pub book_made : MadeKernel → Book
book_made (Own pool kernel class_of) = kernel.book
book_made (Beside classified rows) = classified.rounds.kernel

abbrev pub classes_made : MadeKernel → List ℕ
classes_made (Own pool kernel class_of) = class_of.items
classes_made (Beside classified rows) = classified.class_of

-- The kernel of a mix, which is the part of both suites that has these flags, at a clause limit,
-- with hold or without. No round passes the limit. And the class of each package of the mix, in the
-- numbers of both.
pub record IsMadeKernel (limit : ℕ) (hold : Bool) (W : Repository) (flags : List Bool)
    (made : MadeKernel) : Type 0 where
  pub within : limit_at limit hold (part flags W) ≡ None
  pub book_is : IsBookOf (pool_made made) (book_made made) (kernel limit hold (part flags W))
  pub size : length (classes_made made) ≡ length flags
  pub class_of : (p : ℕ) → flag flags p ≡ true →
      class_in (classes_made made) p ≡ kernel_class limit hold (part flags W) (place_in flags p)

-- such a kernel, or none if the mix passes the limit
abbrev pub IsKernelAt : ℕ → Bool → Repository → List Bool → Option MadeKernel → Type 0
IsKernelAt limit hold W flags (Some made) = IsMadeKernel limit hold W flags made
IsKernelAt limit hold W flags None =
    (passed : PassedRound) × (limit_at limit hold (part flags W) ≡ Some passed)

-- the rounds after the first that a kernel has, if any, are right
abbrev pub KnowsRounds : MadeKernel → Type 0
KnowsRounds (Own pool kernel class_of) = ⊤
KnowsRounds (Beside classified rows) = AreKnownRounds classified.rounds

-- the rows of a mix, if it has any, are rows over a base, and so the base may follow
abbrev pub CanFollow : Option Base → List Bool → MadeKernel → Type 0
CanFollow base flags (Own pool kernel class_of) = ⊤
CanFollow base flags (Beside classified rows) =
    ForSome base (λ before. AreBaseRows before.pool rows.items (length flags))

-- and they are those of the mix
abbrev pub HasMixRows : BothSuites → Option Base → List Bool → MadeKernel → Type 0
HasMixRows both base flags (Own pool kernel class_of) = ⊤
HasMixRows both base flags (Beside classified rows) =
    ForSome base (λ before. AreMixRows both.pool both.book before flags rows.items)

-- what is handed on from mix to mix: a base, judged pairs, and the rounds after the first
pub record IsReuse (both : BothSuites) (reuse : Reuse) : Type 0 where
  pub base_is : ForSome reuse.base (IsBaseFor both)
  pub known_are : ForSome reuse.known AreKnownPairs
  pub rounds_are : ForSome reuse.rounds AreKnownRounds
