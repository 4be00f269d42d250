-- Which text stands for the kernel of an index, and what a search for goals in that text finds.
use Rattle.suite_compare.specs.Indexes.{SearchedIndex}
use Rattle.std.specs.Prelude.{◌≡◌, ℕ, ◌<◌, List, [], ◌∷◌, length, map}
use Rattle.clause_solver.specs.declared.outcomes.Verdict.{Verdict}
use Rattle.clause_solver.specs.declared.outcomes.Verdict.TheVariants.{Yes, No, Spent}
use Rattle.coinst_words.specs.Usage.{Text}
use Rattle.kernel_text.specs.{KernelReads.{KernelReads}, KernelText.{format_of}}
use Rattle.kernel_text.specs.{Members.{kernel_members}, declared.member.Member.{Member}}
use Rattle.repo_model.specs.Repository.{packages_of, suite_repository}
use Rattle.row_book.specs.{Flattening.{held_of}, Repository.{Repository}, Rounds.{Settled}}
use Rattle.row_book.specs.Sets.{NumSet, Is}
use Rattle.claims.specs.{Certificates.{IsTooLong}, Classes.{classes_of}, Goals.{CanMeet}}
use Rattle.claims.specs.{Index.{IndexSays}, Kernel.{SettlesTo}}

-- The text stands for the kernel of the index, at its limit and with hold or without, in format 2
-- or 1. The members are the packages of the index, each in its class, and those of a class in the
-- order of the index. From what the index says rounds lead to the repository. They lead each set of
-- packages to the classes that have a member line of it. The held classes are those that the limit
-- holds. It is settled: no reduction is left to do.
pub record IsKernelText (s : SearchedIndex) (printed : Text) : Type 0 where
  pub index : IndexSays s.text s.home s.stanzas
  pub repository : Repository
  pub members : List Member
  pub class : ℕ → ℕ
  pub reads : KernelReads printed (format_of s.hold) repository
      members (held_of s.limit s.hold repository)
  pub members_in_order : members
      ≡ kernel_members s.stanzas (map class (packages_of s.stanzas)) (length repository.clauses)
  pub rounds_lead_here : (S : NumSet) → ((n : ℕ) → Is S n → n < length s.stanzas) →
      SettlesTo s.limit s.hold (suite_repository s.home s.stanzas) (S ∷ []) repository
      (classes_of s.stanzas members S ∷ [])
  pub settled : Settled s.limit s.hold repository

-- The search for the goals in the kernel of the index is too long. By the laws
-- `KernelTextsAreThere` and `KernelTextsAreOne` an index without a fault has one such text.
abbrev pub IsPastBudget : SearchedIndex → List Text → Type 0
IsPastBudget s goals = (kernel : Text) × IsKernelText s kernel × IsTooLong kernel goals s.budget

-- What the search for goals finds: yes or no, within the budget, or that the budget is spent.
abbrev pub Found : SearchedIndex → List Text → Verdict → Type 0
Found s goals Yes = (¬ (IsPastBudget s goals)) × CanMeet s goals
Found s goals No = (¬ (IsPastBudget s goals)) × (¬ (CanMeet s goals))
Found s goals Spent = IsPastBudget s goals
