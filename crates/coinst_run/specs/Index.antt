-- What an index without a fault says: its packages in file order, and its home, the common
-- architecture of those that are not of `all`.
use Rattle.std.specs.Prelude.{ℕ, List, Option, Some, None, Ok, Err}
use Rattle.relation_fields.specs.declared.packages.Home.{Home}
use Rattle.relation_fields.specs.declared.packages.PackageFacts.{PackageFacts}
use Rattle.repo_model.specs.{declared.fault.IndexFault.{IndexFault}, declared.suite.Suite.{Suite}}
use Rattle.repo_model.specs.FirstFault.{first_fault}
use Rattle.suite_compare.specs.Refusals.{home_in, packages_in}
use Rattle.coinst_run.specs.{Answer.{CourseStage, refused}, Course.{Course, reads, then_on}}
use Rattle.coinst_run.specs.{Faults.{fault_cause}, Lines.{fault_line}}

pub record Index : Type 0 where
  pub home : Home
  pub packages : List PackageFacts

abbrev pub index_in : List ℕ → Index
index_in text = record { home = home_in text; packages = packages_in text }

-- what a suite says
abbrev pub index_of : Suite → Index
index_of suite = record { home = suite.home; packages = suite.packages }

-- an index by its first fault, if there is one
abbrev pub by_fault : List ℕ → List ℕ → Option IndexFault → CourseStage Index
by_fault path text None = Ok (index_in text)
by_fault path text (Some fault) = Err (refused (fault_cause fault) (fault_line path fault))

abbrev pub checked_index : List ℕ → List ℕ → CourseStage Index
checked_index path text = by_fault path text (first_fault text)

-- the index at a path
abbrev pub reads_index : List ℕ → (Index → Course) → Course
reads_index path next = reads path (λ text. then_on (checked_index path text) next)
