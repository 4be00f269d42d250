-- The command that prints the kernel of an index.
use Rattle.std.specs.Prelude.{◌≡◌, ℕ, ◌<◌, Bool, true, false, List, length, Option, Some, None, Ok}
use Rattle.std.specs.Prelude.{Err}
use Rattle.clause_pool.specs.Interned.{Interned}
use Rattle.kernel_rounds.specs.declared.extraction.Kernel.{Kernel}
use Rattle.relation_fields.specs.declared.packages.PackageFacts.{PackageFacts}
use Rattle.row_book.specs.{Book.{Sound, repository_of}, Rounds.{PassedRound, limit_at}}
use Rattle.listed.specs.Lists.{In}
use Rattle.coinst_run.specs.declared.answer.Cause.TheVariants.{ClauseLimit}
use Rattle.coinst_run.specs.declared.answer.ReportVerdict.TheVariants.{Done}
use Rattle.coinst_run.specs.Answer.{CourseStage, reported, refused}
use Rattle.coinst_run.specs.{Course.{Course, answers, then_on}, Index.{Index, reads_index}}
use Rattle.coinst_run.specs.IndexKernel.{ClassedKernel, index_kernel, json_for, text_for}
use Rattle.coinst_run.specs.Lines.{limit_line}
use Rattle.repo_model.specs.{Repository.{suite_repository}, Stanzas.{stanza_at}}

-- the kernel of an index at a limit, with hold or without, by the round that passes the clause
-- limit, if there is one
abbrev pub by_limit : List ℕ → ℕ → Bool → Index → Option PassedRound → CourseStage ClassedKernel
by_limit path limit hold index None = Ok (index_kernel limit hold index.home index.packages)
by_limit path limit hold index (Some passed) =
    Err (refused ClauseLimit (limit_line path limit passed.number passed.gone
    (stanza_at index.packages passed.over) passed.count))

abbrev pub kernel_of : List ℕ → ℕ → Bool → Index → CourseStage ClassedKernel
kernel_of path limit hold index = by_limit path limit hold index
    (limit_at limit hold (suite_repository index.home index.packages))

-- the index at a path, and its kernel
abbrev pub reads_kernel : List ℕ → ℕ → Bool → (Index → ClassedKernel → Course) → Course
reads_kernel path limit hold next =
    reads_index path (λ index. then_on (kernel_of path limit hold index) (next index))

-- a kernel as text, or as JSON if that is asked for
abbrev pub printed_kernel : Bool → List PackageFacts → ClassedKernel → List ℕ
printed_kernel false packages kernel = text_for packages kernel
printed_kernel true packages kernel = json_for packages kernel

abbrev pub kernel_answer : Bool → Index → ClassedKernel → Course
kernel_answer json index kernel =
    answers (reported Done (printed_kernel json index.packages kernel))

abbrev pub kernel_course : List ℕ → Bool → ℕ → Bool → Course
kernel_course path json limit hold = reads_kernel path limit hold (kernel_answer json)

-- what a kernel over a pool says
abbrev pub classed_in : Interned → Kernel → ClassedKernel
classed_in pool made = record {
  repository = repository_of pool made.book;
  class_of = made.class_of;
  hold = made.hold;
  held = made.held;
}

-- a kernel of the packages over a pool: a sound book, and for each package one of its classes
pub record FitsSuite (pool : Interned) (packages : List PackageFacts) (made : Kernel) : Type 0 where
  pub sound : Sound pool made.book
  pub each : length made.class_of ≡ length packages
  pub inside : (class : ℕ) → In class made.class_of → class < length made.book.rows
