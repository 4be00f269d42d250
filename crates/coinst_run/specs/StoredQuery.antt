-- The command that asks of a stored kernel whether one package for each goal can be installed
-- together.
use Rattle.std.specs.Prelude.{ℕ, List, ◌++◌, codes, filter, length, Bool, Option, Some, None}
use Rattle.std.specs.{Prelude.{Result, Ok, Err}, List.{flat_map}}
use Rattle.kernel_text.specs.{Images.{unknown_goal}, KernelReads.{KernelContent}}
use Rattle.kernel_text.specs.{Serving.{images_in}, declared.fault.KernelFault.{KernelFault}}
use Rattle.kernel_text.specs.declared.fault.KernelFault.TheVariants.{Line, End, Range, Memory}
use Rattle.kernel_text.specs.StoredReading.{stored_reading}
use Rattle.repo_model.specs.declared.goals.Goal.{Goal}
use Rattle.row_book.specs.{Numbers.{numbers}, Flags.{flag}}
use Rattle.suite_compare.specs.Asking.{tree_of}
use Rattle.coinst_run.specs.declared.answer.Cause.TheVariants.{Content}
use Rattle.coinst_run.specs.Answer.{Answer, CourseStage, refused}
use Rattle.coinst_run.specs.Course.{Course, answers, reads, then_on}
use Rattle.coinst_run.specs.Lines.{about, at_line, counted_line, line_of_text}
use Rattle.coinst_run.specs.Query.{by_tree, unknown_answer}

-- why a text is not that of a kernel
abbrev pub kernel_fault_text : KernelFault → List ℕ
kernel_fault_text (Line line) = at_line line (codes "not a kernel line")
kernel_fault_text End = codes "no matching end line"
kernel_fault_text (Range line) = at_line line (codes "no such class")
kernel_fault_text Memory = codes "out of memory"

unfoldable pub kernel_fault_line : List ℕ → KernelFault → List ℕ
kernel_fault_line path fault = about path (kernel_fault_text fault)

-- A stored kernel by the reading of its text: its classes and their packages, or its fault.
-- `stored_reading` is the reading and the fault of the grammar, and nothing else: the law
-- `texts_are_told`.
abbrev pub by_reading : List ℕ → Result KernelContent KernelFault → CourseStage KernelContent
by_reading path (Ok kernel) = Ok kernel
by_reading path (Err fault) = Err (refused Content (kernel_fault_line path fault))

abbrev pub checked_kernel : List ℕ → List ℕ → CourseStage KernelContent
checked_kernel path text = by_reading path (stored_reading text)

-- a true class
abbrev pub class_line : ℕ → List ℕ
class_line n = counted_line (codes "class ") n

-- yes, and these classes
abbrev pub listed_classes : List ℕ → List ℕ
listed_classes classes = line_of_text (codes "yes") ++ flat_map class_line classes

-- yes, and the classes whose flags are up
unfoldable pub classes_text : List Bool → List ℕ
classes_text chosen = listed_classes (filter (flag chosen) (numbers (length chosen) 0))

-- goals by the first that names no package, if there is one
abbrev pub stored_by_unknown : KernelContent → List Goal → ℕ → Option ℕ → Answer
stored_by_unknown kernel goals budget (Some number) = unknown_answer goals number
stored_by_unknown kernel goals budget None =
    by_tree classes_text budget (tree_of kernel.repository (images_in kernel goals))

-- what is answered to goals
abbrev pub stored_answer : List Goal → ℕ → KernelContent → Answer
stored_answer goals budget kernel =
    stored_by_unknown kernel goals budget (unknown_goal kernel.members goals)

-- and to a text
abbrev pub stored_query_answer : List ℕ → List Goal → ℕ → List ℕ → Course
stored_query_answer path goals budget text =
    then_on (checked_kernel path text) (λ kernel. answers (stored_answer goals budget kernel))

abbrev pub stored_query_course : List ℕ → List Goal → ℕ → Course
stored_query_course path goals budget = reads path (stored_query_answer path goals budget)
