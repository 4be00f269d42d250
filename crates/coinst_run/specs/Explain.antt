-- The command that says why one package for each goal cannot be installed together.
use Rattle.std.specs.Prelude.{ℕ, Bool, List, Option, Some, None}
use Rattle.explain_core.specs.Explaining.{explanation_of}
use Rattle.explain_core.specs.declared.explanation.Explanation.{Explanation}
use Rattle.explain_core.specs.declared.explanation.Explanation.TheVariants.{Yes, Spent, Core}
use Rattle.relation_fields.specs.declared.packages.PackageFacts.{PackageFacts}
use Rattle.repo_model.specs.declared.goals.Goal.{Goal}
use Rattle.suite_compare.specs.Answering.{unknown_goal}
use Rattle.coinst_run.specs.declared.answer.ReportVerdict.TheVariants.{Done, Negative, Undecided}
use Rattle.coinst_run.specs.{Answer.{Answer, reported}, Course.{Course, answers}}
use Rattle.coinst_run.specs.{ExplainText.{core_text, yes_line}, Index.{Index}}
use Rattle.coinst_run.specs.{IndexKernel.{ClassedKernel}, Kernel.{reads_kernel}}
use Rattle.coinst_run.specs.{Query.{unknown_answer}, QueryText.{undecided_text}}

-- the report on an explanation
abbrev pub explanation_answer : List PackageFacts → List Goal → ℕ → Explanation → Answer
explanation_answer packages goals budget Yes = reported Done yes_line
explanation_answer packages goals budget (Spent failed) = reported Undecided (undecided_text budget)
explanation_answer packages goals budget (Core marks clashes) =
    reported Negative (core_text packages goals marks clashes)

-- goals by the first that names no package, if there is one
abbrev pub explained_by_unknown : List Goal → ℕ → ℕ → Bool → Index → Option ℕ → Answer
explained_by_unknown goals budget limit hold index (Some number) = unknown_answer goals number
explained_by_unknown goals budget limit hold index None = explanation_answer index.packages goals
    budget (explanation_of limit hold index.home index.packages budget goals)

-- what is said of goals, at a clause limit, with hold or without
abbrev pub goals_explained : List Goal → ℕ → ℕ → Bool → Index → Answer
goals_explained goals budget limit hold index =
    explained_by_unknown goals budget limit hold index (unknown_goal index.packages goals)

abbrev pub explain_answer : List Goal → ℕ → ℕ → Bool → Index → ClassedKernel → Course
explain_answer goals budget limit hold index kernel =
    answers (goals_explained goals budget limit hold index)

abbrev pub explain_course : List ℕ → List Goal → ℕ → ℕ → Bool → Course
explain_course path goals budget limit hold =
    reads_kernel path limit hold (explain_answer goals budget limit hold)
