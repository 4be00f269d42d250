use Rattle.clause_solver.specs.declared.outcomes.Outcome.TheVariants.{Refuted, Spent}
use Rattle.suite_compare.proofs.Answered.{classes_fit, no_certified, outcome_is, wanted_fit, wanted_hit, yes_is, yes_serves}
use Rattle.suite_compare.proofs.decision.decide.Goals as goal

pub search-requires-clause-goals : goal.search-requires-clause-goals
search-requires-clause-goals c = classes_fit _ _ _ _ _ _ c.args.view.now.of_suite c.args.goals.now _ _ c.in_ok-asked.ensures.packages c.in_ok-asked.ensures.classes

pub install-requires-clause-fit : goal.install-requires-clause-fit
install-requires-clause-fit c = wanted_fit _ _ _ _ _ _ c.args.view.now.of_suite c.args.goals.now _ _ c.in_ok-asked.ensures.packages c.in_ok-asked.ensures.classes

pub install-requires-clause-hits : goal.install-requires-clause-hits
install-requires-clause-hits c = rw c.as_slice.ensures
    (wanted_hit _ _ _ _ _ _ c.args.view.now.of_suite c.args.goals.now _ _ c.in_ok-asked.ensures.packages c.in_ok-asked.ensures.classes c.args.budget c.in-Found.chosen (rw c.in-Found.is at c.in_ok-outcome.ensures.tree))

pub returns-in-Found-clause-answer : goal.returns-in-Found-clause-answer
returns-in-Found-clause-answer c =
    yes_is _ _ _ _ _ _ c.args.view.now.of_suite c.args.goals.now _ _ c.in_ok-asked.ensures.packages c.in_ok-asked.ensures.classes c.args.budget c.in-Found.chosen _ _
    (rw c.in-Found.is at c.in_ok-outcome.ensures.tree) (rw c.as_slice-in-Found.ensures at c.in_ok-classes-in-Found.ensures) (rw c.as_slice.ensures at c.in_ok-installed-in-Found.ensures)

pub returns-in-Found-clause-certified : goal.returns-in-Found-clause-certified
returns-in-Found-clause-certified c = yes_serves _ _ _ _ _ _ c.args.view.now.of_suite c.args.goals.now _ _ c.in_ok-asked.ensures.packages c.in_ok-asked.ensures.classes c.args.budget _ _ (returns-in-Found-clause-answer c)

pub returns-in-Refuted-clause-answer : goal.returns-in-Refuted-clause-answer
returns-in-Refuted-clause-answer c = outcome_is _ _ _ _ _ _ c.args.view.now.of_suite c.args.goals.now _ _ c.in_ok-asked.ensures.packages c.in_ok-asked.ensures.classes c.args.budget (Refuted c.in-Refuted.log) (rw c.in-Refuted.is at c.in_ok-outcome.ensures.tree)

pub returns-in-Refuted-clause-certified : goal.returns-in-Refuted-clause-certified
returns-in-Refuted-clause-certified c = no_certified _ _ _ _ _ _ c.args.view.now.of_suite c.args.goals.now _ _ c.in_ok-asked.ensures.packages c.in_ok-asked.ensures.classes c.in-Refuted.log (rw c.in-Refuted.is at c.in_ok-outcome.ensures.certified)

pub returns-clause-answer : goal.returns-clause-answer
returns-clause-answer c = outcome_is _ _ _ _ _ _ c.args.view.now.of_suite c.args.goals.now _ _ c.in_ok-asked.ensures.packages c.in_ok-asked.ensures.classes c.args.budget (Spent c.in-Spent.failed) (rw c.in-Spent.is at c.in_ok-outcome.ensures.tree)
