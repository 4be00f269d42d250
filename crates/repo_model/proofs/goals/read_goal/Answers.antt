use Rattle.std.proofs.Common.{◌≡◌, ◌∙◌, Some, None, sym, subst}
use Rattle.std.specs.Prelude.{IfOk, IfErr}
use Rattle.repo_model.specs.GoalRefusals.{OnShape}
use Rattle.repo_model.proofs.Naming.{goal_whole, goal_slices}
use Rattle.repo_model.proofs.goals.read_goal.Goals as goal

pub returns-in-Some-clause-goal : goal.returns-in-Some-clause-goal
returns-in-Some-clause-goal c =
    subst (λ g. IfOk c.read_parts.result (λ goal. g ≡ Some goal)) (sym (goal_slices c.args.word.now c.in-Some.place c.in-Some.ensures)) c.read_parts.ensures.goal

pub returns-in-Some-clause-shape : goal.returns-in-Some-clause-shape
returns-in-Some-clause-shape c =
    subst (λ g. IfErr c.read_parts.result (OnShape (g ≡ None))) (sym (goal_slices c.args.word.now c.in-Some.place c.in-Some.ensures)) c.read_parts.ensures.shape

pub returns-in-Some-clause-outside : goal.returns-in-Some-clause-outside
returns-in-Some-clause-outside c = λ none. c.read_parts.ensures.outside (sym (goal_slices c.args.word.now c.in-Some.place c.in-Some.ensures) ∙ none)

pub returns-in-None-clause-goal : goal.returns-in-None-clause-goal
returns-in-None-clause-goal c =
    subst (λ g. IfOk c.read_name.result (λ goal. g ≡ Some goal)) (sym (goal_whole c.args.word.now c.in-None.ensures)) c.read_name.ensures.goal

pub returns-in-None-clause-shape : goal.returns-in-None-clause-shape
returns-in-None-clause-shape c =
    subst (λ g. IfErr c.read_name.result (OnShape (g ≡ None))) (sym (goal_whole c.args.word.now c.in-None.ensures)) c.read_name.ensures.shape

pub returns-in-None-clause-outside : goal.returns-in-None-clause-outside
returns-in-None-clause-outside c = λ none. c.read_name.ensures.outside (sym (goal_whole c.args.word.now c.in-None.ensures) ∙ none)
