use Rattle.std.proofs.{Common.{◌++◌, [], refl}, lemmas.List.Elements.{Contains-append_right}}
use Rattle.search_terms.specs.Form.{owned_sentences, conflict_sentence}
use Rattle.clause_solver.specs.{Engine.{sentences_in, whole_form}, Levels.IsFallen.{nowhere}}
use Rattle.clause_solver.proofs.{Calm.{calm_of}, Preparing.{clash_part}}
use Rattle.clause_solver.proofs.solver.start.Goals as goal

pub returns-then-dead-clause-at : goal.returns-then-dead-clause-at
returns-then-dead-clause-at c = (
  clash_part (whole_form [] c.args.formula.now.own.now c.args.formula.now.conflicts.now) (sentences_in c.args.formula.now) []
      (λ s k. Contains-append_right c.args.formula.now.goals.now (c.args.formula.now.own.now ++ owned_sentences conflict_sentence 0 c.args.formula.now.conflicts.now) s k) (rw c.if-dead.true at c.requires.base).0,
  nowhere refl,
)

pub root-requires-clause-base : goal.root-requires-clause-base
root-requires-clause-base c = calm_of (whole_form [] c.args.formula.now.own.now c.args.formula.now.conflicts.now) [] [] c.args.trail.now.1 (rw c.if-dead.false at c.requires.base)
