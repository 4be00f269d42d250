use Rattle.std.proofs.Common.{[], ◌∷◌, ◌++◌, ◌∙◌, ap₂}
use Rattle.migrate_plan.proofs.mixing.with_tried.Goals as goal

pub returns : goal.returns
returns c = c.in_ok-push.ensures.items ∙ ap₂ (λ names name. names ++ name ∷ []) c.in_ok-names.ensures c.in_ok-last.ensures
