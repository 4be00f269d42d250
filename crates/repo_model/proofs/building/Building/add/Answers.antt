use Rattle.std.proofs.Common.{[], ◌∷◌, ◌++◌, ◌∙◌, ap₂}
use Rattle.repo_model.proofs.Refusing.{named_is}
use Rattle.repo_model.proofs.building.Building.add.Goals as goal

pub returns-clause-packages : goal.returns-clause-packages
returns-clause-packages c =
    c.in_ok-put.ensures.packages
    ∙ ap₂ (λ before facts. before ++ facts ∷ []) c.in_ok-facts.ensures.packages (c.named.ensures ∙ named_is _ _ c.args.stanza c.in_ok-facts.ensures.fault.1 c.name_of-name.ensures)
