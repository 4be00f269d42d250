use Rattle.std.proofs.Common.{◌∙◌, ◌||◌, ap}
use Rattle.std.specs.List.{list_any}
use Rattle.listed.specs.Lists.{has, is_inside}
use Rattle.clause_prune.proofs.pruned_package.PrunedPackage.serves.Goals as goal

pub returns : goal.returns
returns c =
    c.has_side_within.ensures ∙ ap (λ cs. has c.args.clause.now c.args.other || list_any (λ d. is_inside d c.args.clause.now) cs) c.clauses_of-row.ensures.is
