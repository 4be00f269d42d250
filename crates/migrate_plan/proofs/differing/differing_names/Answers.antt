use Rattle.std.proofs.Common.{◌∙◌, ◌++◌, ap, ap₂, filter}
use Rattle.repo_model.specs.Goals.{names_in}
use Rattle.migrate_plan.specs.Differing.{differing, differs}
use Rattle.migrate_plan.proofs.differing.differing_names.Goals as goal

pub returns : goal.returns
unfolding differing
returns c =
    c.in_ok-found.ensures
    ∙ ap (filter (differs c.args.old.now.packages c.args.new.now.packages))
    (c.as_slice.ensures ∙ c.in_ok-names.ensures ∙ ap₂ (λ old new. names_in (old ++ new)) c.as_slice-before.ensures c.as_slice-after.ensures)
