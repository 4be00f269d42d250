use Rattle.std.proofs.Common.{List, ℕ, sym, subst}
use Rattle.listed.specs.Lists.{In}
use Rattle.repo_model.proofs.Elements.{at_place}
use Rattle.tool_times.proofs.count_unmet.Goals as goal

pub row-requires : goal.row-requires
row-requires c =
    c.requires.rows.of_pool c.row-item.result
    (subst (λ rows. In c.row-item.result rows) c.as_slice-row-items.ensures
    (subst (λ id. In id c.as_slice-row-items.result.now) (sym c.row-item.is) (at_place c.as_slice-row-items.result.now c.loop-row.row-index c.row-item.result c.loop-row-test.true)))
