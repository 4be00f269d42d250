use Rattle.std.proofs.Common.{sym, subst}
use Rattle.listed.specs.Lists.{In}
use Rattle.repo_model.proofs.Elements.{at_place}
use Rattle.kernel_text.proofs.push_lines.push_needs_lines.Goals as goal

-- each id of the row is of the pool
pub slice-requires : goal.slice-requires
slice-requires c =
    c.requires c.id-item.result
    (subst (λ id. In id c.args.ids.now) (sym c.id-item.is) (at_place c.args.ids.now c.loop-id.id-index c.id-item.result c.loop-id-test.true))
