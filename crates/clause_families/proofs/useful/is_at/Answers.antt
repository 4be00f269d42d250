use Rattle.std.proofs.{Common.{◌∙◌, arith, eqb-true, subst, sym}, lemmas.Bool.{OnTrue_from}}
use Rattle.listed.specs.Lists.{In}
use Rattle.listed.proofs.Lists.{item_in}
use Rattle.clause_families.proofs.useful.is_at.Goals as goal

pub returns : goal.returns
returns c =
    OnTrue_from c.eq.result (In c.args.id c.args.row.now)
    (λ h. subst (λ z. In z c.args.row.now) (eqb-true c.index-row-place.result c.args.id (sym c.eq.ensures ∙ h))
    (item_in c.args.row.now c.args.place c.index-row-place.result (omega arith) c.index-row-place.is))
