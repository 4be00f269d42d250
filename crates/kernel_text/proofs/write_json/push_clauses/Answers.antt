use Rattle.std.proofs.{Common.{◌∙◌, ap, map, sym, subst}, lemmas.List.{take_all}}
use Rattle.clause_pool.specs.Interned.{clauses_at}
use Rattle.listed.specs.Lists.{In}
use Rattle.repo_model.proofs.Elements.{at_place}
use Rattle.serde_json.specs.View.{view}
use Rattle.kernel_text.specs.JsonData.{numbers_data}
use Rattle.kernel_text.proofs.write_json.push_clauses.Goals as goal

pub loop-id-init : goal.loop-id-init
loop-id-init c = ap (map view) c.requires.none

-- each id of the row is of the pool
pub slice-requires : goal.slice-requires
slice-requires c =
    c.requires.ids c.id-item.result
    (subst (λ id. In id c.args.ids.now) (sym c.id-item.is) (at_place c.args.ids.now c.loop-id.id-index c.id-item.result c.loop-id-test.true))

pub returns : goal.returns
returns c = c.loop-id.invariant ∙ ap (λ ids. map numbers_data (clauses_at c.args.pool.now ids)) (take_all c.loop-id.id-index c.args.ids.now c.loop-id-test.false)
