use Rattle.std.proofs.{Common.{◌∙◌, arith}, lemmas.Grind.{common_steps}, lemmas.List.{get_or_default, length-set}}
use Rattle.listed.proofs.Lists.{item_in}
use Rattle.repo_model.proofs.Ranked.{placed_more}
use Rattle.repo_model.proofs.ranks.places_of.Goals as goal

pub index_mut-requires : goal.index_mut-requires
index_mut-requires c =
    let within = c.requires.within c.index-order-place.result (item_in c.args.order.now c.loop-place.place c.index-order-place.result c.loop-place-test.true c.index-order-place.is) in
    grind (arith, common_steps, within, c.loop-place.invariant.sized)

pub loop-place-preserved : goal.loop-place-preserved
loop-place-preserved c = record {
  sized = length-set c.loop-place.places.items c.place.result c.in-Ok.rank ∙ c.loop-place.invariant.sized;
  placed =
      let within = c.requires.within c.index-order-place.result (item_in c.args.order.now c.loop-place.place c.index-order-place.result c.loop-place-test.true c.index-order-place.is) in
      placed_more c.args.order.now c.loop-place.places.items c.loop-place.place c.place.result c.in-Ok.rank c.requires.once c.loop-place-test.true
      (c.place.ensures ∙ c.index-order-place.is ∙ get_or_default c.args.order.now c.loop-place.place c.index-order-place.result 0 c.loop-place-test.true) c.in-Ok.ensures.1
      (omega (arith, within, c.place.ensures, c.loop-place.invariant.sized)) c.loop-place.invariant.placed;
}
