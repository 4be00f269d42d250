use Rattle.std.proofs.Common.{◌≡◌, length, get_or, refl, subst, arith}
use Rattle.suite_compare.{specs.Groups.{ArePlacesTo}, proofs.Groups.{places_more, places_none}}
use Rattle.suite_compare.proofs.places.enter_all.Goals as goal

pub loop-place-init : goal.loop-place-init
loop-place-init c = places_none c.args.keys.now c.args.table.now c.requires.empty

pub loop-place-preserved : goal.loop-place-preserved
loop-place-preserved c = places_more c.loop-place.place (get_or c.args.keys.now c.loop-place.place 0) c.args.keys.now c.loop-place.table c.enter.new.table refl c.in_ok-enter.ensures c.loop-place.invariant

pub returns : goal.returns
returns c = let e : c.loop-place.place ≡ length c.args.keys.now = omega (arith, c.loop-place-test.false, c.loop-place.auto.place-end) in subst (λ z. ArePlacesTo z c.args.keys.now c.loop-place.table) e c.loop-place.invariant
