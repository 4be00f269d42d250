use Rattle.std.proofs.{Common.{◌≡◌, ◌∙◌, sym}, lemmas.Bool.{eqb-true}}
use Rattle.deb_version.proofs.PieceSteps.{front_order, part_order-decided, part_order-tied, part_order-empty}
use Rattle.deb_version.proofs.parts.order_parts.Goals as goal

pub returns-then-is_ne : goal.returns-then-is_ne
returns-then-is_ne c =
    let found : c.order_fronts-found.result ≡ front_order c.loop-left.left.now c.loop-left.right.now = cc in
    part_order-decided c.loop-left.left.now c.loop-left.right.now c.order_fronts-found.result found (sym c.is_ne.ensures ∙ c.if-is_ne.true) ∙ sym c.loop-left.invariant

pub loop-left-preserved : goal.loop-left-preserved
loop-left-preserved c =
    let found : c.order_fronts-found.result ≡ front_order c.loop-left.left.now c.loop-left.right.now = cc in
    let on = part_order-tied c.loop-left.left.now c.loop-left.right.now c.order_fronts-found.result found (sym c.is_ne.ensures ∙ c.if-is_ne.false) in
    c.loop-left.invariant ∙ on ∙ cc

pub returns : goal.returns
returns c = part_order-empty c.loop-left.left.now c.loop-left.right.now (eqb-true _ _ (sym c.is_empty.ensures ∙ c.if-not-is_empty.false)) (eqb-true _ _ (sym c.is_empty-else-not-is_empty.ensures ∙ c.if-not-is_empty-2.false)) ∙ sym c.loop-left.invariant
