use Rattle.std.proofs.{Common.{◌∙◌, ◌<◌, ◌≤◌, ◌++◌, ◌∷◌, [], length, arith, refl, ap, sym}, lemmas.List.Elements.{Contains-get_or}}
use Rattle.clause_solver.proofs.{Drains.{read_at}, Building.{enters_none, enters_more, enters_all}}
use Rattle.clause_solver.proofs.table.enter.Goals as goal

pub loop-l-init : goal.loop-l-init
loop-l-init c = enters_none c.args.uses.now c.args.sentence.now c.args.k

pub use_of-entry-requires : goal.use_of-entry-requires
use_of-entry-requires c = Contains-get_or c.args.sentence.now c.loop-l.l-index _ c.loop-l-test.true

pub loop-l-preserved : goal.loop-l-preserved
loop-l-preserved c =
    let lt : c.place.result < length c.loop-l.uses = search arith in
    enters_more c.args.uses.now c.loop-l.uses c.args.sentence.now c.loop-l.l-index c.args.k c.place.result _ c.push.new.self c.index-uses-place.result c.use_of-entry.result c.loop-l-test.true
    (read_at c.args.sentence.now c.args.sentence.now c.loop-l.l-index _ refl c.loop-l-test.true)
    (rw c.negation.ensures at c.place.ensures) lt c.index-uses-place.is (c.in_ok-push.ensures.ok ∙ ap (λ z. z ++ c.use_of-entry.result ∷ []) (sym c.index-uses-place.is)) c.use_of-entry.ensures c.loop-l.invariant

pub returns : goal.returns
returns c =
    let le : length c.args.sentence.now ≤ c.loop-l.l-index = omega (arith, c.loop-l-test.false) in
    enters_all c.args.uses.now c.loop-l.uses c.args.sentence.now c.loop-l.l-index c.args.k le c.loop-l.invariant
