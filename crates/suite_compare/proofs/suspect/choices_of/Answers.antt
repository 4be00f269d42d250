use Rattle.std.{proofs.Common.{◌≡◌, [], length, ◌∙◌, ap, arith}, proofs.lemmas.List.{get_or_read}}
use Rattle.listed.proofs.Lists.{item_in}
use Rattle.suite_compare.proofs.{Groups.{each_more, each_none}, Chosen.{chosen_fit}}
use Rattle.suite_compare.proofs.suspect.choices_of.Goals as goal

pub loop-kind-init : goal.loop-kind-init
loop-kind-init c = record { size = ap (λ w. w.0) c.in_ok-chosen.ensures ∙ c.size.ensures; chosen = each_none _ [] c.new-choices.result.items c.new-choices.ensures.items }

pub first_choice-requires-clause-goal : goal.first_choice-requires-clause-goal
first_choice-requires-clause-goal c = rw c.as_slice.ensures (c.requires c.kind-item.result (item_in c.args.kinds.now c.loop-kind.kind-index c.kind-item.result c.loop-kind-test.true c.kind-item.is))

pub first_choice-requires-clause-size : goal.first_choice-requires-clause-size
first_choice-requires-clause-size c = c.loop-kind.invariant.size

pub loop-kind-preserved : goal.loop-kind-preserved
loop-kind-preserved c = record {
  size = c.in_ok-choice.ensures.size;
  chosen = each_more _ [] c.loop-kind.kind-index c.loop-kind.choices.items c.push.new.self.items c.in_ok-choice.choice c.in_ok-push.ensures.items
      (rw (c.as_slice.ensures ∙ get_or_read c.args.kinds.now c.loop-kind.kind-index c.kind-item.result c.loop-kind-test.true c.kind-item.is []) at c.in_ok-choice.ensures.chosen) c.loop-kind.invariant.chosen;
}

pub returns-clause-chosen : goal.returns-clause-chosen
returns-clause-chosen c = let e : c.loop-kind.kind-index ≡ length c.args.kinds.now = omega (arith, c.loop-kind-test.false, c.loop-kind.auto.kind-index-end) in rw e at c.loop-kind.invariant.chosen

pub returns-clause-below : goal.returns-clause-below
returns-clause-below c = chosen_fit c.args.kernel.now.pool.now c.args.kernel.now.book.now c.args.kinds.now c.loop-kind.choices.items c.loop-kind.kind-index c.loop-kind.invariant.chosen
