use Rattle.std.{proofs.Common.{◌≡◌, [], get_or, length, subst, ◌∙◌, arith}, proofs.lemmas.List.{get_or_read}}
use Rattle.listed.{specs.Lists.{In}, proofs.Lists.{In_at, item_in}}
use Rattle.suite_compare.{specs.Suspects.{AreHolders}, proofs.Chosen.{holders_more, holders_none}}
use Rattle.suite_compare.proofs.suspect.enter_choices.Goals as goal

pub loop-kind-init : goal.loop-kind-init
loop-kind-init c = holders_none c.args.choices.now c.args.table.now c.requires.empty

pub enter_each-requires : goal.enter_each-requires
enter_each-requires c = λ i l.
    let below = c.requires.below c.index-choices-kind.result (item_in c.args.choices.now c.loop-kind.kind c.index-choices-kind.result c.loop-kind-test.true c.index-choices-kind.is) in
    let lt = below _ (subst (λ z. In (get_or c.as_slice.result.now i 0) z) c.as_slice.ensures (In_at c.as_slice.result.now i 0 l)) in
    omega (arith, lt, c.loop-kind.auto.table)

pub loop-kind-preserved : goal.loop-kind-preserved
loop-kind-preserved c = holders_more c.loop-kind.kind c.args.choices.now c.loop-kind.table c.enter_each.new.table c.as_slice.result.now (c.as_slice.ensures ∙ get_or_read c.args.choices.now c.loop-kind.kind c.index-choices-kind.result c.loop-kind-test.true c.index-choices-kind.is []) c.in_ok-enter_each.ensures c.loop-kind.invariant

pub returns : goal.returns
returns c = let e : c.loop-kind.kind ≡ length c.args.choices.now = omega (arith, c.loop-kind-test.false, c.loop-kind.auto.kind-end) in subst (λ n. AreHolders n c.args.choices.now c.loop-kind.table) e c.loop-kind.invariant
