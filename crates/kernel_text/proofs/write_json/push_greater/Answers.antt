use Rattle.std.proofs.{Common.{◌∙◌, ap, filter, ltb, map}, lemmas.List.{take_all}}
use Rattle.serde_json.specs.View.{view}
use Rattle.kernel_text.specs.JsonData.{number_data}
use Rattle.kernel_text.proofs.{JsonTexts.{not_greater, one_greater}, write_json.push_greater.Goals.{then-number-class+in_ok-push, else-number-class}}
use Rattle.kernel_text.proofs.write_json.push_greater.Goals as goal

pub loop-class-init : goal.loop-class-init
loop-class-init c = ap (map view) c.requires

pub loop-class-preserved : goal.loop-class-preserved
loop-class-preserved c = elim c.if-number-class.branch [
  | then-number-class+in_ok-push w ↦
      one_greater c.args.number c.args.conflicts.now c.loop-class.class-index c.loop-class.items.items c.if-number-class.items.items w.from.result c.loop-class-test.true c.loop-class.invariant w.if-number-class.true w.from.ensures
      (ap (λ v. v.items) w.items-is ∙ w.in_ok-push.ensures.items)
  | else-number-class w ↦
      ap (λ v. map view v.items) w.items-is ∙ c.loop-class.invariant ∙ not_greater c.args.number c.args.conflicts.now c.loop-class.class-index c.loop-class-test.true w.if-number-class.false
]

pub returns : goal.returns
returns c = c.loop-class.invariant ∙ ap (λ xs. map number_data (filter (λ m. ltb c.args.number m) xs)) (take_all c.loop-class.class-index c.args.conflicts.now c.loop-class-test.false)
