use Rattle.std.proofs.{Common.{◌∙◌, ap, map}, lemmas.List.{take_all}}
use Rattle.serde_json.specs.View.{view}
use Rattle.kernel_text.specs.JsonData.{number_data}
use Rattle.kernel_text.proofs.JsonTexts.{one_value}
use Rattle.kernel_text.proofs.write_json.push_numbers.Goals as goal

pub loop-number-init : goal.loop-number-init
loop-number-init c = ap (map view) c.requires

pub loop-number-preserved : goal.loop-number-preserved
loop-number-preserved c =
    one_value number_data c.args.numbers.now c.loop-number.number-index 0 c.loop-number.items.items c.push.new.self.items c.from.result c.loop-number-test.true c.loop-number.invariant c.from.ensures c.in_ok-push.ensures.items

pub returns : goal.returns
returns c = c.loop-number.invariant ∙ ap (map number_data) (take_all c.loop-number.number-index c.args.numbers.now c.loop-number-test.false)
