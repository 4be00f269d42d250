use Rattle.std.proofs.Common.{◌≡◌, map, take}
use Rattle.serde_json.specs.View.{view}
use Rattle.kernel_text.specs.JsonData.{number_data}
use Rattle.kernel_text.proofs.write_json.push_numbers.Given as goal

abbrev pub invariant-loop-number : goal.invariant-loop-number
invariant-loop-number l = map view l.items.items ≡ map number_data (take l.number-index l.numbers)
