use Rattle.std.proofs.Common.{◌≡◌, map, take, filter, ltb}
use Rattle.serde_json.specs.View.{view}
use Rattle.kernel_text.specs.JsonData.{number_data}
use Rattle.kernel_text.proofs.write_json.push_greater.Given as goal

abbrev pub invariant-loop-class : goal.invariant-loop-class
invariant-loop-class l = map view l.items.items ≡ map number_data (filter (λ m. ltb l.number m) (take l.class-index l.conflicts))
