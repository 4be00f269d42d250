use Rattle.kernel_text.proofs.JsonTexts.{array_is}
use Rattle.kernel_text.proofs.write_json.numbers_value.Goals as goal

pub returns : goal.returns
returns c = array_is c.push_numbers.new.items _ c.in_ok-push_numbers.ensures
