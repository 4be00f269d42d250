use Rattle.kernel_text.proofs.JsonTexts.{array_is}
use Rattle.kernel_text.proofs.write_json.against_value.Goals as goal

pub returns : goal.returns
returns c = array_is c.push_greater.new.items _ c.in_ok-push_greater.ensures
