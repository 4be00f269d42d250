use Rattle.kernel_text.proofs.JsonTexts.{array_is}
use Rattle.kernel_text.proofs.write_json.members_value.Goals as goal

pub returns : goal.returns
returns c = array_is c.push_packages.new.items _ c.in_ok-push_packages.ensures
