use Rattle.std.proofs.Common.{◌≡◌, take}
use Rattle.std.specs.List.{flat_map}
use Rattle.coinst_run.specs.SystemText.{have_text}
use Rattle.coinst_run.proofs.system_text.system_text.Given as goal

abbrev pub invariant-loop-line : goal.invariant-loop-line
invariant-loop-line l = l.text.items ≡ flat_map have_text (take l.line-index l.lines)
