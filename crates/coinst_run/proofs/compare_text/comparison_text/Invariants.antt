use Rattle.std.proofs.Common.{◌≡◌, take}
use Rattle.std.specs.List.{flat_map}
use Rattle.coinst_run.specs.CompareText.{comparison_line}
use Rattle.coinst_run.proofs.compare_text.comparison_text.Given as goal

abbrev pub invariant-loop-line : goal.invariant-loop-line
invariant-loop-line l = l.text.items ≡ flat_map comparison_line (take l.line-index l.lines)
