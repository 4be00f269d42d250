use Rattle.std.proofs.Common.{◌≡◌, ◌++◌, take}
use Rattle.std.specs.List.{flat_map}
use Rattle.coinst_run.specs.ExplainText.{clash_line}
use Rattle.coinst_run.proofs.explain_text.push_clashes.Given as goal

abbrev pub invariant-loop-clash : goal.invariant-loop-clash
invariant-loop-clash l = l.out.items ≡ l.fn.out.items ++ flat_map (clash_line l.packages) (take l.clash-index l.clashes)
