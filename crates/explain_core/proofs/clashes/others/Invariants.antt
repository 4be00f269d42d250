use Rattle.std.proofs.Common.{◌≡◌, take}
use Rattle.explain_core.specs.Reasons.{clash_pairs}
use Rattle.explain_core.proofs.clashes.others.Given as goal

abbrev pub invariant-loop-clash : goal.invariant-loop-clash
invariant-loop-clash l = l.made.items ≡ clash_pairs (take l.clash-index l.clashes)
