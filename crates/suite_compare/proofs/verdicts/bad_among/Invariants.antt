use Rattle.std.{proofs.Common.{◌≡◌, take}, specs.List.{flat_map}}
use Rattle.suite_compare.specs.Bad.{bad_entry}
use Rattle.suite_compare.proofs.verdicts.bad_among.Given as goal

abbrev pub invariant-loop-other : goal.invariant-loop-other
invariant-loop-other l = l.bad ≡ flat_map (bad_entry l.judge l.singles l.kind) (take l.other-index l.suspects)
