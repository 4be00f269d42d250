use Rattle.std.proofs.Common.{◌≡◌, ◌++◌, codes, map, take}
use Rattle.std.specs.List.{flat_map}
use Rattle.sample_suite.specs.SampleText.{package_name}
use Rattle.sample_suite.proofs.push_stanza.push_alternatives.Given as goal

abbrev pub invariant-loop-other : goal.invariant-loop-other
invariant-loop-other l = l.out.items ≡ l.fn.out.items ++ flat_map (λ other. codes " | " ++ other) (map package_name (take l.other-index l.more))
