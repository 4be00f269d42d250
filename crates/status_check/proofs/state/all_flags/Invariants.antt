use Rattle.std.proofs.Common.{◌≡◌, map, take, true}
use Rattle.status_check.proofs.state.all_flags.Given as goal

abbrev pub invariant-loop-package : goal.invariant-loop-package
invariant-loop-package l = l.flags.items ≡ map (λ facts. true) (take l._package-index l.packages)
