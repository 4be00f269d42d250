use Rattle.std.proofs.Common.{take}
use Rattle.repo_model.specs.Pairs.{Adds, IsPairWith}
use Rattle.repo_model.proofs.pairs.push_pairs.Given as goal

abbrev pub invariant-loop-other : goal.invariant-loop-other
invariant-loop-other l = Adds (IsPairWith l.number (take l.other-index l.others)) l.fn.pairs.items l.pairs.items
