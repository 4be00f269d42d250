use Rattle.std.proofs.Common.{◌≡◌, take}
use Rattle.repo_model.proofs.copying.shared.Given as goal

abbrev pub invariant-loop-element : goal.invariant-loop-element
invariant-loop-element l = l.made ≡ take l.element-index l.elements
