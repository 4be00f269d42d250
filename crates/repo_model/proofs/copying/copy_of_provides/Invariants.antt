use Rattle.std.proofs.Common.{◌≡◌, take}
use Rattle.repo_model.proofs.copying.copy_of_provides.Given as goal

abbrev pub invariant-loop-provide : goal.invariant-loop-provide
invariant-loop-provide l = l.made ≡ take l.provide-index l.provides
