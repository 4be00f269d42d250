use Rattle.std.proofs.Common.{ap, ◌∙◌}
use Rattle.std.specs.Hash.FoldHasher as folding
use Rattle.package_register.specs.Hashed.{hash_of}
use Rattle.package_register.proofs.keys.hash_of.Goals as goal

pub returns : goal.returns
unfolding hash_of
returns c = c.finish.ensures ∙ ap folding.finish (c.write.ensures ∙ ap (λ hasher. folding.write hasher c.args.text.now) c.default-hasher.ensures)
