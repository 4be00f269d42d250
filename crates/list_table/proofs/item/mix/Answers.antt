use Rattle.std.proofs.Common.{refl}
use Rattle.list_table.specs.Hash.{hash_with}
use Rattle.list_table.proofs.item.mix.Goals as goal

pub returns : goal.returns
unfolding hash_with
returns c = refl
