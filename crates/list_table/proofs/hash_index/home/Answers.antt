use Rattle.std.proofs.Common.{refl}
use Rattle.list_table.specs.Index.{home}
use Rattle.list_table.proofs.hash_index.home.Goals as goal

pub returns : goal.returns
unfolding home
returns c = refl
