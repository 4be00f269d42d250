use Rattle.clause_families.proofs.UnionMerges.{union_merges_lem}
use Rattle.clause_families.proofs.laws.union_merges.Goals as goal

pub returns : goal.returns
returns c = union_merges_lem
