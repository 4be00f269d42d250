use Rattle.std.proofs.lemmas.List.Filters.{dedup_is}
use Rattle.listed.proofs.Orders.{once_ascending, once_same}
use Rattle.suite_compare.proofs.places.sort_once.Goals as goal

pub returns-clause-ascending : goal.returns-clause-ascending
returns-clause-ascending c = once_ascending _ _ c.sort_unstable.ensures.sorted (dedup_is _ _ _ c.dedup.ensures.filtered)

pub returns-clause-same : goal.returns-clause-same
returns-clause-same c = once_same _ _ _ c.sort_unstable.ensures.permutation (dedup_is _ _ _ c.dedup.ensures.filtered)
