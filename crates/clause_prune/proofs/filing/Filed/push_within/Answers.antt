use Rattle.std.proofs.Common.{subst}
use Rattle.listed.specs.Lists.{In}
use Rattle.clause_prune.specs.Filing.{entries_at, entries_in}
use Rattle.clause_prune.proofs.filing.Filed.push_within.Goals as goal

pub push_each_within-requires-clause-of_pool : goal.push_each_within-requires-clause-of_pool
push_each_within-requires-clause-of_pool c = λ place e i.
    c.requires.of_pool place e (subst (λ f. In e (entries_at f.lists place)) c.self.view_is (subst (λ z. In e (entries_at (entries_in z) place)) c.as_slice.ensures.value i))
