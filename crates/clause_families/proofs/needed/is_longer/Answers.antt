use Rattle.clause_families.proofs.needed.is_longer.Goals as goal

pub has_shorter-requires-clause-tree : goal.has_shorter-requires-clause-tree
has_shorter-requires-clause-tree c = record { family = c.args.family.now; tells = c.requires.tree c.in-Some.tree c.in-Some.is }
