use Rattle.suite_compare.proofs.sides.common_at.Goals as goal

pub names_at-requires : goal.names_at-requires
names_at-requires c = rw c.as_slice.ensures c.requires

pub numbers_at-requires : goal.numbers_at-requires
numbers_at-requires c = rw c.deref.ensures.value (rw (← c.args.old.now.long) at c.requires)
