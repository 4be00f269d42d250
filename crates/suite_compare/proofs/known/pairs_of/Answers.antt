use Rattle.suite_compare.proofs.known.pairs_of.Goals as goal

pub is_alike-requires : goal.is_alike-requires
is_alike-requires c = (c.requires.known c.in-Some.pairs c.in-Some.is).sound
