use Rattle.clause_families.proofs.splitting.numbers_of.Goals as goal

pub returns-clause-first : goal.returns-clause-first
returns-clause-first c d i n j = (c.sort_once.ensures.same n).1 (c.in_ok-add_numbers-2.ensures.stay n (c.in_ok-add_numbers.ensures.all d i n j))

pub returns-clause-second : goal.returns-clause-second
returns-clause-second c d i n j = (c.sort_once.ensures.same n).1 (c.in_ok-add_numbers-2.ensures.all d i n j)
