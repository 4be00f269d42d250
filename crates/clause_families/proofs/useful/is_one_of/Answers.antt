use Rattle.clause_families.proofs.Families.{found_one}
use Rattle.clause_families.proofs.useful.is_one_of.Goals as goal

pub returns : goal.returns
returns c =
    found_one c.args.numbers.now c.args.number c.binary_search.result c.is_ok.result c.binary_search.ensures.bound c.binary_search.ensures.ok c.is_ok.ensures.value
