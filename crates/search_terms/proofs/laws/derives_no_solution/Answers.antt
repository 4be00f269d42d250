use Rattle.search_terms.proofs.Found.{derives_no_solution}
use Rattle.search_terms.proofs.laws.derives_no_solution.Goals as goal

pub returns : goal.returns
returns c = derives_no_solution
