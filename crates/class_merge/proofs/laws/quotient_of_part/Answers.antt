use Rattle.class_merge.proofs.Quotients.{quotient_of_part_lem}
use Rattle.class_merge.proofs.laws.quotient_of_part.Goals as goal

pub returns : goal.returns
returns c = quotient_of_part_lem
