use Rattle.std.proofs.Common.{take}
use Rattle.clause_families.specs.Families.{HoldsOneOf, Useful}
use Rattle.clause_families.proofs.useful.useful_beside.Given as goal

abbrev pub invariant-loop-id : goal.invariant-loop-id
invariant-loop-id l = Useful l.pool l.user (HoldsOneOf l.singles) (take l.id-index l.others) l.useful.items
