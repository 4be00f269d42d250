use Rattle.std.proofs.Common.{sym, arith}
use Rattle.clause_families.specs.Inclusion.{is_strictly_inside}
use Rattle.clause_families.proofs.Beginnings.{none_places}
use Rattle.clause_families.proofs.needed.has_shorter_among.Goals as goal

pub returns : goal.returns
returns c = sym (none_places (λ other. is_strictly_inside other c.args.clause.now) c.args.family.now (λ k l. c.loop-other.invariant k (omega arith)))
