use Rattle.std.proofs.Common.{arith, subst}
use Rattle.clause_families.specs.Branches.{Leaps}
use Rattle.clause_families.proofs.Grown.{leaps_next, leaps_twice}
use Rattle.clause_families.proofs.family_tree.leap_of.Goals as goal

pub returns-then-first-from : goal.returns-then-first-from
returns-then-first-from c tree front at is = subst (Leaps c.args.from tree) (omega arith) (leaps_next c.args.from tree front c.args.nodes.now at is)

pub returns : goal.returns
returns c tree front at is = subst (Leaps c.args.from tree) (omega arith) (leaps_next c.args.from tree front c.args.nodes.now at is)

pub returns-then-next-first : goal.returns-then-next-first
returns-then-next-first c tree front at is = leaps_twice c.args.from tree front c.args.nodes.now _ at is (omega arith) (omega arith)
