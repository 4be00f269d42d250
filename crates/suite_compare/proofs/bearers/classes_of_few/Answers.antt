use Rattle.std.proofs.Common.{arith}
use Rattle.listed.proofs.Lists.{In_at}
use Rattle.suite_compare.proofs.Bearing.{one_class}
use Rattle.suite_compare.proofs.bearers.classes_of_few.Goals as goal

pub bounds-class_of-chosen : goal.bounds-class_of-chosen
bounds-class_of-chosen c = c.requires _ (In_at c.args.chosen.now 0 0 (omega (arith, c.if-chosen-eq1.true)))

pub returns-then-chosen-eq1 : goal.returns-then-chosen-eq1
returns-then-chosen-eq1 c = one_class c.args.class_of.now c.args.chosen.now c.one.result c.if-chosen-eq1.true c.one.ensures
