use Rattle.class_merge.proofs.Families.{classes_are, unpooled}
use Rattle.class_merge.proofs.merging.families_of.Goals as goal

pub returns-clause-quotient : goal.returns-clause-quotient
returns-clause-quotient c = unpooled c.args.masked.now c.requires c.in_ok-classes.classes c.in_ok-classes.ensures _ c.in_ok-clauses.ensures c.in_ok-conflicts.ensures

pub returns-clause-class_of : goal.returns-clause-class_of
returns-clause-class_of c = classes_are c.args.masked.now c.requires c.in_ok-classes.classes c.in_ok-classes.ensures
