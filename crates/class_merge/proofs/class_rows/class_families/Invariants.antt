use Rattle.std.proofs.Common.{◌≡◌, map}
use Rattle.row_book.specs.Numbers.{numbers}
use Rattle.class_merge.specs.{Grouping.{group_family}, Masks.{masked_repository}}
use Rattle.class_merge.proofs.class_rows.class_families.Given as goal

abbrev pub invariant-loop-class : goal.invariant-loop-class
invariant-loop-class l = l.made.items ≡ map (group_family (masked_repository l.masked) l.classes.firsts.items l.classes.class_of.items) (numbers l.class 0)
