use Rattle.std.proofs.Common.{[], filter}
use Rattle.row_book.specs.{Book.{listed_for}, Flags.{flag}}
use Rattle.suite_compare.specs.{Bearers.{AreClasses}, Groups.{AreEach}}
use Rattle.suite_compare.proofs.bearers.classes_of_chosen.Given as goal

abbrev pub invariant-loop-place : goal.invariant-loop-place
invariant-loop-place l = AreEach (λ i image. AreClasses l.class_of (filter (flag l.flags) (listed_for l.lists i)) image) [] l.place l.made.items
