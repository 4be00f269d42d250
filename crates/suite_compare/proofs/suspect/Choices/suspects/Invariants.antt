use Rattle.std.proofs.Common.{◌≡◌, ◌++◌, take}
use Rattle.suite_compare.specs.Suspects.{facing}
use Rattle.suite_compare.proofs.suspect.Choices.suspects.Given as goal

abbrev pub invariant-loop-class : goal.invariant-loop-class
invariant-loop-class l = l.found.items ≡ l.self.without.items ++ facing l.kernel.book.now.conflicts l.self.holders.items (take l.class-index l.choice)
