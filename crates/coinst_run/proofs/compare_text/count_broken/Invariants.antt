use Rattle.std.proofs.Common.{◌≡◌, ◌≤◌, filter, length, take}
use Rattle.suite_compare.specs.Listing.{is_broken}
use Rattle.coinst_run.proofs.compare_text.count_broken.Given as goal

abbrev pub invariant-loop-line : goal.invariant-loop-line
invariant-loop-line l = record { counted : l.count ≡ length (filter is_broken (take l.line-index l.lines)); few : l.count ≤ l.line-index }
