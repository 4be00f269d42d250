use Rattle.std.proofs.Common.{◌≡◌, ◌≤◌, filter, length, take}
use Rattle.suite_compare.specs.Listing.{says_open}
use Rattle.coinst_run.proofs.compare_text.count_open.Given as goal

abbrev pub invariant-loop-line : goal.invariant-loop-line
invariant-loop-line l = record { counted : l.count ≡ length (filter says_open (take l.line-index l.lines)); few : l.count ≤ l.line-index }
