use Rattle.std.proofs.Common.{◌≡◌, ◌++◌, replicate}
use Rattle.suite_part.proofs.renewed.with_empty.Given as goal

abbrev pub invariant-loop-i : goal.invariant-loop-i
invariant-loop-i l = l.all.items ≡ l.fn.rows.items ++ replicate l._i l.empty
