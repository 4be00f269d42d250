use Rattle.std.proofs.Common.{◌≡◌, ◌++◌, take}
use Rattle.clause_pool.specs.Interned.{clauses_at}
use Rattle.kernel_text.specs.{KernelLines.{NeedsLine}, Writing.{lines_text}}
use Rattle.kernel_text.proofs.push_lines.push_needs_lines.Given as goal

abbrev pub invariant-loop-id : goal.invariant-loop-id
invariant-loop-id l = l.out.items ≡ l.fn.out.items ++ lines_text NeedsLine (clauses_at l.pool (take l.id-index l.ids))
