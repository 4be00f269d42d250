use Rattle.std.proofs.Common.{take}
use Rattle.virtual_provides.specs.Bearers.{IsBuiltFrom}
use Rattle.virtual_provides.proofs.names.NameTable.build.Given as goal

abbrev pub invariant-loop-number : goal.invariant-loop-number
invariant-loop-number l = IsBuiltFrom (take l.number l.packages) l.table
