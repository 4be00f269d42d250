use Rattle.std.proofs.Common.{take}
use Rattle.package_register.specs.Registers.{IsRegisterOf}
use Rattle.package_register.proofs.register.Register.of.Given as goal

abbrev pub invariant-loop-place : goal.invariant-loop-place
invariant-loop-place g l = IsRegisterOf g.T.Named.name_of g.T.Named.version_of (take l.place l.items) l.register
