use Rattle.std.proofs.Common.{◌++◌, map, take}
use Rattle.coinst_words.specs.Program.{flag_rule, valued_rule}
use Rattle.coinst_words.proofs.Commands.{IsBuilt}
use Rattle.coinst_words.proofs.parse.command.Given as goal

abbrev pub invariant-loop-option : goal.invariant-loop-option
invariant-loop-option l = IsBuilt l.fn.name (map flag_rule (map (λ s. s.now) (take l.option-index l.flags))) l.command

abbrev pub invariant-loop-option-2 : goal.invariant-loop-option-2
invariant-loop-option-2 l = IsBuilt l.fn.name (map flag_rule (map (λ s. s.now) l.fn.flags) ++ map valued_rule (map (λ s. s.now) (take l.option-index l.with_value))) l.command
