use Rattle.std.proofs.Common.{◌≡◌, map, drop}
use Rattle.clap.specs.Words.{app_of}
use Rattle.coinst_words.specs.{Jobs.{usages}, Program.{app_of_usages}}
use Rattle.coinst_words.proofs.Commands.{with_usages}
use Rattle.coinst_words.proofs.parse.program.Given as goal

-- the commands that are left make the whole program of what was put together
abbrev pub invariant-loop-name : goal.invariant-loop-name
invariant-loop-name l = with_usages (app_of l.program) (map (λ u. record { name = u.0.now; flags = map (λ s. s.now) u.1.now; valued = map (λ s. s.now) u.2.now }) (drop l.name-index l.name-items)) ≡ app_of_usages usages
