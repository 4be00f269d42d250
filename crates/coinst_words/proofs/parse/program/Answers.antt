use Rattle.std.proofs.Common.{map}
use Rattle.coinst_words.proofs.Commands.{all_given, all_left, one_more}
use Rattle.coinst_words.proofs.parse.program.Goals as goal

pub loop-name-init : goal.loop-name-init
loop-name-init c = all_given _ c.bare_program-program.ensures.app

pub loop-name-preserved : goal.loop-name-preserved
loop-name-preserved c =
    one_more (λ u. record { name = u.0.now; flags = map (λ s. s.now) u.1.now; valued = map (λ s. s.now) u.2.now }) _ c.loop-name.name-index _ _ _ _ c.loop-name-test.true c.in_ok-program.ensures c.loop-name.invariant

pub returns : goal.returns
returns c = all_left (λ u. record { name = u.0.now; flags = map (λ s. s.now) u.1.now; valued = map (λ s. s.now) u.2.now }) _ c.loop-name.name-index _ _ c.loop-name-test.false c.loop-name.invariant
