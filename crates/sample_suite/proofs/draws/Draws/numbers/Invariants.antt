use Rattle.std.proofs.Common.{◌≡◌, ◌-◌}
use Rattle.sample_suite.specs.Drawing.{draw, draws}
use Rattle.sample_suite.proofs.DrawSteps.{behind}
use Rattle.sample_suite.proofs.draws.Draws.numbers.Given as goal

abbrev pub invariant-loop : goal.invariant-loop
invariant-loop l = draws (draw l.most) l.times l.fn.self.state ≡ behind l.numbers (draws (draw l.most) (l.times - l.counter) l.self.state)
