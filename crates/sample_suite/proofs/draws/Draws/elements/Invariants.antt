use Rattle.std.proofs.Common.{◌≡◌, ◌-◌}
use Rattle.sample_suite.specs.Drawing.{draw_element, draws}
use Rattle.sample_suite.proofs.DrawSteps.{behind}
use Rattle.sample_suite.proofs.draws.Draws.elements.Given as goal

abbrev pub invariant-loop : goal.invariant-loop
invariant-loop l = draws (draw_element l.count) l.times l.fn.self.state ≡ behind l.elements (draws (draw_element l.count) (l.times - l.counter) l.self.state)
