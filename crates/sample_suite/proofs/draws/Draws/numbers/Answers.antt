use Rattle.std.proofs.Common.{ap, sym}
use Rattle.sample_suite.specs.Drawing.{draw, draws}
use Rattle.sample_suite.proofs.DrawSteps.{all_drawn, one_more}
use Rattle.sample_suite.proofs.draws.Draws.numbers.Goals as goal

pub loop-preserved : goal.loop-preserved
loop-preserved c =
    rw (c.in_ok-push.ensures.ok, c.below.ensures.value, c.below.ensures.state)
    (one_more (draw c.args.most) c.args.times c.loop.counter (draws (draw c.args.most) c.args.times c.args.self.now.state) c.loop.numbers c.loop.self.state c.loop-test.true c.loop.invariant)

pub returns-clause-value : goal.returns-clause-value
returns-clause-value c =
    ap (λ d. d.value) (sym (all_drawn (draw c.args.most) c.args.times c.loop.counter (draws (draw c.args.most) c.args.times c.args.self.now.state) c.loop.numbers c.loop.self.state c.loop-test.false c.loop.invariant))

pub returns-clause-state : goal.returns-clause-state
returns-clause-state c =
    ap (λ d. d.state) (sym (all_drawn (draw c.args.most) c.args.times c.loop.counter (draws (draw c.args.most) c.args.times c.args.self.now.state) c.loop.numbers c.loop.self.state c.loop-test.false c.loop.invariant))
