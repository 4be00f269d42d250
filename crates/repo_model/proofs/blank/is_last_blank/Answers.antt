use Rattle.std.proofs.Common.{take, arith, rules}
use Rattle.repo_model.proofs.Closing.{blank_goes, blank_stops}
use Rattle.repo_model.proofs.blank.is_last_blank.Goals as goal

pub returns-then-not-is_blank : goal.returns-then-not-is_blank
returns-then-not-is_blank c =
    blank_stops c.args.text.now (take c.args.end c.args.text.now) c.loop-start.start (search rules) c.loop-start.invariant.within (search rules) (search rules) c.loop-start.invariant.same

pub loop-start-preserved : goal.loop-start-preserved
loop-start-preserved c =
    let within = c.loop-start.invariant.within in
    record {
      within = omega (arith, within);
      same = blank_goes c.args.text.now (take c.args.end c.args.text.now) c.loop-start.start (search rules) within (search rules) (search rules) c.loop-start.invariant.same;
    }
