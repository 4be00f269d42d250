use Rattle.std.proofs.Common.{◌≡◌, ◌≤◌, ◌∙◌, length, arith, sym, get_or}
use Rattle.clause_solver.specs.Running.{Waits}
use Rattle.clause_solver.proofs.Running.{sweep_runs, sweep_waits, sweep_end, item_at}
use Rattle.clause_solver.proofs.steps.propagate_all.Goals as goal

pub returns-then-branch-clause-runs : goal.returns-then-branch-clause-runs
returns-then-branch-clause-runs c =
    let e : c.as_slice.result.now ≡ get_or c.args.sentences.now c.loop-sentence.sentence-index c.as_slice.result.now = item_at c.args.sentences.now c.loop-sentence.sentence-index c.as_slice.result.now c.sentence-item.result c.as_slice.ensures c.sentence-item.is in
    sweep_runs c.args.sentences.now c.args.trail.now.1 c.loop-sentence.trail.1 c.unit_step.new.trail.1 c.as_slice.result.now (c.loop-sentence.sentence-index, c.loop-sentence-test.true, sym e) c.loop-sentence.invariant.runs c.in_ok-unit_step.ensures.runs

pub loop-sentence-preserved : goal.loop-sentence-preserved
loop-sentence-preserved c =
    let e : c.as_slice.result.now ≡ get_or c.args.sentences.now c.loop-sentence.sentence-index c.as_slice.result.now = item_at c.args.sentences.now c.loop-sentence.sentence-index c.as_slice.result.now c.sentence-item.result c.as_slice.ensures c.sentence-item.is in
    record {
      classes = c.in_ok-unit_step.ensures.classes ∙ c.loop-sentence.invariant.classes;
      runs = sweep_runs c.args.sentences.now c.args.trail.now.1 c.loop-sentence.trail.1 c.unit_step.new.trail.1 c.as_slice.result.now (c.loop-sentence.sentence-index, c.loop-sentence-test.true, sym e) c.loop-sentence.invariant.runs c.in_ok-unit_step.ensures.runs;
      waits = sweep_waits c.args.sentences.now c.args.trail.now.1 c.loop-sentence.trail.1 c.unit_step.new.trail.1 c.as_slice.result.now c.loop-sentence.sentence-index c.loop-sentence-test.true e c.loop-sentence.invariant.runs c.in_ok-unit_step.ensures.runs
          (rw c.if-branch.false at c.in_ok-unit_step.ensures.met) c.loop-sentence.invariant.waits;
    }

pub returns-clause-waits : goal.returns-clause-waits
returns-clause-waits c =
    let le : length c.args.sentences.now ≤ c.loop-sentence.sentence-index = omega (arith, c.loop-sentence-test.false) in
    sweep_end (Waits (length c.args.trail.now.1) c.loop-sentence.trail.1) c.args.sentences.now c.loop-sentence.sentence-index le c.loop-sentence.invariant.waits
