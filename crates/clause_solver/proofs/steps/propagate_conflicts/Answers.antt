use Rattle.std.proofs.Common.{◌≡◌, ◌≤◌, ◌∙◌, length, arith, refl, get_or, true, false}
use Rattle.std.specs.Prelude.{map}
use Rattle.search_terms.specs.{Closure.{literal}, Form.{conflict_sentence}}
use Rattle.clause_solver.specs.Marking.{set_of_trail}
use Rattle.clause_solver.proofs.Running.{sweep_runs, pair_in, sweep_end, excluded_more}
use Rattle.clause_solver.proofs.steps.propagate_conflicts.Goals as goal

pub returns-then-branch-clause-runs : goal.returns-then-branch-clause-runs
returns-then-branch-clause-runs c =
    sweep_runs (map (conflict_sentence c.args.class) c.args.others.now) c.args.trail.now.1 c.loop-q.trail.1 c.unit_step.new.trail.1 (conflict_sentence c.args.class (get_or c.args.others.now c.loop-q.q-index 0))
    (pair_in c.args.class c.args.others.now c.loop-q.q-index c.loop-q-test.true) c.loop-q.invariant.runs c.in_ok-unit_step.ensures.runs

pub returns-then-branch-clause-refuted : goal.returns-then-branch-clause-refuted
returns-then-branch-clause-refuted c = (
  conflict_sentence c.args.class (get_or c.args.others.now c.loop-q.q-index 0),
  pair_in c.args.class c.args.others.now c.loop-q.q-index c.loop-q-test.true,
  rw c.if-branch.true at c.in_ok-unit_step.ensures.refuted,
)

pub loop-q-preserved : goal.loop-q-preserved
loop-q-preserved c =
    let s = conflict_sentence c.args.class (get_or c.args.others.now c.loop-q.q-index 0) in
    record {
      classes = c.in_ok-unit_step.ensures.classes ∙ c.loop-q.invariant.classes;
      runs = sweep_runs (map (conflict_sentence c.args.class) c.args.others.now) c.args.trail.now.1 c.loop-q.trail.1 c.unit_step.new.trail.1 s
          (pair_in c.args.class c.args.others.now c.loop-q.q-index c.loop-q-test.true) c.loop-q.invariant.runs c.in_ok-unit_step.ensures.runs;
      excluded = excluded_more c.args.class c.args.others.now c.args.trail.now.1 c.loop-q.trail.1 c.unit_step.new.trail.1 s c.loop-q.q-index c.loop-q-test.true refl c.requires.class
          c.loop-q.invariant.runs c.in_ok-unit_step.ensures.runs (rw c.if-branch.false at c.in_ok-unit_step.ensures.met) c.loop-q.invariant.excluded;
    }

pub returns-clause-excluded : goal.returns-clause-excluded
returns-clause-excluded c =
    let le : length c.args.others.now ≤ c.loop-q.q-index = omega (arith, c.loop-q-test.false) in
    sweep_end (λ q. set_of_trail c.loop-q.trail.1 (literal q false) ≡ true) c.args.others.now c.loop-q.q-index le c.loop-q.invariant.excluded
