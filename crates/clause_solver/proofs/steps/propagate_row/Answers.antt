use Rattle.std.proofs.{Common.{◌≤◌, ◌∙◌, length, arith, get_or, []}, lemmas.List.Elements.{Contains-get_or}}
use Rattle.clause_solver.specs.Running.{Waits}
use Rattle.clause_solver.proofs.Running.{no_use, sweep_runs, row_waits, sweep_end}
use Rattle.clause_solver.proofs.steps.propagate_row.Goals as goal

pub returns-then-branch-clause-runs : goal.returns-then-branch-clause-runs
returns-then-branch-clause-runs c =
    let u = get_or c.args.row.now c.loop-entry.entry-index no_use in
    let here = Contains-get_or c.args.sentences.now u.sentence [] (c.requires.row c.loop-entry.entry-index no_use c.loop-entry-test.true).within in
    sweep_runs c.args.sentences.now c.args.trail.now.1 c.loop-entry.trail.1 c.propagate_use.new.trail.1 (get_or c.args.sentences.now u.sentence []) here c.loop-entry.invariant.runs c.in_ok-propagate_use.ensures.runs

pub loop-entry-preserved : goal.loop-entry-preserved
loop-entry-preserved c =
    let u = get_or c.args.row.now c.loop-entry.entry-index no_use in
    let here = Contains-get_or c.args.sentences.now u.sentence [] (c.requires.row c.loop-entry.entry-index no_use c.loop-entry-test.true).within in
    record {
      classes = c.in_ok-propagate_use.ensures.classes ∙ c.loop-entry.invariant.classes;
      runs = sweep_runs c.args.sentences.now c.args.trail.now.1 c.loop-entry.trail.1 c.propagate_use.new.trail.1 (get_or c.args.sentences.now u.sentence []) here c.loop-entry.invariant.runs c.in_ok-propagate_use.ensures.runs;
      waits = row_waits c.args.sentences.now c.args.row.now c.args.trail.now.1 c.loop-entry.trail.1 c.propagate_use.new.trail.1 c.loop-entry.entry-index no_use c.loop-entry-test.true c.loop-entry.invariant.runs c.in_ok-propagate_use.ensures.runs
          (rw c.if-branch.false at c.in_ok-propagate_use.ensures.met) c.loop-entry.invariant.waits;
    }

pub returns-clause-waits : goal.returns-clause-waits
returns-clause-waits c =
    let le : length c.args.row.now ≤ c.loop-entry.entry-index = omega (arith, c.loop-entry-test.false) in
    sweep_end (λ u. Waits (length c.args.trail.now.1) c.loop-entry.trail.1 (get_or c.args.sentences.now u.sentence [])) c.args.row.now c.loop-entry.entry-index le c.loop-entry.invariant.waits
