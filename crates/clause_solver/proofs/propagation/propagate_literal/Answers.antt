use Rattle.std.proofs.{Common.{◌≡◌, ◌<◌, refl, get_or, [], length, arith}, lemmas.Bool.{not-true}}
use Rattle.std.specs.Prelude.{map}
use Rattle.search_terms.specs.{Marks.{flag_place}, Form.{conflict_sentence}}
use Rattle.clause_solver.specs.{Marking.{set_of_trail}, Engine.{sentences_in}}
use Rattle.clause_solver.proofs.Running.{runs_more, runs_then}
use Rattle.clause_solver.proofs.Drains.{whole_goals, whole_own, whole_conflicts, mark_negative, mark_positive, item_from, refuted_more}
use Rattle.clause_solver.proofs.propagation.propagate_literal.Goals as goal

pub propagate_row-requires-clause-row : goal.propagate_row-requires-clause-row
propagate_row-requires-clause-row c =
    let same_place = c.place.ensures in
    let lt : c.place.result < length c.args.formula.now.uses.now = search arith in
    let row = item_from c.args.formula.now.uses.now c.place.result c.place.result [] c.as_slice.result.now c.index-uses-place.result lt refl c.as_slice.ensures c.index-uses-place.is in
    rw row (c.requires.engine.table.within c.place.result [] lt)

pub returns-then-branch-clause-runs : goal.returns-then-branch-clause-runs
returns-then-branch-clause-runs c =
    runs_more c.args.formula.now.goals.now (sentences_in c.args.formula.now) c.args.trail.now.1 c.propagate_goals.new.trail.1 (whole_goals c.args.formula.now.goals.now c.args.formula.now.own.now c.args.formula.now.conflicts.now) c.in_ok-propagate_goals.ensures.runs

pub returns-then-branch-2-clause-runs : goal.returns-then-branch-2-clause-runs
returns-then-branch-2-clause-runs c =
    let F = sentences_in c.args.formula.now in
    runs_then F c.args.trail.now.1 c.propagate_goals.new.trail.1 c.propagate_row.new.trail.1
    (runs_more c.args.formula.now.goals.now F c.args.trail.now.1 c.propagate_goals.new.trail.1 (whole_goals c.args.formula.now.goals.now c.args.formula.now.own.now c.args.formula.now.conflicts.now) c.in_ok-propagate_goals.ensures.runs)
    (runs_more c.args.formula.now.own.now F c.propagate_goals.new.trail.1 c.propagate_row.new.trail.1 (whole_own c.args.formula.now.goals.now c.args.formula.now.own.now c.args.formula.now.conflicts.now) c.in_ok-propagate_row.ensures.runs)

pub returns-then-branch-2-clause-refuted : goal.returns-then-branch-2-clause-refuted
returns-then-branch-2-clause-refuted c =
    refuted_more c.args.formula.now.own.now (sentences_in c.args.formula.now) (set_of_trail c.propagate_row.new.trail.1) (whole_own c.args.formula.now.goals.now c.args.formula.now.own.now c.args.formula.now.conflicts.now) (rw c.if-branch-2.true at c.in_ok-propagate_row.ensures.refuted)

pub returns-then-not-l-clause-runs : goal.returns-then-not-l-clause-runs
returns-then-not-l-clause-runs c =
    let F = sentences_in c.args.formula.now in
    runs_then F c.args.trail.now.1 c.propagate_goals.new.trail.1 c.propagate_row.new.trail.1
    (runs_more c.args.formula.now.goals.now F c.args.trail.now.1 c.propagate_goals.new.trail.1 (whole_goals c.args.formula.now.goals.now c.args.formula.now.own.now c.args.formula.now.conflicts.now) c.in_ok-propagate_goals.ensures.runs)
    (runs_more c.args.formula.now.own.now F c.propagate_goals.new.trail.1 c.propagate_row.new.trail.1 (whole_own c.args.formula.now.goals.now c.args.formula.now.own.now c.args.formula.now.conflicts.now) c.in_ok-propagate_row.ensures.runs)

pub returns-then-not-l-clause-waits : goal.returns-then-not-l-clause-waits
returns-then-not-l-clause-waits c =
    let same_place = c.place.ensures in
    let lt : c.place.result < length c.args.formula.now.uses.now = search arith in
    let row : c.as_slice.result.now ≡ get_or c.args.formula.now.uses.now (flag_place c.args.l) [] = item_from c.args.formula.now.uses.now c.place.result (flag_place c.args.l) [] c.as_slice.result.now c.index-uses-place.result lt c.place.ensures c.as_slice.ensures c.index-uses-place.is in
    mark_negative c.args.trail.now.0 c.args.formula.now.goals.now c.args.formula.now.own.now c.args.formula.now.uses.now c.args.formula.now.conflicts.now c.args.l c.args.trail.now.1 c.propagate_goals.new.trail.1 c.propagate_row.new.trail.1 c.as_slice.result.now c.requires.engine (not-true c.args.l.positive c.if-not-l.true)
    row c.in_ok-propagate_goals.ensures.runs (rw c.if-branch.false at c.in_ok-propagate_goals.ensures.waits) c.in_ok-propagate_row.ensures.runs (rw c.if-branch-2.false at c.in_ok-propagate_row.ensures.waits)

pub returns-then-branch-3-clause-runs : goal.returns-then-branch-3-clause-runs
returns-then-branch-3-clause-runs c =
    let F = sentences_in c.args.formula.now in
    let lt : c.args.l.class < length c.args.formula.now.conflicts.now = search arith in
    let others : c.as_slice-2.result.now ≡ get_or c.args.formula.now.conflicts.now c.args.l.class [] = item_from c.args.formula.now.conflicts.now c.args.l.class c.args.l.class [] c.as_slice-2.result.now c.index-conflicts-l.result lt refl c.as_slice-2.ensures c.index-conflicts-l.is in
    runs_then F c.args.trail.now.1 c.propagate_row.new.trail.1 c.propagate_conflicts.new.trail.1
    (runs_then F c.args.trail.now.1 c.propagate_goals.new.trail.1 c.propagate_row.new.trail.1
    (runs_more c.args.formula.now.goals.now F c.args.trail.now.1 c.propagate_goals.new.trail.1 (whole_goals c.args.formula.now.goals.now c.args.formula.now.own.now c.args.formula.now.conflicts.now) c.in_ok-propagate_goals.ensures.runs)
    (runs_more c.args.formula.now.own.now F c.propagate_goals.new.trail.1 c.propagate_row.new.trail.1 (whole_own c.args.formula.now.goals.now c.args.formula.now.own.now c.args.formula.now.conflicts.now) c.in_ok-propagate_row.ensures.runs))
    (runs_more (map (conflict_sentence c.args.l.class) (get_or c.args.formula.now.conflicts.now c.args.l.class [])) F c.propagate_row.new.trail.1 c.propagate_conflicts.new.trail.1 (whole_conflicts c.args.formula.now.goals.now c.args.formula.now.own.now c.args.formula.now.conflicts.now c.args.l.class) (rw others at c.in_ok-propagate_conflicts.ensures.runs))

pub returns-then-branch-3-clause-refuted : goal.returns-then-branch-3-clause-refuted
returns-then-branch-3-clause-refuted c =
    let lt : c.args.l.class < length c.args.formula.now.conflicts.now = search arith in
    let others : c.as_slice-2.result.now ≡ get_or c.args.formula.now.conflicts.now c.args.l.class [] = item_from c.args.formula.now.conflicts.now c.args.l.class c.args.l.class [] c.as_slice-2.result.now c.index-conflicts-l.result lt refl c.as_slice-2.ensures c.index-conflicts-l.is in
    refuted_more (map (conflict_sentence c.args.l.class) (get_or c.args.formula.now.conflicts.now c.args.l.class [])) (sentences_in c.args.formula.now) (set_of_trail c.propagate_conflicts.new.trail.1) (whole_conflicts c.args.formula.now.goals.now c.args.formula.now.own.now c.args.formula.now.conflicts.now c.args.l.class)
    (rw others at (rw c.if-branch-3.true at c.in_ok-propagate_conflicts.ensures.refuted))

pub returns-clause-runs : goal.returns-clause-runs
returns-clause-runs c =
    let F = sentences_in c.args.formula.now in
    let lt : c.args.l.class < length c.args.formula.now.conflicts.now = search arith in
    let others : c.as_slice-2.result.now ≡ get_or c.args.formula.now.conflicts.now c.args.l.class [] = item_from c.args.formula.now.conflicts.now c.args.l.class c.args.l.class [] c.as_slice-2.result.now c.index-conflicts-l.result lt refl c.as_slice-2.ensures c.index-conflicts-l.is in
    runs_then F c.args.trail.now.1 c.propagate_row.new.trail.1 c.propagate_conflicts.new.trail.1
    (runs_then F c.args.trail.now.1 c.propagate_goals.new.trail.1 c.propagate_row.new.trail.1
    (runs_more c.args.formula.now.goals.now F c.args.trail.now.1 c.propagate_goals.new.trail.1 (whole_goals c.args.formula.now.goals.now c.args.formula.now.own.now c.args.formula.now.conflicts.now) c.in_ok-propagate_goals.ensures.runs)
    (runs_more c.args.formula.now.own.now F c.propagate_goals.new.trail.1 c.propagate_row.new.trail.1 (whole_own c.args.formula.now.goals.now c.args.formula.now.own.now c.args.formula.now.conflicts.now) c.in_ok-propagate_row.ensures.runs))
    (runs_more (map (conflict_sentence c.args.l.class) (get_or c.args.formula.now.conflicts.now c.args.l.class [])) F c.propagate_row.new.trail.1 c.propagate_conflicts.new.trail.1 (whole_conflicts c.args.formula.now.goals.now c.args.formula.now.own.now c.args.formula.now.conflicts.now c.args.l.class) (rw others at c.in_ok-propagate_conflicts.ensures.runs))

pub returns-clause-waits : goal.returns-clause-waits
returns-clause-waits c =
    let same_place = c.place.ensures in
    let lt : c.place.result < length c.args.formula.now.uses.now = search arith in
    let row : c.as_slice.result.now ≡ get_or c.args.formula.now.uses.now (flag_place c.args.l) [] = item_from c.args.formula.now.uses.now c.place.result (flag_place c.args.l) [] c.as_slice.result.now c.index-uses-place.result lt c.place.ensures c.as_slice.ensures c.index-uses-place.is in
    let lt' : c.args.l.class < length c.args.formula.now.conflicts.now = search arith in
    let others : c.as_slice-2.result.now ≡ get_or c.args.formula.now.conflicts.now c.args.l.class [] = item_from c.args.formula.now.conflicts.now c.args.l.class c.args.l.class [] c.as_slice-2.result.now c.index-conflicts-l.result lt' refl c.as_slice-2.ensures c.index-conflicts-l.is in
    mark_positive c.args.trail.now.0 c.args.formula.now.goals.now c.args.formula.now.own.now c.args.formula.now.uses.now c.args.formula.now.conflicts.now c.args.l c.args.trail.now.1 c.propagate_goals.new.trail.1 c.propagate_row.new.trail.1 c.propagate_conflicts.new.trail.1 c.as_slice.result.now c.as_slice-2.result.now c.requires.engine
    row others c.in_ok-propagate_goals.ensures.runs (rw c.if-branch.false at c.in_ok-propagate_goals.ensures.waits) c.in_ok-propagate_row.ensures.runs (rw c.if-branch-2.false at c.in_ok-propagate_row.ensures.waits)
    c.in_ok-propagate_conflicts.ensures.runs (rw c.if-branch-3.false at c.in_ok-propagate_conflicts.ensures.excluded)
