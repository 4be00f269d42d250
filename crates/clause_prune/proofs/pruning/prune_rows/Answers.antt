use Rattle.std.proofs.Common.{◌≡◌, ◌<◌, arith, length}
use Rattle.clause_pool.proofs.Interned.{kept_along}
use Rattle.clause_prune.specs.Tests.{repository_in}
use Rattle.clause_prune.proofs.PassedRows.{conflicts_in, passed_all, passed_more, passed_none, rows_fit}
use Rattle.clause_prune.proofs.pruning.prune_rows.Goals as goal

pub loop-number-init : goal.loop-number-init
loop-number-init c = passed_none c.args.pool.now c.args.rows.now c.args.table.now c.args.idle.now c.requires.pool c.requires.tidy c.requires.of_pool c.requires.none

pub pruned_row-requires-clause-fit : goal.pruned_row-requires-clause-fit
pruned_row-requires-clause-fit c = rows_fit c.loop-number.pool c.loop-number.rows c.args.table.now c.loop-number.invariant.sound c.loop-number.invariant.tidy c.loop-number.invariant.of_pool

pub pruned_row-requires-clause-conflicts : goal.pruned_row-requires-clause-conflicts
pruned_row-requires-clause-conflicts c = conflicts_in c.loop-number.pool c.loop-number.rows c.args.table.now c.loop-number.invariant.tidy

pub loop-number-preserved : goal.loop-number-preserved
loop-number-preserved c =
    let l : c.loop-number.number < length c.loop-number.rows = omega arith in
    passed_more (repository_in c.args.pool.now c.args.rows.now c.args.table.now) c.args.pool.now c.loop-number.pool c.pruned_row.new.pool c.loop-number.rows c.args.table.now c.loop-number.idle c.pruned_row.new.idle c.loop-number.number c.in_ok-row.row
    c.loop-number.invariant l (c.pruned_row.ensures.kept.sound c.loop-number.invariant.sound) c.pruned_row.ensures.kept c.in_ok-row.ensures.of_pool c.in_ok-row.ensures.row c.in_ok-row.ensures.idle
    (kept_along c.args.pool.now c.loop-number.pool c.pruned_row.new.pool c.loop-number.invariant.kept c.pruned_row.ensures.kept)

pub returns-clause-rows : goal.returns-clause-rows
returns-clause-rows c =
    let e : c.loop-number.number ≡ length c.loop-number.rows = omega arith in
    (passed_all (repository_in c.args.pool.now c.args.rows.now c.args.table.now) c.args.pool.now c.loop-number.pool c.loop-number.rows c.args.table.now c.loop-number.idle c.loop-number.number e c.loop-number.invariant).0

pub returns-clause-idle : goal.returns-clause-idle
returns-clause-idle c =
    let e : c.loop-number.number ≡ length c.loop-number.rows = omega arith in
    (passed_all (repository_in c.args.pool.now c.args.rows.now c.args.table.now) c.args.pool.now c.loop-number.pool c.loop-number.rows c.args.table.now c.loop-number.idle c.loop-number.number e c.loop-number.invariant).1
