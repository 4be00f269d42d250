use Rattle.std.proofs.Common.{◌≡◌, ◌∙◌, ◌↔◌, ap, ap₂, arith, length, map, subst, sym}
use Rattle.row_book.specs.{Pruning.{prune}, Book.{repository_of}, Repository.{Coinst}}
use Rattle.clause_pool.specs.Interned.{row_at}
use Rattle.clause_prune.specs.Tests.{repository_in}
use Rattle.row_book.proofs.{BookRepositories.{tidy_repository}, Repositories.{repository_same}, Users.{lent_whole}}
use Rattle.clause_prune.proofs.{PassedRows.{pruned_sound, start_tidy}, Dropping.{prune_keeps_lem}}
use Rattle.clause_prune.proofs.pruning.prune.Goals as goal

-- src/pruning.rt:110:5
pub prune_rows-requires-clause-tidy : goal.prune_rows-requires-clause-tidy
prune_rows-requires-clause-tidy c =
    start_tidy c.args.pool.now c.args.book.now c.as_mut_slice.result.now c.as_slice-table.result.now c.requires.sound.rows.is_pool c.requires.sound c.requires.tidy
    (c.as_mut_slice.ensures.value ∙ c.in_ok-rows.ensures.items ∙ c.as_slice.ensures) c.as_slice-table.ensures

whole : (c : goal.After-result-1) → c.of.result ≡ c.prune_rows.new.rows
whole c =
    let size : c.in_ok-rows.rows.len ≡ length c.in_ok-rows.rows.items = omega (arith, c.in_ok-rows.rows.ok.0) in
    let kept : length c.prune_rows.new.rows ≡ length c.in_ok-rows.rows.items = c.prune_rows.auto.rows ∙ ap length c.as_mut_slice.ensures.value in
    c.of.ensures ∙ lent_whole c.in_ok-rows.rows.len c.prune_rows.new.rows c.in_ok-rows.rows.items kept size

pub returns-clause-pruned : goal.returns-clause-pruned
returns-clause-pruned c =
    let first : c.as_mut_slice.result.now ≡ c.args.book.now.rows = c.as_mut_slice.ensures.value ∙ c.in_ok-rows.ensures.items ∙ c.as_slice.ensures in
    repository_same _ (repository_in c.prune_rows.new.pool c.prune_rows.new.rows c.as_slice-table.result.now) (ap (map (row_at c.prune_rows.new.pool)) (whole c)) (c.in_ok-conflicts.ensures.conflicts ∙ sym c.as_slice-table.ensures)
    ∙ c.in_ok-prune_rows.ensures.rows ∙ ap₂ (λ x y. prune (repository_in c.args.pool.now x y)) first c.as_slice-table.ensures

-- src/pruning.rt:97:1
pub returns-clause-sound : goal.returns-clause-sound
returns-clause-sound c =
    pruned_sound c.args.pool.now c.prune_rows.new.pool c.args.book.now _ c.prune_rows.new.rows c.requires.sound.rows.is_pool (c.prune_rows.ensures.kept.sound c.requires.sound.rows.is_pool) c.requires.sound c.requires.tidy (whole c) c.in_ok-prune_rows.ensures.of_pool
    (returns-clause-pruned c)

pub returns-clause-keeps : goal.returns-clause-keeps
returns-clause-keeps c = λ S.
    subst (λ F. Coinst (repository_of c.args.pool.now c.args.book.now) S ↔ Coinst F S) (sym (returns-clause-pruned c))
    (prune_keeps_lem (repository_of c.args.pool.now c.args.book.now) S (tidy_repository c.args.pool.now c.args.book.now c.requires.sound.rows.is_pool c.requires.sound c.requires.tidy))
