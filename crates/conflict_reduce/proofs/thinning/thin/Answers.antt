use Rattle.std.proofs.Common.{◌∙◌, ◌↔◌, ap, ap₂, map, subst, sym}
use Rattle.clause_pool.specs.Interned.{row_at}
use Rattle.row_book.specs.{Book.{repository_of}, Repository.{Healthy}}
use Rattle.row_book.proofs.Repositories.{repository_same}
use Rattle.conflict_reduce.specs.Tests.{book_left, left_of}
use Rattle.conflict_reduce.proofs.{Passed.{thin_sound}, Thinned.{thin_keeps_lem}}
use Rattle.conflict_reduce.proofs.thinning.thin.Goals as goal

pub returns-clause-thinned : goal.returns-clause-thinned
returns-clause-thinned c =
    repository_same _ (book_left c.args.pool.now c.args.book.now c.in_ok-gone.gone.items) (ap (map (row_at c.args.pool.now)) (c.of.ensures ∙ c.in_ok-rows.ensures.items ∙ c.as_slice-3.ensures))
    (c.of-2.ensures ∙ c.in_ok-conflicts.ensures.left ∙ ap₂ left_of c.as_slice.ensures c.as_slice-2.ensures.value)
    ∙ c.in_ok-gone.ensures.thinned

pub returns-clause-sound : goal.returns-clause-sound
returns-clause-sound c = thin_sound c.args.pool.now c.args.book.now _ c.requires.rows.is_pool c.requires (c.of.ensures ∙ c.in_ok-rows.ensures.items ∙ c.as_slice-3.ensures) (returns-clause-thinned c)

pub returns-clause-keeps : goal.returns-clause-keeps
returns-clause-keeps c = λ I.
    subst (λ F. Healthy (repository_of c.args.pool.now c.args.book.now) I ↔ Healthy F I) (sym (returns-clause-thinned c)) (thin_keeps_lem (repository_of c.args.pool.now c.args.book.now) I)
