use Rattle.std.proofs.lemmas.Result.{IfOk-weaker}
use Rattle.row_book.specs.{Book.{repository_of}, Merging.{quotient}}
use Rattle.row_book.proofs.BookRepositories.{sound_repository}
use Rattle.class_merge.proofs.MergedRows.{merged_keeps}
use Rattle.class_merge.proofs.merging.merge.Goals as goal

pub returns-clause-keeps : goal.returns-clause-keeps
returns-clause-keeps c =
    let R = repository_of c.args.pool.now c.args.book.now in
    IfOk-weaker c.interned.result _ _ (λ made is. merged_keeps R _ (sound_repository c.args.pool.now c.args.book.now c.requires.rows.is_pool c.requires) is.is) (c.interned.ensures.book (quotient R) c.in_ok-made.ensures.quotient)
