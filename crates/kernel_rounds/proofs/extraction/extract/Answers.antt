use Rattle.row_book.specs.Book.{repository_of}
use Rattle.row_book.proofs.BookRepositories.{sound_repository}
use Rattle.kernel_rounds.proofs.Again.{extracted_keeps, extracted_own, extracted_settled}
use Rattle.kernel_rounds.proofs.extraction.extract.Goals as goal

pub returns-clause-keeps : goal.returns-clause-keeps
returns-clause-keeps c =
    extracted_keeps c.args.limit c.args.hold (repository_of c.args.pool.now c.args.book.now) _ (sound_repository c.args.pool.now c.args.book.now c.requires.sound.rows.is_pool c.requires.sound)
    c.in_ok-made.ensures.kernel.is

pub returns-clause-settled : goal.returns-clause-settled
returns-clause-settled c =
    extracted_settled c.args.limit c.args.hold (repository_of c.args.pool.now c.args.book.now) _ (sound_repository c.args.pool.now c.args.book.now c.requires.sound.rows.is_pool c.requires.sound)
    c.in_ok-made.ensures.kernel.is

pub returns-clause-own : goal.returns-clause-own
returns-clause-own c =
    let made = c.in_ok-made.ensures.kernel in
    extracted_own c.args.limit c.args.hold (repository_of c.args.pool.now c.args.book.now) _ _ (sound_repository c.args.pool.now c.args.book.now c.requires.sound.rows.is_pool c.requires.sound)
    made.is made.held made.within
