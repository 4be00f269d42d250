use Rattle.std.proofs.Common.{Some, ◌∙◌, sym}
use Rattle.row_book.specs.Book.{repository_of}
use Rattle.row_book.proofs.{BookRepositories.{book_size, sound_repository}, PartSound.{part_sound}}
use Rattle.migrate_plan.proofs.Parted.{held_made}
use Rattle.migrate_plan.proofs.parting.kernel_by.Goals as goal

pub returns-in-Some-clause-kernel : goal.returns-in-Some-clause-kernel
returns-in-Some-clause-kernel c =
    let both = c.args.both.now in
    let view = both.old.now.view.now in
    let flags = c.args.flags.now in
    let W = repository_of both.pool both.book in
    held_made view.limit view.kernel.hold W flags c.in-Some.made
    (part_sound W flags (sound_repository both.pool both.book c.requires.book.rows.is_pool c.requires.book) (c.requires.flags ∙ sym (book_size both.pool both.book)))
    (rw c.in-Some.is at c.in_ok-made.ensures.kernel)

pub returns-in-Some-clause-known : goal.returns-in-Some-clause-known
returns-in-Some-clause-known c = rw c.in-Some.is at c.in_ok-made.ensures.known

pub returns-in-Some-clause-rows : goal.returns-in-Some-clause-rows
returns-in-Some-clause-rows c = rw c.in-Some.is at c.in_ok-made.ensures.rows

pub kernel_over-requires-clause-over : goal.kernel_over-requires-clause-over
kernel_over-requires-clause-over c = rw c.in-None.is at c.in_ok-made.ensures.kernel

pub returns-in-None-clause-rows : goal.returns-in-None-clause-rows
returns-in-None-clause-rows c = c.kernel_over.ensures.rows (Some c.kernel_beside.new.base)
