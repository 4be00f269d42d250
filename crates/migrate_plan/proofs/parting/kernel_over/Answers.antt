use Rattle.std.proofs.{Common.{None, subst, sym}, lemmas.Option.{none-some}}
use Rattle.row_book.specs.Book.{repository_of}
use Rattle.migrate_plan.specs.BothSuites.{IsKernelAt}
use Rattle.migrate_plan.proofs.parting.kernel_over.Goals as goal

pub returns-then-not-both-clause-kernel : goal.returns-then-not-both-clause-kernel
returns-then-not-both-clause-kernel c =
    let both = c.args.both.now in
    subst (λ hold. IsKernelAt both.old.now.view.now.limit hold (repository_of both.pool both.book) c.args.flags.now None) (sym c.if-not-both.true) c.requires.over

pub returns-then-not-both-clause-known : goal.returns-then-not-both-clause-known
returns-then-not-both-clause-known c = λ made is. absurd (none-some made is)

pub returns-then-not-both-clause-rows : goal.returns-then-not-both-clause-rows
returns-then-not-both-clause-rows c = λ base made is. absurd (none-some made is)

pub returns-clause-rows : goal.returns-clause-rows
returns-clause-rows c = c.kernel_alone.ensures.rows
