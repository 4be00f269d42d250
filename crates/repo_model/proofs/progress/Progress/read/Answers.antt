use Rattle.std.proofs.{Common.{arith}, lemmas.Result.{err_from_is_err_and}}
use Rattle.repo_model.proofs.Pieces.{part_on, part_refused}
use Rattle.repo_model.proofs.progress.Progress.read.Goals as goal

pub returns-in_err-read-clause-stands : goal.returns-in_err-read-clause-stands
returns-in_err-read-clause-stands c =
    let p = err_from_is_err_and c.from_residual.result c.from_residual.ensures.1 in
    rw (p.1, p.2) (λ text stands. part_refused c.args.self text c.args.part.now c.requires.nothing c.requires.closed stands _ c.in_err-read.ensures.refused)

pub returns-clause-stands : goal.returns-clause-stands
returns-clause-stands c = λ text stands. part_on c.args.self text c.args.part.now c.requires.nothing c.requires.closed stands _ c.requires.nothing c.in_ok-read.ensures.counted c.in_ok-read.ensures.suite
