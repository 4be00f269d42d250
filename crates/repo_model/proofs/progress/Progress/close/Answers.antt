use Rattle.std.proofs.{Common.{take, ap, ◌∙◌, arith}, lemmas.Grind.{common_steps}, lemmas.Result.{err_from_is_err_and}}
use Rattle.repo_model.proofs.{Opening.{open_same}, Standing.{closed_on, closed_refused}}
use Rattle.repo_model.proofs.progress.Progress.close.Goals as goal

pub returns-in_err-read-clause-stands : goal.returns-in_err-read-clause-stands
returns-in_err-read-clause-stands c =
    let p = err_from_is_err_and c.from_residual.result c.from_residual.ensures.1 in
    let same = c.split_at.ensures.front ∙ ap (take c.args.closed) c.deref.ensures.value in
    rw (p.1, p.2) (λ text stands.
    closed_refused c.args.self.building c.args.self.line c.args.closed text c.args.self.pending.items _ _ same c.requires.closed stands.front stands.whole stands.read
    (c.in_err-read.ensures.refused stands.front stands.read))

pub returns-clause-stands : goal.returns-clause-stands
returns-clause-stands c =
    let same = c.split_at.ensures.front ∙ ap (take c.args.closed) c.deref.ensures.value in
    λ text stands. closed_on c.args.self _ c.args.closed text _ stands same c.requires.closed (grind (arith, common_steps)) (grind (arith, common_steps)) c.in_ok-read.ensures.suite

pub returns-clause-unclosed : goal.returns-clause-unclosed
returns-clause-unclosed c = open_same _ _ c.requires.unclosed (grind (arith, common_steps))
