use Rattle.std.proofs.lemmas.Result.{err_from_is_err_and}
use Rattle.coinst_run.proofs.sample.sample.Goals as goal

pub returns-in_err-size_report : goal.returns-in_err-size_report
returns-in_err-size_report c =
    let p = err_from_is_err_and c.from_residual-in_err-size_report.result c.from_residual-in_err-size_report.ensures.1 in rw (p.1, p.2, c.in_err-size_report.ensures.stop) tt
