use Rattle.coinst_run.specs.Compare.{newer_course}
use Rattle.coinst_run.proofs.compare.compare.Goals as goal

pub returns : goal.returns
returns g c =
    let settings = c.args.settings in
    c.in_ok-before.ensures.view (newer_course c.args.new.now settings.budget settings.clause_limit settings.hold) _ _
    (rw (c.in_ok-before.ensures.limit, c.in_ok-before.ensures.hold) at c.against_newer-report.ensures)
