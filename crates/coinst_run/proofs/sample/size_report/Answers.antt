use Rattle.std.proofs.Common.{◌∙◌, ap}
use Rattle.coinst_run.specs.Sample.{size_report}
use Rattle.coinst_run.proofs.{Kernels.{view_kernel}, Sizes.{size_told}}
use Rattle.coinst_run.proofs.sample.size_report.Goals as goal

pub returns-clause-line : goal.returns-clause-line
returns-clause-line c =
    let v = c.args.view.now in
    size_told v.suite.packages v.pool v.kernel c.from.result c.from-2.result c.in-Some.clauses c.in-Some-conflict_count.conflicts c.in_ok-size_line.field-0.items
    (c.from.ensures ∙ c.count.ensures) (c.from-2.ensures ∙ c.size.ensures) c.in-Some.ensures c.in-Some-conflict_count.ensures c.in_ok-size_line.ensures
    ∙ ap (size_report v.suite.packages) (view_kernel v)
