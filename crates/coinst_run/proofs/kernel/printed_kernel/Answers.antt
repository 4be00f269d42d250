use Rattle.std.proofs.{Common.{◌∙◌, ap, sym}, lemmas.Result.{IfOk-weaker}}
use Rattle.coinst_run.specs.{Kernel.{printed_kernel}, IndexKernel.{index_kernel}}
use Rattle.coinst_run.proofs.Kernels.{view_fits, view_json, view_text}
use Rattle.coinst_run.proofs.kernel.printed_kernel.Goals as goal

pub kernel_json-requires-clause-each : goal.kernel_json-requires-clause-each
kernel_json-requires-clause-each c = (view_fits c.args.view.now).each

pub kernel_json-requires-clause-inside : goal.kernel_json-requires-clause-inside
kernel_json-requires-clause-inside c = (view_fits c.args.view.now).inside

pub write_kernel-requires-clause-each : goal.write_kernel-requires-clause-each
write_kernel-requires-clause-each c = (view_fits c.args.view.now).each

pub write_kernel-requires-clause-inside : goal.write_kernel-requires-clause-inside
write_kernel-requires-clause-inside c = (view_fits c.args.view.now).inside

pub returns-then-json : goal.returns-then-json
returns-then-json c =
    let v = c.args.view.now in
    IfOk-weaker c.kernel_json.result _ _ (λ text is.
    is ∙ view_json v ∙ ap (λ json. printed_kernel json v.suite.packages (index_kernel v.limit v.kernel.hold v.suite.home v.suite.packages)) (sym c.if-json.true)) c.kernel_json.ensures

pub returns : goal.returns
returns c =
    let v = c.args.view.now in
    IfOk-weaker c.write_kernel.result _ _ (λ text is.
    is ∙ view_text v ∙ ap (λ json. printed_kernel json v.suite.packages (index_kernel v.limit v.kernel.hold v.suite.home v.suite.packages)) (sym c.if-json.false)) c.write_kernel.ensures
