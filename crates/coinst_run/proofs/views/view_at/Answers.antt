use Rattle.std.proofs.{Common.{ap, subst, sym}, lemmas.Result.{IfErr-weaker, IfOk-weaker, err_from_is_err_and}}
use Rattle.repo_model.specs.Facts.{AreNamedPackages}
use Rattle.coinst_run.specs.{Course.{then_on}, Ending.{stop_ending}, Index.{Index, index_of}, Kernel.{kernel_of}}
use Rattle.coinst_run.proofs.Follows.{if_ok_both, kernel_reached, kernel_refused}
use Rattle.coinst_run.proofs.views.view_at.Goals as goal

pub returns-clause-view : goal.returns-clause-view
returns-clause-view g c =
    if_ok_both c.view_of.result (λ view made same.
    kernel_reached c.args.path.now c.args.limit c.args.hold (index_of c.in_ok-suite.suite) (index_of view.suite) c.args.shelf.now c.suite_at.new.shelf c.in_ok-suite.ensures.suite made same)
    c.view_of.ensures.kernel c.view_of.ensures.suite

pub returns-clause-named : goal.returns-clause-named
returns-clause-named g c =
    IfOk-weaker c.view_of.result _ _ (λ view same. subst AreNamedPackages (sym (ap (λ (i : Index). i.packages) same)) c.in_ok-suite.ensures.named) c.view_of.ensures.suite

pub returns-clause-stop : goal.returns-clause-stop
returns-clause-stop g c =
    IfErr-weaker c.view_of.result _ _ (λ stop is next.
    kernel_refused c.args.path.now c.args.limit c.args.hold (index_of c.in_ok-suite.suite) next (stop_ending stop) c.args.shelf.now c.suite_at.new.shelf c.in_ok-suite.ensures.suite is) c.view_of.ensures.stop

pub returns-in_err-suite-clause-stop : goal.returns-in_err-suite-clause-stop
returns-in_err-suite-clause-stop g c =
    let p = err_from_is_err_and c.from_residual.result c.from_residual.ensures.1 in rw (p.1, p.2) (λ next.
    c.in_err-suite.ensures.stop (λ index. then_on (kernel_of c.args.path.now c.args.limit c.args.hold index) (next index)))
