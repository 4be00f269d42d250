use Rattle.std.proofs.Common.{subst, sym}
use Rattle.repo_model.specs.Facts.{AreNamedPackages}
use Rattle.suite_compare.proofs.Viewed.{refusal_of_index}
use Rattle.suite_compare.proofs.view.SuiteView.of.Goals as goal

pub returns-in-Err-of_suite-clause-refused : goal.returns-in-Err-of_suite-clause-refused
returns-in-Err-of_suite-clause-refused c =
    c.of_index.ensures c.args.bytes.now c.args.limit c.args.hold c.in-Ok.ensures.accepted
    (refusal_of_index c.args.bytes.now c.args.limit c.args.hold c.in-Ok.suite.home c.in-Ok.suite.packages c.in-Err-of_suite.error c.in-Ok.ensures.packages c.in-Ok.ensures.home c.in-Err-of_suite.ensures.refused)

pub returns-in-Ok-of_suite-clause-named : goal.returns-in-Ok-of_suite-clause-named
returns-in-Ok-of_suite-clause-named c = subst AreNamedPackages (sym c.in-Ok-of_suite.ensures.packages) c.in-Ok.ensures.named
