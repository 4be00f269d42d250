use Rattle.std.proofs.Common.{◌≡◌, ◌<◌, ◌≤◌, subst, sym}
use Rattle.repo_model.specs.Limits.{most_packages}
use Rattle.suite_compare.specs.declared.view.SuiteView.{SuiteView}
use Rattle.migrate_plan.specs.{Differing.{differing}, Refusals.{packages_with}}
use Rattle.migrate_plan.proofs.making.lines_of.Goals as goal

pub lines_by_side-lines-requires-clause-names : goal.lines_by_side-lines-requires-clause-names
lines_by_side-lines-requires-clause-names c =
    subst (λ (view : SuiteView). c.args.names.now ≡ differing view.suite.packages c.args.new.now.packages) (sym c.in_ok-side.ensures.view) c.requires.names

pub lines_by_side-lines-requires-clause-few : goal.lines_by_side-lines-requires-clause-few
lines_by_side-lines-requires-clause-few c =
    subst (λ (view : SuiteView). packages_with view.suite.packages c.args.new.now.packages c.args.names.now ≤ most_packages) (sym c.in_ok-side.ensures.view) c.requires.few

pub lines_by_side-lines-requires-clause-limit : goal.lines_by_side-lines-requires-clause-limit
lines_by_side-lines-requires-clause-limit c = subst (λ (view : SuiteView). 0 < view.limit) (sym c.in_ok-side.ensures.view) c.requires.limit

pub returns : goal.returns
returns c = rw (c.in_ok-side.ensures.view, c.in_ok-side.ensures.budget) at c.lines_by_side-lines.ensures
