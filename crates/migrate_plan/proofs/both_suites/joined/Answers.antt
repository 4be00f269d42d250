use Rattle.std.proofs.Common.{◌+◌, ◌++◌, ◌≤◌, ◌∙◌, ap, length, subst, sym}
use Rattle.std.specs.List.{items_where_true}
use Rattle.repo_model.specs.Limits.{most_packages}
use Rattle.migrate_plan.proofs.BothMixes.{all_chosen}
use Rattle.migrate_plan.proofs.both_suites.joined.Goals as goal

pub join-requires-clause-few : goal.join-requires-clause-few
join-requires-clause-few c =
    let all = all_chosen _ c.count.result c.args.old.now.packages (c.deref.ensures.value ∙ c.in_ok-all.ensures) c.count.ensures in
    subst (λ packages. length packages + length (items_where_true c.args.added.now c.args.new.now.packages) ≤ most_packages) (sym all) c.requires.few

pub returns-clause-packages : goal.returns-clause-packages
returns-clause-packages c =
    c.in_ok-suite.ensures.packages
    ∙ ap (λ packages. packages ++ items_where_true c.args.added.now c.args.new.now.packages) (all_chosen _ c.count.result c.args.old.now.packages (c.deref.ensures.value ∙ c.in_ok-all.ensures) c.count.ensures)
