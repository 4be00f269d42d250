use Rattle.std.proofs.Common.{◌++◌, ◌∙◌, ◌≤◌, ap, map, subst}
use Rattle.std.specs.List.{items_where_true}
use Rattle.suite_compare.specs.Bearers.{bearers_of}
use Rattle.repo_model.specs.Limits.{most_packages}
use Rattle.migrate_plan.specs.{Mix.{is_taken}, Refusals.{packages_with}}
use Rattle.migrate_plan.proofs.{MixedFacts.{few_of_both}, Parted.{book_alike}}
use Rattle.migrate_plan.proofs.both_suites.both_suites_of.Goals as goal

pub joined-requires-clause-few : goal.joined-requires-clause-few
joined-requires-clause-few c =
    let view = c.args.old.now.view.now in
    let news = c.args.new.now.packages in
    few_of_both view.suite.packages news c.args.names.now _ c.requires.few (c.deref.ensures.value ∙ c.in_ok-added.ensures)

pub returns-clause-both : goal.returns-clause-both
returns-clause-both c =
    let olds = c.args.old.now.view.now.suite.packages in
    let news = c.args.new.now.packages in
    let made = c.in_ok-numbered.numbered in
    let packages = c.in_ok-suite.ensures.packages ∙ ap (λ flags. olds ++ items_where_true flags news) c.deref.ensures.value in
    record {
      few = subst (λ names. packages_with olds news names ≤ most_packages) c.requires.names c.requires.few;
      added_are = c.in_ok-added.ensures ∙ ap (λ names. map (λ facts. is_taken names facts.name) news) c.requires.names;
      book_is = book_alike made.pool made.book _ _ _ _ c.in_ok-suite.ensures.home packages c.in_ok-numbered.ensures.book;
      named_are = c.in_ok-numbered.ensures.named ∙ ap (λ ps. bearers_of ps c.args.old.now.names) packages;
    }
