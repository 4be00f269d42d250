use Rattle.std.proofs.Common.{[], ◌∷◌, ◌++◌, ◌∙◌, ap, refl, sym}
use Rattle.std.specs.List.{items_where_true}
use Rattle.migrate_plan.specs.{Promises.{planned_name}, BothSuites.{names_between, packages_of_both, settings_between}}
use Rattle.migrate_plan.proofs.{Made.{all_inside, behind_made}, MixedFacts.{few_flagged, few_mixed, packages_mixed}, Planned.{outcome_name}}
use Rattle.migrate_plan.proofs.BothMixes.{added_long, flags_long, kept_long, left_long, mix_in_both}
use Rattle.migrate_plan.proofs.making.try_name.Goals as goal

pub flags_in-requires : goal.flags_in-requires
flags_in-requires c =
    let both = c.args.both.now in
    let names = c.args.taken.now ++ c.args.name.now ∷ [] in
    added_long both.old.now.view.now.suite.packages both.new.now.packages (names_between both) names _ _ _
    (all_inside c.args.taken.now (names_between both) c.args.name.now c.requires.taken c.requires.name) c.in_ok-mix.ensures.left (c.deref-then-is_same_home.ensures.value ∙ c.in_ok-mix.ensures.kept) (c.deref-then-is_same_home-2.ensures.value ∙ c.requires.both.added_are)

pub line_in-requires-clause-flags : goal.line_in-requires-clause-flags
line_in-requires-clause-flags c =
    let both = c.args.both.now in
    let names = c.args.taken.now ++ c.args.name.now ∷ [] in
    flags_long both.old.now.view.now.suite.packages both.new.now.packages (names_between both) names _ _ _
    (all_inside c.args.taken.now (names_between both) c.args.name.now c.requires.taken c.requires.name) c.in_ok-mix.ensures.left c.in_ok-mix.ensures.kept c.requires.both.added_are
    _ (packages_of_both both) (rw (c.deref.ensures.value, c.deref-then-is_same_home.ensures.value, c.deref-then-is_same_home-2.ensures.value) at c.in_ok-flags.ensures) refl

pub returns-then-is_same_home-clause-named : goal.returns-then-is_same_home-clause-named
returns-then-is_same_home-clause-named c = ap planned_name c.in_ok-found.ensures.line ∙ outcome_name c.args.name.now _ _

pub returns-then-is_same_home-clause-line : goal.returns-then-is_same_home-clause-line
returns-then-is_same_home-clause-line c =
    let view = c.args.both.now.old.now.view.now in
    let both = c.args.both.now in
    let names = c.args.taken.now ++ c.args.name.now ∷ [] in
    let flags = c.in_ok-flags.flags.items in
    let packages = items_where_true flags (packages_of_both both) in
    let is = mix_in_both view.suite.packages both.new.now.packages (names_between both) names _ _ _
    (all_inside c.args.taken.now (names_between both) c.args.name.now c.requires.taken c.requires.name) c.in_ok-mix.ensures.left c.in_ok-mix.ensures.kept c.requires.both.added_are
    flags (packages_of_both both) (rw (c.deref.ensures.value, c.deref-then-is_same_home.ensures.value, c.deref-then-is_same_home-2.ensures.value) at c.in_ok-flags.ensures) refl in
    λ texts are. behind_made (settings_between c.args.both.now) texts.old texts.new c.args.name.now c.args.taken.now view.suite.home both.home view.suite.packages packages c.in_ok-found.found
    are.old_is
    (packages_mixed view.suite.packages both.new.now.packages names _ _ c.in_ok-mix.ensures.left c.in_ok-mix.ensures.kept texts.old texts.new view.suite.home.name both.new.now.home.name packages are.old_is are.new_is is)
    (sym (rw c.if-is_same_home.true at c.is_same_home.ensures) ∙ c.in_ok-mix.ensures.home texts are) c.in_ok-found.ensures.line

pub suite_of-requires-clause-left : goal.suite_of-requires-clause-left
suite_of-requires-clause-left c =
    let both = c.args.both.now in
    let names = c.args.taken.now ++ c.args.name.now ∷ [] in
    left_long both.old.now.view.now.suite.packages both.new.now.packages (names_between both) names _ _ _
    (all_inside c.args.taken.now (names_between both) c.args.name.now c.requires.taken c.requires.name) c.in_ok-mix.ensures.left c.in_ok-mix.ensures.kept c.requires.both.added_are

pub suite_of-requires-clause-kept : goal.suite_of-requires-clause-kept
suite_of-requires-clause-kept c =
    let both = c.args.both.now in
    let names = c.args.taken.now ++ c.args.name.now ∷ [] in
    kept_long both.old.now.view.now.suite.packages both.new.now.packages (names_between both) names _ _ _
    (all_inside c.args.taken.now (names_between both) c.args.name.now c.requires.taken c.requires.name) c.in_ok-mix.ensures.left c.in_ok-mix.ensures.kept c.requires.both.added_are

pub suite_of-requires-clause-few : goal.suite_of-requires-clause-few
suite_of-requires-clause-few c =
    let both = c.args.both.now in
    let olds = both.old.now.view.now.suite.packages in
    let names = c.args.taken.now ++ c.args.name.now ∷ [] in
    few_flagged olds both.new.now.packages names _ _ c.in_ok-mix.ensures.left c.in_ok-mix.ensures.kept
    (few_mixed olds both.new.now.packages names (names_between both) c.requires.both.few (all_inside c.args.taken.now (names_between both) c.args.name.now c.requires.taken c.requires.name))

pub returns-clause-named : goal.returns-clause-named
returns-clause-named c = ap planned_name c.in_ok-line.ensures ∙ outcome_name c.args.name.now _ _

pub returns-clause-line : goal.returns-clause-line
returns-clause-line c =
    let view = c.args.both.now.old.now.view.now in
    let both = c.args.both.now in
    let names = c.args.taken.now ++ c.args.name.now ∷ [] in
    let made = c.in_ok-made.made in
    λ texts are. behind_made (settings_between c.args.both.now) texts.old texts.new c.args.name.now c.args.taken.now view.suite.home made.home view.suite.packages made.packages c.in_ok-line.line
    are.old_is
    (packages_mixed view.suite.packages both.new.now.packages names _ _ c.in_ok-mix.ensures.left c.in_ok-mix.ensures.kept texts.old texts.new view.suite.home.name both.new.now.home.name made.packages are.old_is are.new_is c.in_ok-made.ensures.packages)
    (c.in_ok-made.ensures.home ∙ c.in_ok-mix.ensures.home texts are) c.in_ok-line.ensures
