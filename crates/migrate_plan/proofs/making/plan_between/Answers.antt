use Rattle.std.proofs.{Common.{◌≡◌, ◌∙◌, [], None, ap, map, refl, subst, sym}, lemmas.Result.{err_from_is_err_and}}
use Rattle.repo_model.specs.Limits.{most_packages}
use Rattle.migrate_plan.specs.{Differing.{differing}, Indexes.{AreMeasured, Texts}, Plan.{plan, plan_settings}, Promises.{AreRight, TakesSafely, planned_name}}
use Rattle.migrate_plan.specs.{Refusals.{plan_refusal}, declared.refusals.PlanError.TheVariants.{Packages}}
use Rattle.migrate_plan.proofs.{Checked.{by_homes, by_length, by_names, by_packages, names_are, none_there}, Mixed.{mixes_are_indexes}}
use Rattle.migrate_plan.proofs.{Planned.{plan_is, plan_names, plan_right, plan_safe}, Refusing.{within_most}, making.plan_between.Goals.{In_ok-lines}}
use Rattle.migrate_plan.proofs.making.plan_between.Goals as goal

pub returns-in_err-check_homes-clause-refused : goal.returns-in_err-check_homes-clause-refused
returns-in_err-check_homes-clause-refused c =
    let p = err_from_is_err_and c.from_residual.result c.from_residual.ensures.1 in
    rw (p.1, p.2) (λ (texts : Texts) are. by_homes texts c.args.old.now.suite c.args.new.now c.args.lengths (differing c.args.old.now.suite.packages c.args.new.now.packages) are refl _ c.in_err-check_homes.ensures.refused)

pub returns-in_err-check_names-clause-refused : goal.returns-in_err-check_names-clause-refused
returns-in_err-check_names-clause-refused c =
    let p = err_from_is_err_and c.from_residual-in_err-check_names.result c.from_residual-in_err-check_names.ensures.1 in
    rw (p.1, p.2) (λ (texts : Texts) are. by_names texts c.args.old.now.suite c.args.new.now c.args.lengths c.as_slice-names.result.now are (c.as_slice-names.ensures ∙ c.in_ok-found.ensures) _ c.in_ok-check_homes.ensures.fine c.in_err-check_names.ensures.refused)

pub returns-in_err-check_packages-clause-refused : goal.returns-in_err-check_packages-clause-refused
returns-in_err-check_packages-clause-refused c =
    let p = err_from_is_err_and c.from_residual-in_err-check_packages.result c.from_residual-in_err-check_packages.ensures.1 in
    rw (p.1, p.2) (λ (texts : Texts) are. by_packages texts c.args.old.now.suite c.args.new.now c.args.lengths c.as_slice-names.result.now are (c.as_slice-names.ensures ∙ c.in_ok-found.ensures) _ c.in_ok-check_homes.ensures.fine c.in_ok-check_names.ensures.fine c.in_err-check_packages.ensures.refused)

pub returns-in_err-check_length-clause-refused : goal.returns-in_err-check_length-clause-refused
returns-in_err-check_length-clause-refused c =
    let p = err_from_is_err_and c.from_residual-in_err-check_length.result c.from_residual-in_err-check_length.ensures.1 in
    rw (p.1, p.2) (λ (texts : Texts) are. by_length texts c.args.old.now.suite c.args.new.now c.args.lengths c.as_slice-names.result.now are (c.as_slice-names.ensures ∙ c.in_ok-found.ensures) _ c.in_ok-check_homes.ensures.fine c.in_ok-check_names.ensures.fine c.in_ok-check_packages.ensures.fine c.in_err-check_length.ensures.refused)

pub lines_of-requires-clause-names : goal.lines_of-requires-clause-names
lines_of-requires-clause-names c = c.as_slice-names.ensures ∙ c.in_ok-found.ensures

pub lines_of-requires-clause-few : goal.lines_of-requires-clause-few
lines_of-requires-clause-few c = within_most most_packages _ Packages c.in_ok-check_packages.ensures.fine

-- no refusal of the two texts is there, and the lines are the plan of them
free : (c : In_ok-lines) (texts : Texts) → AreMeasured texts c.args.old.now.suite c.args.new.now c.args.lengths → plan_refusal texts.old texts.new ≡ None
free c texts are =
    none_there texts c.args.old.now.suite c.args.new.now c.args.lengths c.as_slice-names.result.now are (c.as_slice-names.ensures ∙ c.in_ok-found.ensures)
    c.in_ok-check_homes.ensures.fine c.in_ok-check_names.ensures.fine c.in_ok-check_packages.ensures.fine c.in_ok-check_length.ensures.fine

made : (c : In_ok-lines) (texts : Texts) → AreMeasured texts c.args.old.now.suite c.args.new.now c.args.lengths → c.in_ok-lines.lines ≡ plan (plan_settings c.args.budget c.args.old.now.limit c.args.old.now.kernel.hold) texts.old texts.new
made c texts are =
    plan_is (plan_settings c.args.budget c.args.old.now.limit c.args.old.now.kernel.hold) texts.old texts.new c.as_slice-names.result.now c.in_ok-lines.lines
    (names_are texts c.args.old.now.suite c.args.new.now c.args.lengths c.as_slice-names.result.now are (c.as_slice-names.ensures ∙ c.in_ok-found.ensures)) (c.in_ok-lines.ensures texts are.suites)

pub returns-clause-accepted : goal.returns-clause-accepted
returns-clause-accepted c = free (goal.at.returns-clause-accepted c).In_ok-lines

pub returns-clause-plan : goal.returns-clause-plan
returns-clause-plan c = made (goal.at.returns-clause-plan c).In_ok-lines

pub returns-clause-mixes : goal.returns-clause-mixes
returns-clause-mixes c = λ texts are. mixes_are_indexes texts.old texts.new are.suites.old_is.fine are.suites.new_is.fine (free (goal.at.returns-clause-mixes c).In_ok-lines texts are)

pub returns-clause-names : goal.returns-clause-names
returns-clause-names c = λ texts are.
    let settings = plan_settings c.args.budget c.args.old.now.limit c.args.old.now.kernel.hold in
    ap (map planned_name) (made (goal.at.returns-clause-names c).In_ok-lines texts are) ∙ plan_names settings texts.old texts.new

pub returns-clause-each : goal.returns-clause-each
returns-clause-each c = λ texts are.
    let settings = plan_settings c.args.budget c.args.old.now.limit c.args.old.now.kernel.hold in
    subst (AreRight settings texts.old texts.new []) (sym (made (goal.at.returns-clause-each c).In_ok-lines texts are)) (plan_right settings texts.old texts.new)

pub returns-clause-safely : goal.returns-clause-safely
returns-clause-safely c = λ texts are.
    let settings = plan_settings c.args.budget c.args.old.now.limit c.args.old.now.kernel.hold in
    subst (TakesSafely settings texts.old texts.new) (sym (made (goal.at.returns-clause-safely c).In_ok-lines texts are)) (plan_safe settings texts.old texts.new are.suites.old_is.fine are.suites.new_is.fine)
