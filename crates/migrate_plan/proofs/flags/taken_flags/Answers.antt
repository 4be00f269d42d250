use Rattle.std.proofs.Common.{◌∙◌, ap, false, replicate}
use Rattle.repo_model.specs.Goals.{any_version, packages_named}
use Rattle.migrate_plan.proofs.Flagged.{taken_all, taken_none, taken_step}
use Rattle.migrate_plan.proofs.flags.taken_flags.Goals as goal

pub loop-name-init : goal.loop-name-init
loop-name-init c = taken_none c.args.suite.now.packages c.in_ok-flags.flags.items (c.in_ok-flags.ensures ∙ ap (λ n. replicate n false) c.count.ensures)

pub loop-name-preserved : goal.loop-name-preserved
loop-name-preserved c =
    let packages = c.args.suite.now.packages in
    taken_step packages c.args.taken.now c.loop-name.name-index c.name-item.result c.deref.result.now c.loop-name.flags.items c.raise_all.new.flags.items c.loop-name-test.true c.name-item.is
    (c.deref.ensures.value ∙ c.in_ok-numbers.ensures ∙ ap (λ name. packages_named packages (any_version name)) c.as_slice.ensures) c.loop-name.invariant c.raise_all.ensures

pub returns : goal.returns
returns c = taken_all c.args.suite.now.packages c.args.taken.now c.loop-name.name-index c.loop-name.flags.items c.loop-name-test.false c.loop-name.invariant
