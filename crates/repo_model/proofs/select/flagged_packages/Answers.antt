use Rattle.std.proofs.Common.{arith, ap}
use Rattle.std.specs.List.{items_where_true}
use Rattle.repo_model.proofs.Selected.{chosen_all, chosen_next, left_out}
use Rattle.repo_model.proofs.select.flagged_packages.Goals as goal

pub loop-place-preserved : goal.loop-place-preserved
loop-place-preserved c =
    let flags = c.args.flags.now in
    let packages = c.args.packages.now in
    chosen_next flags packages c.loop-place.place c.index-packages-place.result c.requires c.loop-place-test.true c.index-packages-place.is c.loop-place.made c.push.new.self (items_where_true flags packages) c.in_ok-copy_of_facts.field-0
    c.if-not-is_chosen.false c.loop-place.invariant c.in_ok-push.ensures.ok c.in_ok-copy_of_facts.ensures

pub loop-place-preserved-then-not-is_chosen : goal.loop-place-preserved-then-not-is_chosen
loop-place-preserved-then-not-is_chosen c =
    let flags = c.args.flags.now in
    let packages = c.args.packages.now in
    left_out flags packages c.loop-place.place c.index-packages-place.result c.requires c.loop-place-test.true c.index-packages-place.is c.loop-place.made (items_where_true flags packages) c.if-not-is_chosen.true
    c.loop-place.invariant

pub returns : goal.returns
returns c =
    let flags = c.args.flags.now in
    let packages = c.args.packages.now in
    chosen_all flags packages c.loop-place.place c.requires (omega (arith, c.loop-place-test.false)) c.loop-place.made (items_where_true flags packages) c.loop-place.invariant
