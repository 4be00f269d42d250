use Rattle.std.proofs.Common.{◌∙◌, ap, sym}
use Rattle.migrate_plan.specs.Differing.{differs}
use Rattle.migrate_plan.proofs.Passing.{named_all, named_kept, named_skip}
use Rattle.migrate_plan.proofs.differing.those_that_differ.Goals as goal

pub loop-name-preserved-then-not-differ : goal.loop-name-preserved-then-not-differ
loop-name-preserved-then-not-differ c =
    named_skip (differs c.args.old.now.packages c.args.new.now.packages) c.args.names.now c.loop-name.name-index c.name-item.result c.loop-name.made c.loop-name-test.true c.name-item.is
    (ap (differs c.args.old.now.packages c.args.new.now.packages) (sym c.as_slice.ensures) ∙ sym c.in_ok-differ.ensures ∙ c.if-not-differ.true) c.loop-name.invariant

pub loop-name-preserved : goal.loop-name-preserved
loop-name-preserved c =
    named_kept (differs c.args.old.now.packages c.args.new.now.packages) c.args.names.now c.loop-name.name-index c.name-item.result c.in_ok-copy.copy c.loop-name.made c.push.new.self c.loop-name-test.true c.name-item.is
    (c.in_ok-copy.ensures ∙ c.as_slice-in-loop-name.ensures)
    (ap (differs c.args.old.now.packages c.args.new.now.packages) (sym c.as_slice.ensures) ∙ sym c.in_ok-differ.ensures ∙ c.if-not-differ.false) c.in_ok-push.ensures.ok c.loop-name.invariant

pub returns : goal.returns
returns c = named_all (differs c.args.old.now.packages c.args.new.now.packages) c.args.names.now c.loop-name.name-index c.loop-name.made c.loop-name-test.false c.loop-name.invariant
