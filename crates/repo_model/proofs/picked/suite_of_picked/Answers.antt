use Rattle.std.proofs.{Common.{◌∙◌, ap, arith, length}, lemmas.Result.{err_from_is_err_and}}
use Rattle.relation_fields.specs.declared.packages.Home.{Home}
use Rattle.listed.proofs.Lists.{item_in}
use Rattle.repo_model.proofs.Picks.{picked_all, picked_first, picked_more, picked_past, picked_refused}
use Rattle.repo_model.proofs.picked.suite_of_picked.Goals as goal

pub loop-place-init : goal.loop-place-init
loop-place-init c = record {
  read = picked_first c.args.flags.now c.args.all.now _ _ c.new-building.ensures.packages c.new-building.ensures.home;
  few = omega (arith, ap length c.new-building.ensures.packages);
  built = c.new-building.ensures.built;
}

pub add_next-requires-clause-short : goal.add_next-requires-clause-short
add_next-requires-clause-short c = c.requires.short c.index-all-place.result (item_in c.args.all.now c.loop-place.place c.index-all-place.result c.loop-place-test.true c.index-all-place.is)

pub returns-in_err-add_next-clause-refused : goal.returns-in_err-add_next-clause-refused
returns-in_err-add_next-clause-refused c =
    let p = err_from_is_err_and c.from_residual.result c.from_residual.ensures.1 in
    rw (p.1, p.2) (picked_refused c.args.flags.now c.args.all.now c.loop-place.place c.index-all-place.result c.requires.many c.loop-place-test.true c.index-all-place.is c.loop-place.invariant.read c.if-not-is_picked.false
    c.in_err-add_next.field-0.0 c.in_err-add_next.ensures.fault)

pub loop-place-preserved : goal.loop-place-preserved
loop-place-preserved c =
    let added = c.in_ok-add_next.ensures in
    record {
      read = picked_more c.args.flags.now c.args.all.now c.loop-place.place c.index-all-place.result c.requires.many c.loop-place-test.true c.index-all-place.is c.loop-place.invariant.read c.if-not-is_picked.false _ _ added.fault.0
          added.packages added.home;
      few = added.few;
      built = added.built;
    }

pub loop-place-preserved-then-not-is_picked : goal.loop-place-preserved-then-not-is_picked
loop-place-preserved-then-not-is_picked c = record {
  read = picked_past c.args.flags.now c.args.all.now c.loop-place.place c.index-all-place.result c.requires.many c.loop-place-test.true c.index-all-place.is c.loop-place.invariant.read c.if-not-is_picked.true;
  few = c.loop-place.invariant.few;
  built = c.loop-place.invariant.built;
}

pub returns-clause-suite : goal.returns-clause-suite
returns-clause-suite c = λ text e.
    let all = picked_all c.args.flags.now c.args.all.now c.loop-place.place c.requires.many (omega (arith, c.loop-place-test.false)) c.loop-place.invariant.read text e in
    record {
      fine = all.fine;
      facts = c.into_suite.ensures.packages ∙ all.facts;
      common = ap (λ (home : Home). home.name) c.into_suite.ensures.home ∙ all.common;
    }
