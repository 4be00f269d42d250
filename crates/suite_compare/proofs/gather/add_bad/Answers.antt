use Rattle.std.{proofs.Common.{◌<◌, ap, get_or, subst, sym}, specs.List.{flat_map}, specs.Prelude.{is_some}}
use Rattle.listed.{specs.Lists.{In}, proofs.Lists.{In_at}}
use Rattle.clause_solver.specs.declared.outcomes.Verdict.TheVariants.{Yes}
use Rattle.suite_compare.{specs.Bad.{bad}, specs.Partners.{beside, beside_all, is_open}, proofs.Groups.{behind_more}}
use Rattle.suite_compare.proofs.gather.add_bad.Goals as goal

pub kind_pairs_with-kind_pairs-requires : goal.kind_pairs_with-kind_pairs-requires
kind_pairs_with-kind_pairs-requires c = c.requires.bad _ (In_at c.args.bad.now c.loop-entry.entry-index (bad 0 Yes) c.loop-entry-test.true)

pub add_kind_pairs-requires-clause-kind_pairs : goal.add_kind_pairs-requires-clause-kind_pairs
add_kind_pairs-requires-clause-kind_pairs c = λ i l.
    subst (λ z. get_or c.kind_pairs_with-kind_pairs.result.now i 0 < z) (sym c.requires.fits.same)
    (c.requires.fits.sorted.only (get_or c.args.bad.now c.loop-entry.entry-index (bad 0 Yes)).kind _ (subst (λ z. In (get_or c.kind_pairs_with-kind_pairs.result.now i 0) z) c.kind_pairs_with-kind_pairs.ensures (In_at c.kind_pairs_with-kind_pairs.result.now i 0 l))).0

pub loop-entry-preserved : goal.loop-entry-preserved
loop-entry-preserved c = record {
  told = behind_more (beside_all is_some c.args.old.now c.args.table.now c.args.first) c.args.bad.now c.loop-entry.entry-index (bad 0 Yes) c.args.found.now.told.items c.loop-entry.found.told.items c.add_kind_pairs.new.found.told.items _ c.loop-entry-test.true
      c.in_ok-add_kind_pairs.ensures.told c.loop-entry.invariant.told (ap (flat_map (beside is_some c.args.old.now c.args.table.now c.args.first (get_or c.args.bad.now c.loop-entry.entry-index (bad 0 Yes)).verdict)) (sym c.kind_pairs_with-kind_pairs.ensures));
  undecided = behind_more (beside_all is_open c.args.old.now c.args.table.now c.args.first) c.args.bad.now c.loop-entry.entry-index (bad 0 Yes) c.args.found.now.undecided.items c.loop-entry.found.undecided.items c.add_kind_pairs.new.found.undecided.items _ c.loop-entry-test.true
      c.in_ok-add_kind_pairs.ensures.undecided c.loop-entry.invariant.undecided (ap (flat_map (beside is_open c.args.old.now c.args.table.now c.args.first (get_or c.args.bad.now c.loop-entry.entry-index (bad 0 Yes)).verdict)) (sym c.kind_pairs_with-kind_pairs.ensures));
}
