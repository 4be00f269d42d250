use Rattle.std.{proofs.Common.{◌∙◌, ap, ap₂, sym}, specs.Prelude.{is_some}}
use Rattle.suite_compare.{specs.Kinds.{together_in}, specs.Partners.{beside, is_open, picked}, specs.Report.{finding}, proofs.Groups.{behind_more}}
use Rattle.suite_compare.proofs.gather.add_kind_pairs.Goals as goal

pub loop-kind_pair-preserved : goal.loop-kind_pair-preserved
loop-kind_pair-preserved c = record {
  told = behind_more (beside is_some c.args.old.now c.args.table.now c.args.first c.args.verdict) c.args.kind_pairs.now c.loop-kind_pair.kind_pair-index 0 c.args.found.now.told.items c.loop-kind_pair.found.told.items c.add_names.new.found.told.items
      (picked is_some c.in_ok-finding.finding c.names_of-names.result.now) c.loop-kind_pair-test.true c.in_ok-add_names.ensures.told c.loop-kind_pair.invariant.told
      (ap₂ (λ s m. picked is_some (finding (together_in c.args.old.now c.args.first s) c.args.verdict) m) (sym c.old_kind-second.ensures) (sym c.names_of-names.ensures) ∙ ap (λ f. picked is_some f c.names_of-names.result.now) (sym c.in_ok-finding.ensures));
  undecided = behind_more (beside is_open c.args.old.now c.args.table.now c.args.first c.args.verdict) c.args.kind_pairs.now c.loop-kind_pair.kind_pair-index 0 c.args.found.now.undecided.items c.loop-kind_pair.found.undecided.items c.add_names.new.found.undecided.items
      (picked is_open c.in_ok-finding.finding c.names_of-names.result.now) c.loop-kind_pair-test.true c.in_ok-add_names.ensures.undecided c.loop-kind_pair.invariant.undecided
      (ap₂ (λ s m. picked is_open (finding (together_in c.args.old.now c.args.first s) c.args.verdict) m) (sym c.old_kind-second.ensures) (sym c.names_of-names.ensures) ∙ ap (λ f. picked is_open f c.names_of-names.result.now) (sym c.in_ok-finding.ensures));
}
