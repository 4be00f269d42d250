use Rattle.std.proofs.Common.{◌≡◌, ◌<◌, arith, length, subst, sym}
use Rattle.suite_compare.{specs.Partners.{new_kind}, specs.Telling.{no_partners}, proofs.Groups.{each_more, each_none}}
use Rattle.suite_compare.proofs.comparison.all_partners.Goals as goal

pub loop-kind_pair-init : goal.loop-kind_pair-init
loop-kind_pair-init c = each_none _ no_partners c.new-made.result.items c.new-made.ensures.items

pub old_kind-first-requires : goal.old_kind-first-requires
old_kind-first-requires c = subst (λ z. c.loop-kind_pair.kind_pair < z) (sym c.requires.fits.same) (omega (arith, c.len-kind_pair-end.ensures, c.args.table.now.kind_pairs.new.ok.0, c.loop-kind_pair-test.true))

pub bads_at-requires : goal.bads_at-requires
bads_at-requires c = rw c.new_kind-kind.ensures (subst (λ z. new_kind c.args.table.now c.loop-kind_pair.kind_pair < z) c.requires.count (c.requires.fits.news c.loop-kind_pair.kind_pair (omega (arith, c.len-kind_pair-end.ensures, c.args.table.now.kind_pairs.new.ok.0, c.loop-kind_pair-test.true))))

pub partners_of-requires-clause-bad : goal.partners_of-requires-clause-bad
partners_of-requires-clause-bad c = λ b i. subst (λ z. b.kind < z) (sym c.requires.count) (c.requires.bad c.new_kind-kind.result b (rw c.bads_at.ensures at i))

pub loop-kind_pair-preserved : goal.loop-kind_pair-preserved
loop-kind_pair-preserved c =
    each_more _ no_partners c.loop-kind_pair.kind_pair c.loop-kind_pair.made.items c.push.new.self.items c.in_ok-partners.partners
    c.in_ok-push.ensures.items (rw (c.old_kind-first.ensures, c.bads_at.ensures, c.new_kind-kind.ensures) at c.in_ok-partners.ensures) c.loop-kind_pair.invariant

pub returns : goal.returns
returns c =
    let e : c.loop-kind_pair.kind_pair ≡ length c.args.table.now.kind_pairs.new.items = omega (arith, c.len-kind_pair-end.ensures, c.args.table.now.kind_pairs.new.ok.0, c.loop-kind_pair-test.false, c.loop-kind_pair.auto.kind_pair-end) in
    rw e at c.loop-kind_pair.invariant
