use Rattle.std.proofs.Common.{◌++◌, get_or, false, ap₂, ◌∙◌}
use Rattle.explain_core.specs.declared.explanation.Clash.{Clash}
use Rattle.kernel_text.proofs.Written.{more_text}
use Rattle.repo_model.proofs.Numbers.{same_stanza}
use Rattle.listed.proofs.Lists.{In_at}
use Rattle.coinst_run.specs.ExplainText.{clash_line, clash_text}
use Rattle.coinst_run.proofs.explain_text.push_clashes.Goals as goal

-- each pair is of packages
pub bounds-packages-clash : goal.bounds-packages-clash
bounds-packages-clash c =
    let d : Clash = record { first = 0; second = 0; unsettled = false } in
    (c.requires (get_or c.args.clashes.now c.loop-clash.clash-index d) (In_at c.args.clashes.now c.loop-clash.clash-index d c.loop-clash-test.true)).0

pub bounds-packages-clash-in-loop-clash : goal.bounds-packages-clash-in-loop-clash
bounds-packages-clash-in-loop-clash c =
    let d : Clash = record { first = 0; second = 0; unsettled = false } in
    (c.requires (get_or c.args.clashes.now c.loop-clash.clash-index d) (In_at c.args.clashes.now c.loop-clash.clash-index d c.loop-clash-test.true)).1

-- one more line, of the two packages
pub loop-clash-preserved : goal.loop-clash-preserved
loop-clash-preserved c =
    let d : Clash = record { first = 0; second = 0; unsettled = false } in
    let told = get_or c.args.clashes.now c.loop-clash.clash-index d in
    let inside = c.requires told (In_at c.args.clashes.now c.loop-clash.clash-index d c.loop-clash-test.true) in
    more_text (clash_line c.args.packages.now) c.args.clashes.now c.loop-clash.clash-index d c.args.out.now.items c.loop-clash.out.items c.push_clash.new.out.items c.loop-clash-test.true c.loop-clash.invariant
    (c.in_ok-push_clash.ensures
    ∙ ap₂ (λ s t. c.loop-clash.out.items ++ clash_text told.unsettled s t)
    (same_stanza c.args.packages.now told.first c.index-packages-clash.result inside.0 c.index-packages-clash.is)
    (same_stanza c.args.packages.now told.second c.index-packages-clash-in-loop-clash.result inside.1 c.index-packages-clash-in-loop-clash.is))
