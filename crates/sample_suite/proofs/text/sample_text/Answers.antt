use Rattle.std.proofs.Common.{◌≤◌, ◌++◌, length, subst, sym, ap, ◌∙◌}
use Rattle.repo_model.specs.{FirstFault.{first_fault}, Limits.{most_bytes}}
use Rattle.sample_suite.specs.SampleText.{sample_text, stanza_text}
use Rattle.sample_suite.proofs.{Drawn.{text_begun, text_more, text_whole}, Fitting.{sample_accepted, sample_short}}
use Rattle.sample_suite.proofs.text.sample_text.Goals as goal

pub loop-number-init : goal.loop-number-init
loop-number-init c = text_begun c.args.seed c.args.count c.new-text.result.items c.new-text.ensures.items

pub loop-number-preserved : goal.loop-number-preserved
loop-number-preserved c =
    rw c.in_ok-package.ensures.state
    (text_more c.args.count c.loop-number.number c.loop-number.draws.state (sample_text c.args.seed c.args.count) c.loop-number.text.items c.push_stanza.new.out.items c.loop-number-test.true c.loop-number.invariant
    (c.in_ok-push_stanza.ensures ∙ ap (λ p. c.loop-number.text.items ++ stanza_text c.loop-number.number p) c.in_ok-package.ensures.value))

pub returns-clause-text : goal.returns-clause-text
returns-clause-text c = text_whole c.args.count c.loop-number.number c.loop-number.draws.state (sample_text c.args.seed c.args.count) c.loop-number.text.items c.loop-number-test.false c.loop-number.invariant

pub returns-clause-accepted : goal.returns-clause-accepted
returns-clause-accepted c =
    let is = text_whole c.args.count c.loop-number.number c.loop-number.draws.state (sample_text c.args.seed c.args.count) c.loop-number.text.items c.loop-number-test.false c.loop-number.invariant in
    ap first_fault is ∙ sample_accepted c.args.seed c.args.count c.requires

pub returns-clause-short : goal.returns-clause-short
returns-clause-short c =
    let is = text_whole c.args.count c.loop-number.number c.loop-number.draws.state (sample_text c.args.seed c.args.count) c.loop-number.text.items c.loop-number-test.false c.loop-number.invariant in
    subst (λ text. length text ≤ most_bytes) (sym is) (sample_short c.args.seed c.args.count c.requires)
