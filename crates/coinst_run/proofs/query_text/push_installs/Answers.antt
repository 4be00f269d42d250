use Rattle.std.proofs.Common.{◌++◌, ap, ◌∙◌}
use Rattle.repo_model.specs.Stanzas.{stanza_at}
use Rattle.repo_model.proofs.{Elements.{at_place}, Numbers.{same_stanza}}
use Rattle.kernel_text.proofs.Written.{more_text}
use Rattle.coinst_run.specs.QueryText.{install_line}
use Rattle.coinst_run.proofs.query_text.push_installs.Goals as goal

-- each number is of a package
pub bounds-packages-number : goal.bounds-packages-number
bounds-packages-number c = c.requires _ (at_place c.args.numbers.now c.loop-number.number-index 0 c.loop-number-test.true)

-- one more line, of the package with the number
pub loop-number-preserved : goal.loop-number-preserved
loop-number-preserved c =
    let inside = c.requires _ (at_place c.args.numbers.now c.loop-number.number-index 0 c.loop-number-test.true) in
    more_text (λ n. install_line (stanza_at c.args.packages.now n)) c.args.numbers.now c.loop-number.number-index 0 c.args.out.now.items c.loop-number.out.items
    c.push_install.new.out.items c.loop-number-test.true c.loop-number.invariant
    (c.in_ok-push_install.ensures ∙ ap (λ s. c.loop-number.out.items ++ install_line s) (same_stanza c.args.packages.now _ c.index-packages-number.result inside c.index-packages-number.is))
