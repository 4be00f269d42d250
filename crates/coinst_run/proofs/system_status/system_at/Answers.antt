use Rattle.std.proofs.Common.{subst}
use Rattle.coinst_run.specs.{Ending.{Settles, ending_of}, Follows.{behind_a_text}, Index.{index_of}, SystemStatus.{system_answer}}
use Rattle.coinst_run.proofs.Follows.{settled_follows}
use Rattle.coinst_run.proofs.system_status.system_at.Goals as goal

pub returns : goal.returns
returns g c =
    let next = system_answer c.args.file.now c.args.budget c.args.view.now.limit c.args.view.now.kernel.hold (index_of c.args.view.now.suite) in
    let text = c.in_ok-text.text.items in
    let ending = ending_of c.system_report.result in
    behind_a_text c.args.file.now text next c.args.shelf.now c.text_at.new.shelf c.text_at.new.shelf ending c.in_ok-text.ensures.text
    (settled_follows (next text) ending c.text_at.new.shelf
    (subst (λ bytes. Settles (next bytes) ending) c.as_slice.ensures.value c.system_report.ensures))
