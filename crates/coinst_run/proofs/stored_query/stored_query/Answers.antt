use Rattle.std.proofs.Common.{subst}
use Rattle.coinst_run.specs.{Ending.{Settles, ending_of}, StoredQuery.{stored_query_answer}, Follows.{behind_a_text}}
use Rattle.coinst_run.proofs.Follows.{settled_follows}
use Rattle.coinst_run.proofs.stored_query.stored_query.Goals as goal

pub returns : goal.returns
returns g c =
    let next = stored_query_answer c.args.path.now c.args.goals.now c.args.settings.budget in
    let text = c.in_ok-text.text.items in
    behind_a_text c.args.path.now text next c.args.shelf.now c.text_at.new.shelf c.text_at.new.shelf (ending_of c.stored_report.result) c.in_ok-text.ensures.text
    (settled_follows (next text) (ending_of c.stored_report.result) c.text_at.new.shelf
    (subst (λ bytes. Settles (next bytes) (ending_of c.stored_report.result)) c.as_slice.ensures.value c.stored_report.ensures))
