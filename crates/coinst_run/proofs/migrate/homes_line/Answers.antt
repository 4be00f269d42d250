use Rattle.std.proofs.{Common.{◌++◌, ap, ap₂, ◌∙◌}, lemmas.Result.{IfOk-weaker}}
use Rattle.coinst_run.specs.Lines.{about}
use Rattle.coinst_run.proofs.migrate.homes_line.Goals as goal

pub returns : goal.returns
returns c =
    IfOk-weaker c.line_about.result _ _ (λ line is.
    is ∙ ap (about c.args.new.now) (c.as_slice.ensures.value ∙ c.in_ok-extend_from_slice.ensures.items ∙ ap₂ (λ a b. a ++ b) c.in_ok-words.ensures.items c.as_bytes.ensures.value)) c.line_about.ensures
