use Rattle.std.proofs.Common.{[], ◌++◌, ap₂, ◌∙◌}
use Rattle.coinst_run.specs.Lines.{unread_line}
use Rattle.coinst_run.proofs.Telling.{tells_same, about_path}
use Rattle.coinst_run.proofs.deliver.tell_unread.Goals as goal

pub returns : goal.returns
unfolding unread_line
returns g c =
    tells_same g.E.Sink.model c.args.err.now c.tell.new.err _ (unread_line c.args.path.now)
    (ap₂ (λ p t. p ++ (t ++ [])) c.as_bytes.ensures.value c.as_slice.ensures ∙ about_path c.args.path.now _ _ _) c.tell.ensures
