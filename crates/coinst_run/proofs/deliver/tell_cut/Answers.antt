use Rattle.std.proofs.Common.{[], ◌++◌, ◌∷◌, ap₂, ◌∙◌}
use Rattle.std.specs.{Fmt.{decimal}, Prelude.{codes}}
use Rattle.coinst_run.specs.Lines.{cut_line}
use Rattle.coinst_run.proofs.Telling.{tells_same, about_path}
use Rattle.coinst_run.proofs.deliver.tell_cut.Goals as goal

pub returns : goal.returns
unfolding cut_line
returns g c =
    tells_same g.E.Sink.model c.args.err.now c.tell.new.err _ (cut_line c.args.written)
    (ap₂ (λ a b. a ++ b) c.as_slice.ensures (ap₂ (λ d t. d ++ (t ++ [])) (c.as_bytes-digits.ensures.value ∙ c.format.ensures.text) c.as_slice-2.ensures)
    ∙ about_path (codes "write failed after ") (decimal c.args.written) (codes " bytes") (10 ∷ [])) c.tell.ensures
