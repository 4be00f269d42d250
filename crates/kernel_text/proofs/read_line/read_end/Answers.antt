use Rattle.std.proofs.{Common.{sym, ap, ◌∙◌}, lemmas.Option.{same_Some}}
use Rattle.std.specs.{Fmt.{decimal}, Option.{option_copied}}
use Rattle.kernel_text.proofs.LineWords.{no_end}
use Rattle.kernel_text.proofs.read_line.read_end.Goals as goal

pub returns-in_default-read_number : goal.returns-in_default-read_number
returns-in_default-read_number c word e =
    no_end word c.args.rest.now c.cut_at_space.result.0.now (option_copied c.cut_at_space.result.1) e c.cut_at_space.ensures (λ classes members l m f g. c.in_default-read_number.ensures classes f l)

pub returns-in_default-read_number-2 : goal.returns-in_default-read_number-2
returns-in_default-read_number-2 c word e =
    no_end word c.args.rest.now c.cut_at_space.result.0.now (option_copied c.cut_at_space.result.1) e c.cut_at_space.ensures
    (λ classes members l m f g. c.in_default-read_number-2.ensures members (same_Some c.in-Some.second.now (decimal members) (sym (ap option_copied c.in-Some.is) ∙ g)) m)
