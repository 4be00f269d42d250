use Rattle.std.proofs.Common.{◌≡◌, eqb, not, sym, ◌∙◌, ap}
use Rattle.std.specs.Prelude.{bit_and}
use Rattle.stanza_reader.specs.Note.{mark_of}
use Rattle.stanza_reader.proofs.MarkLemmas.{mark_down}
use Rattle.stanza_reader.proofs.note.is_among.Goals as goal

pub returns-else-marks-mark_of-ne0 : goal.returns-else-marks-mark_of-ne0
returns-else-marks-mark_of-ne0 c =
    let down = c.if-marks-mark_of-ne0.false in
    let down' : bit_and c.args.marks (mark_of c.args.key) ≡ 0 = rw c.mark_of.ensures at down in
    ap (λ n. not (eqb n 0)) down ∙ sym (mark_down c.args.few.now c.args.marks c.args.key c.args.name.now c.requires.keys c.requires.marks c.requires.key down')
