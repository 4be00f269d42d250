use Rattle.std.proofs.Common.{◌+◌, ◌∙◌, ◌∷◌, ap, arith, drop, sym}
use Rattle.stanza_reader.specs.Blanking.{whole_lines}
use Rattle.stanza_reader.proofs.BlankLemmas.{whole_first}
use Rattle.stanza_reader.proofs.blanking.first_line.Goals as goal

pub returns-then-end-text-clause-lines : goal.returns-then-end-text-clause-lines
returns-then-end-text-clause-lines c =
    let n = c.line_end-end.result + 1 in
    whole_first c.args.text.now n c.requires (omega (arith, c.line_end-end.ensures.place, c.if-end-text.true)) ∙ ap (λ line. line ∷ whole_lines (drop n c.args.text.now)) (sym c.split_at.ensures.front)
    ∙ ap (λ rest. c.split_at.result.0.now ∷ whole_lines rest) (sym c.split_at.ensures.back)

pub returns-else-end-text-clause-lines : goal.returns-else-end-text-clause-lines
returns-else-end-text-clause-lines c =
    let n = c.line_end-end.result in
    whole_first c.args.text.now n c.requires (omega (arith, c.line_end-end.ensures.place, c.line_end-end.ensures.within, c.if-end-text.false)) ∙ ap (λ line. line ∷ whole_lines (drop n c.args.text.now)) (sym c.split_at-else-end-text.ensures.front)
    ∙ ap (λ rest. c.split_at-else-end-text.result.0.now ∷ whole_lines rest) (sym c.split_at-else-end-text.ensures.back)
