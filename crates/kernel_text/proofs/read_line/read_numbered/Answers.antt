use Rattle.std.proofs.{Common.{sym, ◌∙◌}, lemmas.Slice.Eq.{bytes_eq-Decides}}
use Rattle.kernel_text.proofs.read_line.read_numbered.Goals as goal

pub returns-then-eq : goal.returns-then-eq
returns-then-eq c = c.read_head.ensures c.args.word.now ((bytes_eq-Decides c.args.word.now c.as_slice.result.now).0 (sym c.if-eq.ensures) ∙ c.as_slice.ensures)
