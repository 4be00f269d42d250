use Rattle.std.proofs.Common.{sym}
use Rattle.kernel_text.proofs.InRange.{clauses_out, range_told}
use Rattle.kernel_text.proofs.check_range.is_in_range.Goals as goal

pub returns-then-not-are_clauses_below : goal.returns-then-not-are_clauses_below
returns-then-not-are_clauses_below c t e f g = clauses_out t c.args.clauses.now c.args.classes e g (sym c.if-not-are_clauses_below.ensures)

pub returns : goal.returns
returns c t e f g = range_told t c.args.clauses.now c.args.pairs.now c.args.classes e f g (sym c.if-not-are_clauses_below.ensures) c.are_pairs_below.result c.are_pairs_below.ensures
