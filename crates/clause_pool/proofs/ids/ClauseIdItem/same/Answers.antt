use Rattle.std.proofs.Common.{sym, ◌∙◌}
use Rattle.std.specs.Cmp.Lexicographic.{bytes_decides}
use Rattle.clause_pool.proofs.ids.ClauseIdItem.same.Goals as goal

pub returns : goal.returns
returns c = (λ h. (bytes_decides c.args.a.now c.args.b.now).0 (sym c.eq.ensures ∙ h), λ e. c.eq.ensures ∙ (bytes_decides c.args.a.now c.args.b.now).1 e)
