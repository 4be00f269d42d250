use Rattle.std.proofs.Common.{sym, ◌∙◌}
use Rattle.row_book.specs.Flags.{flag}
use Rattle.install_lift.proofs.Steps.{any_find, chosen_below}
use Rattle.install_lift.proofs.trimming.put_first.Goals as goal

pub unreachable-requires : goal.unreachable-requires
unreachable-requires c = any_find (flag c.args.chosen.now) c.args.clause.now c.requires.hit (sym c.first_chosen.ensures ∙ c.in-None.is)

pub bounds-set-n : goal.bounds-set-n
bounds-set-n c = chosen_below c.args.chosen.now c.args.set.now c.args.clause.now c.in-Some.n c.requires.long (sym c.first_chosen.ensures ∙ c.in-Some.is)
