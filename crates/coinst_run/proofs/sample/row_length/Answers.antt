use Rattle.std.proofs.Common.{subst, sym}
use Rattle.listed.specs.Lists.{In}
use Rattle.repo_model.proofs.Elements.{at_place}
use Rattle.coinst_run.proofs.sample.row_length.Goals as goal

pub row-requires-2 : goal.row-requires-2
row-requires-2 c = c.requires.sound.rows.of_pool c.row.result (subst (λ id. In id c.args.book.now.rows) (sym c.row.ensures) (at_place c.args.book.now.rows c.args.class 0 c.requires.inside))
