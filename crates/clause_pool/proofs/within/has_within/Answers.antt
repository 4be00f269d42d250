use Rattle.std.proofs.Common.{◌∙◌}
use Rattle.std.specs.Option.{option_map}
use Rattle.clause_pool.specs.Interned.{clause_at}
use Rattle.clause_pool.proofs.Groups.{whole_row}
use Rattle.clause_pool.proofs.within.has_within.Goals as goal

pub returns : goal.returns
returns c = c.has_rest_within.ensures ∙ whole_row c.args.pool.now (option_map (clause_at c.args.pool.now) c.args.but.now) c.args.numbers.now c.args.row.now
