use Rattle.std.proofs.Common.{refl}
use Rattle.suite_part.proofs.Renewing.{base_followed}
use Rattle.suite_part.proofs.base.Base.follow.Goals as goal

pub returns-clause-base : goal.returns-clause-base
returns-clause-base c = λ from book is mix. base_followed from book c.args.self.now _ c.args.flags.items c.args.rows.items is mix refl refl refl refl refl
