use Rattle.std.proofs.Common.{refl}
use Rattle.suite_compare.proofs.sides.side_by.Goals as goal

pub returns : goal.returns
returns c = record {
  side_is = record {
    long = c.in_ok-kinds.ensures.long;
    within = c.in_ok-kinds.ensures.within;
    told = c.in_ok-singles.ensures;
  };
  asked = refl;
  spends = refl;
  kinds = c.in_ok-kinds.ensures;
}
