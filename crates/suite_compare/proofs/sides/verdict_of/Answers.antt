use Rattle.suite_compare.proofs.Judged.{single_at, singles_long}
use Rattle.suite_compare.proofs.sides.verdict_of.Goals as goal

pub verdict_at-requires : goal.verdict_at-requires
verdict_at-requires c = rw (c.place_at-kind.ensures, c.deref.ensures.value, singles_long c.args.side.now.judge c.args.side.now.singles.items c.args.side.now.told) c.requires.kind

pub returns : goal.returns
returns c = rw (c.verdict_at.ensures, c.deref.ensures.value, c.place_at-kind.ensures) (single_at c.args.side.now.judge c.args.side.now.singles.items _ c.requires.kind c.args.side.now.told)
