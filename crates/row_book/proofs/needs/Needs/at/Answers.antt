use Rattle.std.proofs.Common.{◌<◌, length}
use Rattle.listed.proofs.Lists.{item_in}
use Rattle.row_book.proofs.needs.Needs.at.Goals as goal

pub returns-clause-need : goal.returns-clause-need
returns-clause-need c =
    let within : c.args.place < length c.self.inside.clauses.items = rw (← c.self.view_is) at c.requires in
    rw c.as_slice.ensures (c.self.invariant c.index.result.now (item_in c.self.inside.clauses.items c.args.place c.index.result.now within c.index.ensures))
