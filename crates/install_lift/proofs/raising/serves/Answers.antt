use Rattle.std.proofs.Common.{sym, ◌∙◌}
use Rattle.row_book.specs.Flags.{flag}
use Rattle.listed.proofs.Lists.{item_in}
use Rattle.install_lift.proofs.Lowering.{not_served}
use Rattle.install_lift.proofs.raising.serves.Goals as goal

pub slice-requires : goal.slice-requires
slice-requires c = c.requires c.id-item.result (item_in c.args.ids.now c.loop-id.id-index c.id-item.result c.loop-id-test.true c.id-item.is)

pub returns-then-not-hits : goal.returns-then-not-hits
returns-then-not-hits c =
    not_served (flag c.args.set.now) (flag c.args.more.now) c.args.pool.now c.args.ids.now c.loop-id.id-index c.id-item.result c.slice.result.now c.loop-id-test.true c.id-item.is c.slice.ensures.lent
    (sym c.hits.ensures ∙ c.if-not-hits.true)
