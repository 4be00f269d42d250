use Rattle.std.proofs.Common.{◌∙◌, ap, sym}
use Rattle.std.specs.List.{list_any}
use Rattle.row_book.specs.Flags.{flag}
use Rattle.row_book.proofs.Faults.{hits_more, unhit_first}
use Rattle.listed.proofs.Lists.{In_at}
use Rattle.row_book.proofs.health.first_unhit.Goals as goal

pub slice-requires : goal.slice-requires
slice-requires c =
    rw c.index-ids-place.is (c.requires _ (In_at c.args.ids.now c.loop-place.place _ c.loop-place-test.true))

pub returns-then-not-hits_clause : goal.returns-then-not-hits_clause
returns-then-not-hits_clause c =
    unhit_first c.args.pool.now c.args.ids.now (flag c.args.chosen.now) c.loop-place.place c.index-ids-place.result c.loop-place-test.true c.index-ids-place.is
    c.loop-place.invariant (ap (list_any (flag c.args.chosen.now)) (sym c.slice.ensures.lent) ∙ sym c.if-not-hits_clause.ensures)

pub loop-place-preserved : goal.loop-place-preserved
loop-place-preserved c =
    hits_more c.args.pool.now c.args.ids.now (flag c.args.chosen.now) c.loop-place.place c.index-ids-place.result c.loop-place-test.true c.index-ids-place.is
    c.loop-place.invariant (ap (list_any (flag c.args.chosen.now)) (sym c.slice.ensures.lent) ∙ sym c.if-not-hits_clause.ensures)
