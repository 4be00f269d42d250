use Rattle.std.proofs.Common.{◌<◌, ◌∙◌, filter, subst, sym}
use Rattle.clause_pool.specs.Interned.{clause_at}
use Rattle.listed.specs.Lists.{In}
use Rattle.listed.proofs.Lists.{In_map, item_in}
use Rattle.row_book.specs.Flags.{flag}
use Rattle.suite_part.specs.Bases.{Flags}
use Rattle.suite_part.proofs.Needs.{flags_join, row_next}
use Rattle.suite_part.proofs.small.need_members.Goals as goal

pub slice-requires : goal.slice-requires
slice-requires c = c.requires.row c.id-item.result (item_in c.args.row.now c.loop-id.id-index c.id-item.result c.loop-id-test.true c.id-item.is)

pub need_each-requires-clause-numbers : goal.need_each-requires-clause-numbers
need_each-requires-clause-numbers c = λ n i.
    subst (λ z. n < z) (sym c.loop-id.invariant.flags.size)
    (c.requires.numbers (clause_at c.args.from.now c.id-item.result)
    (In_map (clause_at c.args.from.now) c.args.row.now c.id-item.result (item_in c.args.row.now c.loop-id.id-index c.id-item.result c.loop-id-test.true c.id-item.is)) n (subst (λ z. In n z) c.slice.ensures.lent i))

pub need_each-requires-clause-size : goal.need_each-requires-clause-size
need_each-requires-clause-size c = c.requires.size ∙ sym c.loop-id.invariant.flags.size

pub loop-id-preserved : goal.loop-id-preserved
loop-id-preserved c =
    let flags = c.args.flags.now in
    let row = c.args.row.now in
    let from = c.args.from.now in
    let i = c.loop-id.id-index in
    let id = c.id-item.result in
    let one = subst (λ z. Flags (filter (flag flags) z) c.loop-id.needed c.loop-id.work.items c.need_each.new.needed c.need_each.new.work.items) c.slice.ensures.lent c.in_ok-need_each.ensures.flags in
    record {
      flags = subst (λ ps. Flags ps c.args.needed.now c.args.work.now.items c.need_each.new.needed c.need_each.new.work.items) (sym (row_next flags from row i id c.loop-id-test.true c.id-item.is))
          (flags_join _ _ c.args.needed.now c.loop-id.needed c.need_each.new.needed c.args.work.now.items c.loop-id.work.items c.need_each.new.work.items c.loop-id.invariant.flags one);
      count = c.in_ok-need_each.ensures.count ∙ c.loop-id.invariant.count;
    }
