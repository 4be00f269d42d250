use Rattle.listed.proofs.Lists.{In_map, item_in}
use Rattle.clause_pool.specs.Interned.{clause_at}
use Rattle.clause_pool.proofs.Interned.{kept_along}
use Rattle.clause_families.proofs.Families.{of_pool_item}
use Rattle.suite_part.proofs.Backs.{back_interned}
use Rattle.suite_part.proofs.back.ids_back.Goals as goal

pub clause_back-requires-clause-id : goal.clause_back-requires-clause-id
clause_back-requires-clause-id c = of_pool_item c.args.from.now c.args.row.now c.loop-id.id-index c.id-item.result c.requires.row c.loop-id-test.true c.id-item.is

pub clause_back-requires-clause-within : goal.clause_back-requires-clause-within
clause_back-requires-clause-within c =
    c.requires.within (clause_at c.args.from.now c.id-item.result)
    (In_map (clause_at c.args.from.now) c.args.row.now c.id-item.result (item_in c.args.row.now c.loop-id.id-index c.id-item.result c.loop-id-test.true c.id-item.is))

pub returns-in_err-new-clause-kept : goal.returns-in_err-new-clause-kept
returns-in_err-new-clause-kept c = kept_along c.args.pool.now c.loop-id.pool c.clause_back.new.pool c.loop-id.invariant.made.kept c.clause_back.ensures.kept

pub returns-in_err-push-clause-kept : goal.returns-in_err-push-clause-kept
returns-in_err-push-clause-kept c = kept_along c.args.pool.now c.loop-id.pool c.clause_back.new.pool c.loop-id.invariant.made.kept c.clause_back.ensures.kept

pub loop-id-preserved : goal.loop-id-preserved
loop-id-preserved c = record {
  made = back_interned c.args.pool.now c.loop-id.pool c.clause_back.new.pool c.args.from.now c.args.numbers.now c.args.row.now c.loop-id.id-index c.id-item.result c.loop-id.ids.items c.push.new.self.items c.in_ok-new.new
      c.loop-id-test.true c.id-item.is c.loop-id.invariant.made c.clause_back.ensures.kept c.in_ok-new.ensures.is c.in_ok-push.ensures.items;
  seen = c.in_ok-new.ensures.seen;
}
