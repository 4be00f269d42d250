use Rattle.std.proofs.Common.{◌∙◌, ◌++◌, ◌∷◌, [], ap}
use Rattle.listed.proofs.Lists.{In_map, item_in}
use Rattle.clause_pool.specs.Interned.{clause_at}
use Rattle.clause_pool.proofs.Interned.{kept_along}
use Rattle.clause_families.proofs.Families.{of_pool_item}
use Rattle.suite_part.proofs.Parted.{left_interned}
use Rattle.suite_part.proofs.rows.left_ids.Goals as goal

pub left_id-requires-clause-id : goal.left_id-requires-clause-id
left_id-requires-clause-id c = of_pool_item c.args.from.now c.args.row.now c.loop-id.id-index c.id-item.result c.requires.row c.loop-id-test.true c.id-item.is

pub left_id-requires-clause-numbers : goal.left_id-requires-clause-numbers
left_id-requires-clause-numbers c =
    c.requires.numbers (clause_at c.args.from.now c.id-item.result)
    (In_map (clause_at c.args.from.now) c.args.row.now c.id-item.result (item_in c.args.row.now c.loop-id.id-index c.id-item.result c.loop-id-test.true c.id-item.is))

pub returns-in_err-new-clause-kept : goal.returns-in_err-new-clause-kept
returns-in_err-new-clause-kept c = kept_along c.args.pool.now c.loop-id.pool c.left_id.new.pool c.loop-id.invariant.made.kept c.left_id.ensures.kept

pub returns-in_err-push-clause-kept : goal.returns-in_err-push-clause-kept
returns-in_err-push-clause-kept c = kept_along c.args.pool.now c.loop-id.pool c.left_id.new.pool c.loop-id.invariant.made.kept c.left_id.ensures.kept

pub loop-id-preserved : goal.loop-id-preserved
loop-id-preserved c = record {
  made = left_interned c.args.pool.now c.loop-id.pool c.left_id.new.pool c.args.from.now c.args.chosen.now.flags.items c.args.row.now c.loop-id.id-index c.id-item.result c.loop-id.left.ids.items c.push.new.self.items c.in_ok-new.new
      c.loop-id-test.true c.id-item.is c.loop-id.invariant.made c.left_id.ensures.kept c.in_ok-new.ensures.is (c.in_ok-push.ensures.items ∙ ap (λ v. v.items ++ c.in_ok-new.new ∷ []) c.left_id.ensures.ids);
  known = c.in_ok-new.ensures.known;
}
