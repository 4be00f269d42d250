use Rattle.std.proofs.{Common.{◌≡◌, ◌∙◌, ap, get_or, subst, sym, map}, lemmas.List.{get_or_read, take_all}}
use Rattle.clause_pool.specs.{Lists.{In}, Interned.{row_at}}
use Rattle.clause_pool.proofs.{Carried.{carried_more, carried_none, none_known}, Interned.{kept_along}, Lists.{In_at}}
use Rattle.clause_pool.proofs.interning.Pool.carry_rows.Goals as goal

pub loop-row-init : goal.loop-row-init
loop-row-init c = record {
  carried = carried_none c.args.from.now c.args.self.now c.args.rows.now c.in_ok-made.made.items c.in_ok-made.ensures.items c.allocator-alloc.ensures;
  size = c.in_ok-known.ensures.size ∙ c.row_count.ensures.count;
  known = none_known c.in_ok-known.known.items c.args.from.now c.args.self.now c.in_ok-known.ensures.none;
}

pub carry_once-requires-clause-row : goal.carry_once-requires-clause-row
carry_once-requires-clause-row c =
    let e : c.row-item.result ≡ get_or c.args.rows.now c.loop-row.row-index 0 = get_or_read c.args.rows.now c.loop-row.row-index c.row-item.result c.loop-row-test.true c.row-item.is 0 in
    c.requires c.row-item.result (subst (λ x. In x c.args.rows.now) (sym e) (In_at c.args.rows.now c.loop-row.row-index 0 c.loop-row-test.true))

pub returns-in_err-carried-clause-kept : goal.returns-in_err-carried-clause-kept
returns-in_err-carried-clause-kept c = kept_along c.args.self.now c.loop-row.self c.carry_once.new.into c.loop-row.invariant.carried.kept c.carry_once.ensures.kept

pub returns-in_err-push-clause-kept : goal.returns-in_err-push-clause-kept
returns-in_err-push-clause-kept c = kept_along c.args.self.now c.loop-row.self c.carry_once.new.into c.loop-row.invariant.carried.kept c.carry_once.ensures.kept

pub loop-row-preserved : goal.loop-row-preserved
loop-row-preserved c = record {
  carried = carried_more c.args.from.now c.args.self.now c.loop-row.self c.args.rows.now c.loop-row.made.items c.loop-row.row-index c.loop-row.invariant.carried
      c.carry_once.new.into c.row-item.result c.in_ok-carried.carried c.push.new.self.items c.loop-row-test.true c.row-item.is
      c.in_ok-carried.ensures.ok c.in_ok-carried.ensures.rows c.in_ok-carried.ensures.clauses c.in_ok-carried.ensures.kept c.in_ok-carried.ensures.sound c.in_ok-push.ensures.items;
  size = c.carry_once.ensures.size ∙ c.loop-row.invariant.size;
  known = c.in_ok-carried.ensures.known;
}

pub returns-clause-same : goal.returns-clause-same
returns-clause-same c =
    c.loop-row.invariant.carried.same ∙ ap (map (row_at c.args.from.now)) (take_all c.loop-row.row-index c.args.rows.now c.loop-row-test.false)
