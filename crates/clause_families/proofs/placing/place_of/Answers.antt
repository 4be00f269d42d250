use Rattle.std.proofs.{Common.{◌≡◌, ◌+◌, ◌-◌, ◌/◌, ◌∙◌, ap, sym, arith, get_or, ℕ}, lemmas.List.{get_or_read}}
use Rattle.clause_pool.specs.{Interned.{clause_at}, Clauses.{comes_before}}
use Rattle.listed.proofs.Lists.{item_in}
use Rattle.clause_families.proofs.Gainings.{before_up_to, behind_from}
use Rattle.clause_families.proofs.placing.place_of.Goals as goal
use Rattle.clause_families.proofs.placing.place_of.Goals.{After-is_before}

pub slice-requires : goal.slice-requires
slice-requires c =
    let middle : ℕ = c.halving.low + (c.halving.high - c.halving.low) / 2 in
    c.requires.of_pool c.index-ids-middle.result (item_in c.args.ids.now middle c.index-ids-middle.result (omega arith) c.index-ids-middle.is)

-- what the comparison told is of the clause in the middle
told : (c : After-is_before) → c.is_before.result ≡ comes_before (clause_at c.args.pool.now (get_or c.args.ids.now (c.halving.low + (c.halving.high - c.halving.low) / 2) 0)) c.args.clause.now
told c =
    let middle : ℕ = c.halving.low + (c.halving.high - c.halving.low) / 2 in
    c.is_before.ensures ∙ ap (λ z. comes_before z c.args.clause.now)
    (c.slice.ensures.lent ∙ ap (clause_at c.args.pool.now) (get_or_read c.args.ids.now middle c.index-ids-middle.result (omega arith) c.index-ids-middle.is 0))

pub halving-preserved-then-is_before : goal.halving-preserved-then-is_before
halving-preserved-then-is_before c =
    let middle : ℕ = c.halving.low + (c.halving.high - c.halving.low) / 2 in
    record {
      between = omega arith;
      within = c.halving.invariant.within;
      before = before_up_to c.args.pool.now c.args.ids.now c.requires.in_order c.args.clause.now middle (omega arith)
          (sym (told (goal.at.halving-preserved-then-is_before c).After-is_before) ∙ c.if-is_before.true);
      behind = c.halving.invariant.behind;
    }

pub halving-preserved : goal.halving-preserved
halving-preserved c =
    let middle : ℕ = c.halving.low + (c.halving.high - c.halving.low) / 2 in
    record {
      between = omega arith;
      within = omega arith;
      before = c.halving.invariant.before;
      behind = behind_from c.args.pool.now c.args.ids.now c.requires.in_order c.args.clause.now middle
          (sym (told (goal.at.halving-preserved c).After-is_before) ∙ c.if-is_before.false);
    }
