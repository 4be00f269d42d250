use Rattle.std.proofs.{Common.{◌≡◌, ◌∙◌, ◌+◌, ◌-◌, List, ℕ, Option, ap, ap₂, false, get_or, length, length-drop, sym, subst, arith}, lemmas.Bool.{OnTrue_at}}
use Rattle.std.proofs.lemmas.List.{get_or_default}
use Rattle.std.specs.{List.{list_any}, Option.{option_map}}
use Rattle.listed.proofs.{Orders.{rest_ascends}, Lists.{item_in}}
use Rattle.clause_pool.specs.{Interned.{clause_at}, Within.{rest_within}}
use Rattle.listed.specs.Lists.{Ascending}
use Rattle.clause_pool.proofs.Groups.{in_part, none_further, none_within, one_within, part_deep, part_in_order}
use Rattle.clause_pool.proofs.within.+has_rest_within.Goals as goal

pub is_within-requires-clause-id : goal.is_within-requires-clause-id
is_within-requires-clause-id t c = c.requires.group c.index-group-0.result (item_in c.args.group.now 0 c.index-group-0.result (omega arith) c.index-group-0.is)

pub is_within-requires-clause-deep : goal.is_within-requires-clause-deep
is_within-requires-clause-deep t c = c.requires.deep c.index-group-0.result (item_in c.args.group.now 0 c.index-group-0.result (omega arith) c.index-group-0.is)

pub returns-then-all_below : goal.returns-then-all_below
returns-then-all_below t c =
    let head : rest_within c.args.pool.now (option_map (clause_at c.args.pool.now) c.args.but.now) c.args.depth c.args.wanted.now (get_or c.args.group.now 0 0) ≡ false =
    ap (rest_within c.args.pool.now (option_map (clause_at c.args.pool.now) c.args.but.now) c.args.depth c.args.wanted.now)
    (sym (c.index-group-0.is ∙ get_or_default c.args.group.now 0 c.index-group-0.result 0 (omega arith))) ∙ sym c.is_within.ensures ∙ c.if-is_within.false in
    sym (none_further c.args.pool.now (option_map (clause_at c.args.pool.now) c.args.but.now) c.args.depth c.args.group.now c.requires.order c.args.wanted.now
    (λ id i. c.requires.pool.ascending id (c.requires.group id i)) c.requires.wanted head
    c.loop-place.place (OnTrue_at c.if-all_below.true c.all_below.ensures) (λ k l. c.loop-place.invariant k (omega arith)))

pub has_rest_within-requires : goal.has_rest_within-requires
has_rest_within-requires t c =
    let number : ℕ = get_or c.args.wanted.now c.loop-place.place 0 in
    let part : List ℕ = c.group_of-part.result.now in
    let size : length c.numbers_behind-rest.result.now ≡ length c.args.wanted.now - (c.loop-place.place + 1) =
    ap length c.numbers_behind-rest.ensures ∙ length-drop (c.loop-place.place + 1) c.args.wanted.now in (
      omega (arith, c.decreases, size),
      (
        c.requires.pool,
        (
          λ id i. c.requires.group id (in_part c.args.pool.now c.args.depth c.args.group.now c.requires.order number part c.group_of-part.ensures id i).0,
          (
            part_deep c.args.pool.now c.args.depth c.args.group.now c.requires.order number part c.group_of-part.ensures,
            (
              part_in_order c.args.pool.now c.args.depth c.args.group.now c.requires.order number part c.group_of-part.ensures,
              (
                c.requires.but,
                (
                  subst Ascending (sym c.numbers_behind-rest.ensures) (rest_ascends (c.loop-place.place + 1) c.args.wanted.now c.requires.wanted),
                  omega (arith, c.requires.fits, size),
                ),
              ),
            ),
          ),
        ),
      ),
    )

pub returns-then-has_rest_within : goal.returns-then-has_rest_within
returns-then-has_rest_within t c =
    let but : Option (List ℕ) = option_map (clause_at c.args.pool.now) c.args.but.now in
    sym (one_within c.args.pool.now but c.args.depth c.args.group.now c.requires.order c.args.wanted.now c.loop-place.place (omega arith)
    (ap₂ (λ w g. list_any (rest_within c.args.pool.now but (c.args.depth + 1) w) g) (sym c.numbers_behind-rest.ensures) (sym c.group_of-part.ensures)
    ∙ sym c.has_rest_within.ensures ∙ c.if-has_rest_within.true))

-- neither the first clause nor one that goes on with one of the numbers is within them
pub returns : goal.returns
returns t c =
    let head : rest_within c.args.pool.now (option_map (clause_at c.args.pool.now) c.args.but.now) c.args.depth c.args.wanted.now (get_or c.args.group.now 0 0) ≡ false =
    ap (rest_within c.args.pool.now (option_map (clause_at c.args.pool.now) c.args.but.now) c.args.depth c.args.wanted.now)
    (sym (c.index-group-0.is ∙ get_or_default c.args.group.now 0 c.index-group-0.result 0 (omega arith))) ∙ sym c.is_within.ensures ∙ c.if-is_within.false in
    sym (none_within c.args.pool.now (option_map (clause_at c.args.pool.now) c.args.but.now) c.args.depth c.args.group.now c.requires.order c.args.wanted.now
    (λ id i. c.requires.pool.ascending id (c.requires.group id i)) c.requires.wanted head
    (λ k l. c.loop-place.invariant k (omega arith)))
