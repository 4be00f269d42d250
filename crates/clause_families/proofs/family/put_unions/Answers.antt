use Rattle.std.proofs.{Common.{◌≡◌, ap, ◌∙◌, ◌+◌, sym, subst, take, List, ℕ}, lemmas.Bool.{OnFalse_at, OnTrue_at}}
use Rattle.std.specs.Option.{ForSome}
use Rattle.clause_pool.specs.Interned.{Interned, IsIdOf, Kept, OfPool, clauses_at}
use Rattle.clause_pool.proofs.Interned.{kept_along, kept_same as kept_none, clauses_kept, kept_of_pool}
use Rattle.listed.specs.Lists.{In, Ascending}
use Rattle.clause_pool.specs.{Lists.{InOrder}, Clauses.{apart_from}}
use Rattle.listed.proofs.Lists.{item_in}
use Rattle.clause_families.specs.{Branches.{TreeOf}, Families.{HasUnions, IsNeedless, IsShortest}}
use Rattle.clause_families.proofs.{Families.{At, at_item}, UnionRows.{gained_of_pool, unions_less, unions_more, unions_none}}
use Rattle.clause_families.proofs.family.put_unions.Goals as goal
use Rattle.clause_families.proofs.family.put_unions.Goals.{then-is_needed+in_ok-id+in_ok-put_in_place, else-is_needed}

pub loop-union-init : goal.loop-union-init
loop-union-init c = record {
  made = unions_none (clauses_at c.args.pool.now c.args.ids.now.items) (apart_from c.args.spent (clauses_at c.args.pool.now c.args.row.now)) c.args.unions.now c.requires.in_order;
  of_pool = c.requires.of_pool;
  stay = kept_none c.args.pool.now;
}

pub is_needed-requires-clause-row : goal.is_needed-requires-clause-row
is_needed-requires-clause-row c = kept_of_pool c.args.pool.now c.loop-union.pool c.loop-union.invariant.stay c.args.row.now c.requires.row

pub is_needed-requires-clause-in_order : goal.is_needed-requires-clause-in_order
is_needed-requires-clause-in_order c =
    subst InOrder (sym (clauses_kept c.args.pool.now c.loop-union.pool c.loop-union.invariant.stay c.args.row.now c.requires.row)) c.requires.ordered

pub is_needed-requires-clause-kept : goal.is_needed-requires-clause-kept
is_needed-requires-clause-kept c =
    subst (λ z. ForSome c.args.kept.now (λ t. TreeOf t (apart_from c.args.spent z)))
    (sym (clauses_kept c.args.pool.now c.loop-union.pool c.loop-union.invariant.stay c.args.row.now c.requires.row)) c.requires.kept

pub is_needed-requires-clause-ascending : goal.is_needed-requires-clause-ascending
is_needed-requires-clause-ascending c =
    subst Ascending (sym c.as_slice.ensures)
    (c.requires.rising c.union-item.result (item_in c.args.unions.now c.loop-union.union-index c.union-item.result c.loop-union-test.true c.union-item.is))

pub is_needed-requires-clause-apart : goal.is_needed-requires-clause-apart
is_needed-requires-clause-apart c i =
    c.requires.apart c.union-item.result (item_in c.args.unions.now c.loop-union.union-index c.union-item.result c.loop-union-test.true c.union-item.is)
    (subst (λ z. In c.args.spent z) c.as_slice.ensures i)

pub intern-requires : goal.intern-requires
intern-requires c =
    subst Ascending (sym c.as_slice-then-is_needed.ensures)
    (c.requires.rising c.union-item.result (item_in c.args.unions.now c.loop-union.union-index c.union-item.result c.loop-union-test.true c.union-item.is))

pub put_in_place-requires-clause-of_pool : goal.put_in_place-requires-clause-of_pool
put_in_place-requires-clause-of_pool c = kept_of_pool c.loop-union.pool c.intern.new.self c.in_ok-id.ensures.kept c.loop-union.ids.items c.loop-union.invariant.of_pool

pub put_in_place-requires-clause-in_order : goal.put_in_place-requires-clause-in_order
put_in_place-requires-clause-in_order c =
    subst InOrder (sym (clauses_kept c.loop-union.pool c.intern.new.self c.in_ok-id.ensures.kept c.loop-union.ids.items c.loop-union.invariant.of_pool)) c.loop-union.invariant.made.order

pub returns-in_err-put_in_place-clause-kept : goal.returns-in_err-put_in_place-clause-kept
returns-in_err-put_in_place-clause-kept c = kept_along c.args.pool.now c.loop-union.pool c.intern.new.self c.loop-union.invariant.stay c.in_ok-id.ensures.kept

pub loop-union-preserved : goal.loop-union-preserved
loop-union-preserved c =
    let old : List (List ℕ) = clauses_at c.args.pool.now c.args.ids.now.items in
    let kept : List (List ℕ) = apart_from c.args.spent (clauses_at c.args.pool.now c.args.row.now) in
    let same : clauses_at c.loop-union.pool c.args.row.now ≡ clauses_at c.args.pool.now c.args.row.now =
    clauses_kept c.args.pool.now c.loop-union.pool c.loop-union.invariant.stay c.args.row.now c.requires.row in
    let at : At c.args.unions.now c.loop-union.union-index c.as_slice.result.now =
    at_item c.args.unions.now c.loop-union.union-index c.union-item.result c.as_slice.result.now c.loop-union-test.true c.union-item.is c.as_slice.ensures in
    elim c.if-is_needed.branch [
      | then-is_needed+in_ok-id+in_ok-put_in_place w ↦
          let next : Interned = w.intern.new.self in
          let ids : List ℕ = w.put_in_place.new.ids.items in
          let there_is : IsIdOf next.clauses c.as_slice.result.now w.in_ok-id.id =
          subst (λ z. IsIdOf next.clauses z w.in_ok-id.id) (w.as_slice-then-is_needed.ensures ∙ sym c.as_slice.ensures) w.in_ok-id.ensures.ok in
          let shortest : IsShortest kept c.args.unions.now c.as_slice.result.now =
          subst (λ z. IsShortest (apart_from c.args.spent z) c.args.unions.now c.as_slice.result.now) same (OnTrue_at w.if-is_needed.true c.is_needed.ensures.needed) in
          let made : HasUnions old kept c.args.unions.now (take (c.loop-union.union-index + 1) c.args.unions.now) (clauses_at next ids) =
          unions_more old kept c.args.unions.now c.loop-union.union-index c.as_slice.result.now at c.loop-union.pool next c.loop-union.ids.items ids w.in_ok-id.id
          c.loop-union.invariant.of_pool w.in_ok-id.ensures.kept there_is w.in_ok-put_in_place.ensures.gained w.in_ok-put_in_place.ensures.in_order
          shortest c.loop-union.invariant.made in
          let of_pool : OfPool next ids =
          gained_of_pool next c.loop-union.ids.items ids w.in_ok-id.id (kept_of_pool c.loop-union.pool next w.in_ok-id.ensures.kept c.loop-union.ids.items c.loop-union.invariant.of_pool)
          w.in_ok-id.ensures.ok.within w.in_ok-put_in_place.ensures.gained in
          subst (λ p. record {
            made : HasUnions old kept c.args.unions.now (take (c.loop-union.union-index + 1) c.args.unions.now) (clauses_at p c.if-is_needed.ids.items);
            of_pool : OfPool p c.if-is_needed.ids.items;
            stay : Kept c.args.pool.now p;
          }) (sym w.pool-is) (record {
            made = subst (λ z. HasUnions old kept c.args.unions.now (take (c.loop-union.union-index + 1) c.args.unions.now) (clauses_at next z)) (sym (ap (λ z. z.items) w.ids-is)) made;
            of_pool = subst (λ z. OfPool next z) (sym (ap (λ z. z.items) w.ids-is)) of_pool;
            stay = kept_along c.args.pool.now c.loop-union.pool next c.loop-union.invariant.stay w.in_ok-id.ensures.kept;
          })
      | else-is_needed w ↦
          let needless : IsNeedless kept c.args.unions.now c.as_slice.result.now =
          subst (λ z. IsNeedless (apart_from c.args.spent z) c.args.unions.now c.as_slice.result.now) same (OnFalse_at w.if-is_needed.false c.is_needed.ensures.needless) in
          subst (λ p. record {
            made : HasUnions old kept c.args.unions.now (take (c.loop-union.union-index + 1) c.args.unions.now) (clauses_at p c.if-is_needed.ids.items);
            of_pool : OfPool p c.if-is_needed.ids.items;
            stay : Kept c.args.pool.now p;
          }) (sym w.pool-is) (record {
            made = subst (λ z. HasUnions old kept c.args.unions.now (take (c.loop-union.union-index + 1) c.args.unions.now) (clauses_at c.loop-union.pool z)) (sym (ap (λ z. z.items) w.ids-is))
                (unions_less old kept c.args.unions.now c.loop-union.union-index c.as_slice.result.now at (clauses_at c.loop-union.pool c.loop-union.ids.items) needless c.loop-union.invariant.made);
            of_pool = subst (λ z. OfPool c.loop-union.pool z) (sym (ap (λ z. z.items) w.ids-is)) c.loop-union.invariant.of_pool;
            stay = c.loop-union.invariant.stay;
          })
    ]
