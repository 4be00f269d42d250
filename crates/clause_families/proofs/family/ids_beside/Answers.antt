use Rattle.std.proofs.{Common.{◌<◌, ap, length, sym, ◌∙◌, ◌∷◌, [], subst}, lemmas.List.{map-append}}
use Rattle.clause_pool.specs.Interned.{clause_at, clauses_at, OfPool}
use Rattle.clause_families.specs.Inclusion.{stays}
use Rattle.clause_families.proofs.Families.{At, at_clause, filter_push, filter_skip, of_pool_item, of_pool_push}
use Rattle.clause_families.proofs.family.ids_beside.Goals as goal
use Rattle.clause_families.proofs.family.ids_beside.Goals.{then-stays+in_ok-push, else-stays}

pub slice-requires : goal.slice-requires
slice-requires c = of_pool_item c.args.pool.now c.args.row.now c.loop-id.id-index c.id-item.result c.requires.row c.loop-id-test.true c.id-item.is

pub loop-id-preserved : goal.loop-id-preserved
loop-id-preserved c =
    let at : At (clauses_at c.args.pool.now c.args.row.now) c.loop-id.id-index c.slice.result.now =
    at_clause c.args.pool.now c.args.row.now c.loop-id.id-index c.id-item.result c.slice.result.now c.loop-id-test.true c.id-item.is c.slice.ensures.lent in
    let in_pool : c.id-item.result < length c.args.pool.now.clauses =
    of_pool_item c.args.pool.now c.args.row.now c.loop-id.id-index c.id-item.result c.requires.row c.loop-id-test.true c.id-item.is in
    elim c.if-stays.branch [
      | then-stays+in_ok-push w ↦
          record {
            made = filter_push (stays c.args.number c.args.unions.now) (clauses_at c.args.pool.now c.args.row.now) c.loop-id.id-index c.slice.result.now (clause_at c.args.pool.now c.id-item.result)
                (clauses_at c.args.pool.now c.loop-id.ids.items) (clauses_at c.args.pool.now c.if-stays.ids.items)
                at (sym c.stays.ensures ∙ w.if-stays.true) c.loop-id.invariant.made (sym c.slice.ensures.lent)
                (ap (λ z. clauses_at c.args.pool.now z.items) w.ids-is ∙ ap (clauses_at c.args.pool.now) w.in_ok-push.ensures.items ∙ map-append (clause_at c.args.pool.now) c.loop-id.ids.items (c.id-item.result ∷ []));
            of_pool = of_pool_push c.args.pool.now c.loop-id.ids.items c.if-stays.ids.items c.id-item.result c.loop-id.invariant.of_pool in_pool (ap (λ z. z.items) w.ids-is ∙ w.in_ok-push.ensures.items);
          }
      | else-stays w ↦
          record {
            made = filter_skip (stays c.args.number c.args.unions.now) (clauses_at c.args.pool.now c.args.row.now) c.loop-id.id-index c.slice.result.now
                (clauses_at c.args.pool.now c.loop-id.ids.items) (clauses_at c.args.pool.now c.if-stays.ids.items)
                at (sym c.stays.ensures ∙ w.if-stays.false) c.loop-id.invariant.made
                (ap (λ z. clauses_at c.args.pool.now z.items) w.ids-is);
            of_pool = subst (λ z. OfPool c.args.pool.now z) (sym (ap (λ z. z.items) w.ids-is)) c.loop-id.invariant.of_pool;
          }
    ]
