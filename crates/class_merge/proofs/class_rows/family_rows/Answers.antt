use Rattle.std.proofs.{Common.{◌∙◌, [], ap, subst, sym}, lemmas.List.{get_or_default}}
use Rattle.clause_pool.specs.{Clauses.{minimal_of}, Lists.{InOrder}}
use Rattle.listed.specs.Lists.{In}
use Rattle.listed.proofs.Lists.{item_in}
use Rattle.class_merge.proofs.Made.{made_more}
use Rattle.class_merge.proofs.class_rows.family_rows.Goals as goal

pub intern_minimal-requires-clause-ascending : goal.intern_minimal-requires-clause-ascending
intern_minimal-requires-clause-ascending c = λ d i.
    c.requires.families.ascending c.family-item.result (item_in c.args.families.now c.loop-family.family-index c.family-item.result c.loop-family-test.true c.family-item.is) d (subst (λ z. In d z) c.as_slice.ensures i)

pub intern_minimal-requires-clause-in_order : goal.intern_minimal-requires-clause-in_order
intern_minimal-requires-clause-in_order c =
    subst InOrder (sym c.as_slice.ensures)
    (c.requires.families.in_order c.family-item.result (item_in c.args.families.now c.loop-family.family-index c.family-item.result c.loop-family-test.true c.family-item.is))

pub loop-family-preserved : goal.loop-family-preserved
loop-family-preserved c =
    made_more c.args.pool.now c.loop-family.pool c.intern_minimal.new.pool c.args.families.now c.loop-family.rows.items c.push.new.self.items c.loop-family.family-index c.in_ok-intern_minimal.field-0
    c.requires.pool c.loop-family.invariant c.in_ok-intern_minimal.ensures.kept c.loop-family-test.true c.in_ok-intern_minimal.ensures.of_pool
    (c.in_ok-intern_minimal.ensures.ok ∙ ap minimal_of (c.as_slice.ensures ∙ c.family-item.is ∙ sym (get_or_default c.args.families.now c.loop-family.family-index [] c.family-item.result c.loop-family-test.true)))
    c.in_ok-push.ensures.items
