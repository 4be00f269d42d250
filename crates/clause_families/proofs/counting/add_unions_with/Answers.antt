use Rattle.std.proofs.Common.{◌∙◌, ap, refl, subst, sym}
use Rattle.listed.specs.Lists.{Ascending}
use Rattle.listed.proofs.Lists.{item_in}
use Rattle.clause_families.specs.Unions.{clause_without, union_of}
use Rattle.clause_families.proofs.Families.{At, at_item, map_push}
use Rattle.clause_families.proofs.counting.add_unions_with.Goals as goal

pub union_without-requires-clause-other : goal.union_without-requires-clause-other
union_without-requires-clause-other c =
    subst (λ z. Ascending z) (sym c.as_slice.ensures) (c.requires.rising c.other-item.result (item_in c.args.others.now c.loop-other.other-index c.other-item.result c.loop-other-test.true c.other-item.is))

pub loop-other-preserved : goal.loop-other-preserved
loop-other-preserved c =
    let at : At c.args.others.now c.loop-other.other-index c.other-item.result =
    at_item c.args.others.now c.loop-other.other-index c.other-item.result c.other-item.result c.loop-other-test.true c.other-item.is refl in
    map_push (union_of (clause_without c.args.spent c.args.clause.now)) c.args.others.now c.loop-other.other-index c.other-item.result c.in_ok-union.union
    c.args.unions.now.items c.loop-other.unions.items c.push.new.self.items at c.loop-other.invariant
    (c.in_ok-union.ensures ∙ ap (union_of (clause_without c.args.spent c.args.clause.now)) c.as_slice.ensures) c.in_ok-push.ensures.items
