use Rattle.std.proofs.{Common.{◌≡◌, suc, ◌∷◌, ◌-◌, ◌∙◌, ap₂, arith, drop, drop-cons, length, refl, subst, sym}, lemmas.List.{drop_all}}
use Rattle.clause_families.specs.Branches.{BuiltOf}
use Rattle.clause_families.proofs.Built.{built_none}
use Rattle.clause_families.proofs.family_tree.FamilyTree.of.Goals as goal

pub loop-place-init : goal.loop-place-init
loop-place-init c =
    built_none _ (drop (length c.args.family.now) c.args.family.now) (drop_all (length c.args.family.now) c.args.family.now (omega arith)) c.in_ok-with_capacity.ensures.items refl

pub loop-place-preserved : goal.loop-place-preserved
loop-place-preserved c =
    subst (λ z. BuiltOf c.put.new.self z)
    (sym (drop-cons c.args.family.now (c.loop-place.place - 1) c.index-family-place.result (omega arith)
    ∙ ap₂ (λ x k. x ∷ drop k c.args.family.now) (sym (c.as_slice.ensures ∙ c.index-family-place.is)) (let e : suc (c.loop-place.place - 1) ≡ c.loop-place.place = omega arith in e)))
    (c.in_ok-put.ensures (drop c.loop-place.place c.args.family.now) c.loop-place.invariant)
