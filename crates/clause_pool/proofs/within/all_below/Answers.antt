use Rattle.std.proofs.{Common.{◌≡◌, ◌<◌, ◌-◌, get_or, length, sym, subst, arith}, lemmas.Bool.{OnTrue_at, OnTrue_from}, lemmas.Option.{get_or_from_slice_get}}
use Rattle.listed.specs.Lists.{In}
use Rattle.clause_pool.proofs.Groups.{each_below}
use Rattle.listed.proofs.Lists.{In_at}
use Rattle.clause_pool.proofs.within.all_below.Goals as goal

pub goes_on_below-requires : goal.goes_on_below-requires
goes_on_below-requires c =
    let some : 0 < length c.args.group.now = c.in-Some.ensures.item.3.0 in
    let last : get_or c.args.group.now (length c.args.group.now - 1) 0 ≡ c.in-Some.last.now =
    get_or_from_slice_get c.args.group.now (length c.args.group.now - 1) c.in-Some.last.now 0 (sym c.in-Some.ensures.value) in
    c.requires.group c.in-Some.last.now (subst (λ z. In z c.args.group.now) last (In_at c.args.group.now (length c.args.group.now - 1) 0 (omega (arith, some))))

pub returns-in-Some : goal.returns-in-Some
returns-in-Some c =
    let some : 0 < length c.args.group.now = c.in-Some.ensures.item.3.0 in
    let last : get_or c.args.group.now (length c.args.group.now - 1) c.in-Some.last.now ≡ c.in-Some.last.now =
    get_or_from_slice_get c.args.group.now (length c.args.group.now - 1) c.in-Some.last.now c.in-Some.last.now (sym c.in-Some.ensures.value) in
    OnTrue_from c.goes_on_below.result _ (λ t.
    each_below c.args.pool.now c.args.depth c.args.group.now c.requires.order c.args.number (length c.args.group.now - 1) c.in-Some.last.now (omega (arith, some)) (sym last)
    (omega (arith, OnTrue_at t c.goes_on_below.ensures.below, c.from.ensures)))
