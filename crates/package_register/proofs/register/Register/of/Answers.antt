use Rattle.std.proofs.{Common.{◌≡◌, ◌∙◌, ◌+◌, ◌++◌, ◌∷◌, [], length, take, ap, sym, subst, arith}, lemmas.List.{length-take, take_all, take_more}}
use Rattle.package_register.specs.Registers.{IsRegisterOf}
use Rattle.package_register.proofs.Registered.{none_registered}
use Rattle.package_register.proofs.register.Register.of.Goals as goal

pub loop-place-init : goal.loop-place-init
loop-place-init g c = none_registered g.T.Named.name_of g.T.Named.version_of c.new-register.result

pub loop-place-preserved : goal.loop-place-preserved
loop-place-preserved g c =
    let items = c.args.items.now in
    let place = c.loop-place.place in
    let item = c.index-items-place.result in
    let count : place ≡ length (take place items) = omega (arith, length-take place items, c.loop-place-test.true) in
    let more : take (place + 1) items ≡ take place items ++ item ∷ [] = take_more items place item c.loop-place-test.true ∙ ap (λ y. take place items ++ y ∷ []) (sym c.index-items-place.is) in
    subst (λ xs. IsRegisterOf g.T.Named.name_of g.T.Named.version_of xs c.add.new.self) (sym more)
    (c.in_ok-add.ensures (take place items) c.loop-place.invariant count)

pub returns : goal.returns
returns g c =
    subst (λ xs. IsRegisterOf g.T.Named.name_of g.T.Named.version_of xs c.loop-place.register) (take_all c.loop-place.place c.args.items.now c.loop-place-test.false) c.loop-place.invariant
