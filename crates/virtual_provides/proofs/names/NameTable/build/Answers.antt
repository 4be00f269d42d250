use Rattle.std.proofs.{Common.{◌≡◌, ◌∙◌, ◌+◌, ◌++◌, ◌∷◌, [], length, take, ap, sym, subst, arith}, lemmas.List.{length-take, take_all, take_more}}
use Rattle.virtual_provides.specs.Bearers.{IsBuiltFrom}
use Rattle.virtual_provides.proofs.names.NameTable.build.Goals as goal

pub loop-number-preserved : goal.loop-number-preserved
loop-number-preserved c =
    let packages = c.args.packages.now in
    let number = c.loop-number.number in
    let facts = c.index-packages-number.result in
    let count : number ≡ length (take number packages) = omega (arith, length-take number packages, c.loop-number-test.true) in
    let more : take (number + 1) packages ≡ take number packages ++ facts ∷ [] = take_more packages number facts c.loop-number-test.true ∙ ap (λ y. take number packages ++ y ∷ []) (sym c.index-packages-number.is) in
    subst (λ xs. IsBuiltFrom xs c.put.new.self) (sym more) (c.in_ok-put.ensures (take number packages) c.loop-number.invariant count)

pub returns : goal.returns
returns c = subst (λ xs. IsBuiltFrom xs c.loop-number.table) (take_all c.loop-number.number c.args.packages.now c.loop-number-test.false) c.loop-number.invariant
