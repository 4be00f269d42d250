use Rattle.std.proofs.{Common.{◌≡◌, ◌∙◌, ◌++◌, sym, ap}, lemmas.Bool.{eqb-true}, lemmas.List.{append-nil}}
use Rattle.deb_version.specs.Keys.{number_key}
use Rattle.deb_version.proofs.KeySteps.{part_key-empty, pushed}
use Rattle.deb_version.proofs.keys.push_part.Goals as goal

pub loop-rest-preserved : goal.loop-rest-preserved
loop-rest-preserved c =
    let number : c.number_before.result.now ≡ number_key c.loop-rest.rest.now = cc in
    pushed c.loop-rest.out.items c.loop-rest.rest.now c.front-pieces.result.plain.now c.number_before.result.now c.front-pieces.result.rest.now _ _
    c.front-pieces.ensures.plain number c.front-pieces.ensures.rest c.in_ok-extend_from_slice.ensures.items c.in_ok-extend_from_slice-2.ensures.items
    ∙ c.loop-rest.invariant

pub returns : goal.returns
returns c =
    let none = part_key-empty c.loop-rest.rest.now (eqb-true _ _ (sym c.is_empty.ensures ∙ c.loop-rest-test.false)) in
    sym (append-nil c.loop-rest.out.items) ∙ sym (ap (λ xs. c.loop-rest.out.items ++ xs) none) ∙ c.loop-rest.invariant
