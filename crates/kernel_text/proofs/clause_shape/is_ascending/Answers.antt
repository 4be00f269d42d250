use Rattle.std.proofs.{Common.{◌≡◌, ◌-◌, ◌≤◌, suc, get_or, refl, sym, subst, arith}, lemmas.Bool.{false≢true}}
use Rattle.kernel_text.proofs.Rising.{rise, fall}
use Rattle.kernel_text.proofs.clause_shape.is_ascending.Goals as goal

pub returns-then-numbers-i : goal.returns-then-numbers-i
returns-then-numbers-i c =
    let xs = c.args.numbers.now in
    let i = c.loop-i.i in
    let same : suc (i - 1) ≡ i = omega arith in
    let down : get_or xs i 0 ≤ get_or xs (i - 1) 0 = c.if-numbers-i.true in
    ((λ h. absurd (false≢true h)), (λ a. absurd (fall xs (i - 1) (omega arith) (subst (λ k. get_or xs k 0 ≤ get_or xs (i - 1) 0) (sym same) down) a)))

pub returns : goal.returns
returns c = ((λ h. rise c.args.numbers.now (λ k l. c.loop-i.invariant k (omega arith))), (λ a. refl))
