-- One id less among ids, where those before it move up by one place.
use Rattle.std.proofs.Common.{◌≡◌, ℕ, suc, ◌<◌, ◌+◌, ◌-◌, List, ◌++◌, length, take, drop, append_assoc, sym, ◌∙◌, ap, arith}
use Rattle.std.proofs.lemmas.List.{drop-append-le, drop-drop, drop_all, length-take-le}
use Rattle.std.specs.List.{copy_within}
use lib.Seq.{paste}

pub moved_up : (xs new : List ℕ) (g p : ℕ) → g + p < length xs → new ≡ copy_within xs g (g + p) (g + 1) → drop (g + 1) new ≡ take p (drop g xs) ++ drop (suc p) (drop g xs)
moved_up xs new g p l e =
    let size : (g + p) - g ≡ p = omega arith in
    let front : length (take (g + 1) xs) ≡ g + 1 = length-take-le (g + 1) xs (omega (arith, l)) in
    let place : g + 1 + p ≡ g + suc p = omega arith in
    ap (drop (g + 1)) (e ∙ ap (λ n. paste xs (g + 1) (drop g xs) n) size)
    ∙ ap (drop (g + 1)) (append_assoc (take (g + 1) xs) (take p (drop g xs)) (drop (g + 1 + p) xs))
    ∙ drop-append-le (g + 1) (take (g + 1) xs) (take p (drop g xs) ++ drop (g + 1 + p) xs) (omega (arith, front))
    ∙ ap (λ z. z ++ (take p (drop g xs) ++ drop (g + 1 + p) xs)) (drop_all (g + 1) (take (g + 1) xs) (omega (arith, front)))
    ∙ ap (λ z. take p (drop g xs) ++ z) (ap (λ n. drop n xs) place ∙ sym (drop-drop (suc p) g xs))
