use Rattle.std.proofs.{Common.{◌≡◌, ◌-◌, ◌<◌, ◌≤◌, ◌∙◌, ℕ, drop, get_or, length, subst, take, arith}, lemmas.List.{length-drop, take_all}}
use Rattle.clause_prune.proofs.{Dropped.{none_dropped, one_dropped}, Moved.{moved_up}}
use Rattle.clause_prune.proofs.remaining.moves_up.Goals as goal

pub returns-then-place-ids-clause-left : goal.returns-then-place-ids-clause-left
returns-then-place-ids-clause-left c =
    let size : length (drop c.args.gone c.args.ids.now) ≡ length c.args.ids.now - c.args.gone = length-drop c.args.gone c.args.ids.now in
    let same : take (length c.args.ids.now - c.args.gone) (drop c.args.gone c.args.ids.now) ≡ drop c.args.gone c.args.ids.now =
    take_all (length c.args.ids.now - c.args.gone) (drop c.args.gone c.args.ids.now) (omega (arith, size)) in
    let before : (k : ℕ) → k < c.place_of-place.result → get_or (drop c.args.gone c.args.ids.now) k 0 ≡ c.args.clause → ⊥ =
    subst (λ z. (k : ℕ) → k < c.place_of-place.result → get_or z k 0 ≡ c.args.clause → ⊥) same c.place_of-place.ensures.before in
    none_dropped (drop c.args.gone c.args.ids.now) c.args.clause (λ k l. before k (omega (arith, l, size)))

pub returns-clause-left : goal.returns-clause-left
returns-clause-left c =
    let size : length (drop c.args.gone c.args.ids.now) ≡ length c.args.ids.now - c.args.gone = length-drop c.args.gone c.args.ids.now in
    let same : take (length c.args.ids.now - c.args.gone) (drop c.args.gone c.args.ids.now) ≡ drop c.args.gone c.args.ids.now =
    take_all (length c.args.ids.now - c.args.gone) (drop c.args.gone c.args.ids.now) (omega (arith, size)) in
    let before : (k : ℕ) → k < c.place_of-place.result → get_or (drop c.args.gone c.args.ids.now) k 0 ≡ c.args.clause → ⊥ =
    subst (λ z. (k : ℕ) → k < c.place_of-place.result → get_or z k 0 ≡ c.args.clause → ⊥) same c.place_of-place.ensures.before in
    let at : c.place_of-place.result < length (drop c.args.gone c.args.ids.now) → get_or (drop c.args.gone c.args.ids.now) c.place_of-place.result 0 ≡ c.args.clause =
    subst (λ z. c.place_of-place.result < length z → get_or z c.place_of-place.result 0 ≡ c.args.clause) same c.place_of-place.ensures.at in
    let within : c.place_of-place.result ≤ length (drop c.args.gone c.args.ids.now) = subst (λ z. c.place_of-place.result ≤ length z) same c.place_of-place.ensures.within in
    let inside : c.place_of-place.result < length (drop c.args.gone c.args.ids.now) = omega (arith, size, within) in
    moved_up c.args.ids.now c.copy_within.new.self c.args.gone c.place_of-place.result (omega (arith, size, inside)) c.copy_within.ensures.after
    ∙ one_dropped (drop c.args.gone c.args.ids.now) c.place_of-place.result c.args.clause c.requires.once inside before (at inside)
