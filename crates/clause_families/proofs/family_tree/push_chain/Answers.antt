use Rattle.std.proofs.Common.{◌≡◌, suc, ◌∷◌, [], ◌++◌, ◌-◌, ◌∙◌, ap, append_assoc, arith, drop, drop-cons, false, get_or, sym, List, ℕ}
use Rattle.clause_families.specs.{Branches.{chain}, declared.family_tree.Node.{Node}}
use Rattle.clause_families.proofs.family_tree.push_chain.Goals as goal

pub loop-index-preserved : goal.loop-index-preserved
loop-index-preserved c =
    let number : ℕ = get_or c.args.numbers.now (c.loop-index.index - 1) 0 in
    let one : List Node = record { number = number; start = c.args.place; far = c.args.place; rank = 0; ends = false } ∷ [] in
    c.in_ok-push.ensures.items ∙ ap (λ xs. xs ++ one) c.loop-index.invariant
    ∙ append_assoc c.args.nodes.now.items (chain c.args.place c.args.place 0 (drop c.loop-index.index c.args.numbers.now)) one
    ∙ ap (λ ns. c.args.nodes.now.items ++ chain c.args.place c.args.place 0 ns)
    (sym (drop-cons c.args.numbers.now (c.loop-index.index - 1) 0 (omega arith)
    ∙ ap (λ k. number ∷ drop k c.args.numbers.now) (let e : suc (c.loop-index.index - 1) ≡ c.loop-index.index = omega arith in e)))
