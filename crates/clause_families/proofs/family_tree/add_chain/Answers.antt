use Rattle.std.proofs.Common.{◌≡◌, ◌++◌, ◌∷◌, ◌∙◌, ◌-◌, [], List, ap, append_assoc, arith, drop, false, length, sym, take}
use Rattle.clause_families.specs.{Branches.{chain}, declared.family_tree.Node.{Node}}
use Rattle.clause_families.proofs.{Walked.{take_front}, Grown.{turned}}
use Rattle.clause_families.proofs.family_tree.add_chain.Goals as goal

pub returns : goal.returns
returns c =
    let old : List Node = c.args.nodes.now.items in
    let tail : List Node = chain c.args.place c.args.place 0 c.in-Some.rest.now in
    let one : List Node = record { number = c.in-Some.number.now; start = c.args.place; far = c.args.far; rank = c.args.rank; ends = false } ∷ [] in
    let moved = c.len.result - c.args.place in
    let grown : c.deref_mut.result.now ≡ c.args.nodes.now.items ++ (chain c.args.place c.args.place 0 c.in-Some.rest.now ++ one) =
    c.deref_mut.ensures.value ∙ c.in_ok-push.ensures.items ∙ ap (λ xs. xs ++ one) c.in_ok-push_chain.ensures ∙ append_assoc old tail one in
    take_front c.turn_from.new.nodes (drop (length c.turn_from.new.nodes) c.push.new.self.items) c.push.new.self.len (c.turn_from.ensures.len ∙ c.deref_mut.ensures.len)
    ∙ c.turn_from.ensures.turned
    ∙ ap (λ xs. take c.args.place xs ++ (drop moved (drop c.args.place xs) ++ take moved (drop c.args.place xs))) grown
    ∙ turned old (tail ++ one) c.args.place moved c.requires.place (omega arith)
    ∙ ap (λ ns. take c.args.place c.args.nodes.now.items ++ (chain c.args.place c.args.far c.args.rank ns ++ drop c.args.place c.args.nodes.now.items)) (sym c.in-Some.ensures.cases.0)
