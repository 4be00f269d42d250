use Rattle.std.proofs.{Common.{◌≡◌, ◌∙◌, ◌∷◌, ◌++◌, [], ap, ap₂, length, arith}, lemmas.Grind.{common_steps}}
use Rattle.relation_fields.specs.Shared.{marked}
use Rattle.relation_fields.proofs.Marked.{marked_more}
use Rattle.relation_fields.proofs.shared.SharedElements.push.Goals as goal

pub returns-clause-elements : goal.returns-clause-elements
returns-clause-elements c =
    let same = ap length c.reserve.ensures.distinct in
    let mark : c.len-mark.result ≡ length c.args.self.now.distinct.items = grind (arith, common_steps, same) in
    ap₂ (λ distinct marks. marked distinct marks) (c.in_ok-push.ensures.items ∙ ap (λ xs. xs ++ c.args.said ∷ []) c.reserve.ensures.distinct)
    (c.in_ok-push-2.ensures.items ∙ ap₂ (λ xs m. xs ++ m ∷ []) c.reserve.ensures.marks mark)
    ∙ marked_more c.args.self.now.distinct.items c.args.said c.args.self.now.marks.items c.args.self.now.marked
