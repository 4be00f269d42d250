use Rattle.std.proofs.{Common.{◌≡◌, ◌∙◌, ◌++◌, ◌∷◌, [], Some, ap, get_or, length, set, arith}, lemmas.Grind.{common_steps}, lemmas.List.{get_or_default}}
use Rattle.relation_fields.specs.Elements.{elements_of}
use Rattle.repo_model.proofs.Selected.{renamed_more}
use Rattle.repo_model.proofs.select.add_element.Goals as goal

pub push_again-requires : goal.push_again-requires
push_again-requires c = (c.requires.renamed.at c.args.mark c.in-Some.place c.in-Some.is).0

pub returns-clause-renamed : goal.returns-clause-renamed
returns-clause-renamed c =
    let chosen = c.args.made.now.distinct.items in
    let distinct = c.args.distinct.now in
    let is = c.in-Ok.ensures.1 in
    let count = c.len.ensures in
    let place : c.in-Ok.place ≡ length chosen = grind (arith, common_steps, is, count) in
    let said = c.in_ok-share.ensures ∙ c.index-distinct-mark.is ∙ get_or_default distinct c.args.mark c.index-distinct-mark.result [] c.requires.mark in
    renamed_more distinct chosen c.args.places.now c.args.mark c.requires.renamed c.requires.mark (set c.args.places.now c.args.mark (Some c.in-Ok.place)) c.push.new.self.distinct.items
    (ap (λ p. set c.args.places.now c.args.mark (Some p)) place) (c.in_ok-push.ensures.distinct ∙ ap (λ s. chosen ++ s ∷ []) said)

pub returns-in-Some-clause-elements : goal.returns-in-Some-clause-elements
returns-in-Some-clause-elements c =
    c.in_ok-push_again.ensures.elements ∙ ap (λ said. elements_of c.args.made.now ++ said ∷ []) (c.requires.renamed.at c.args.mark c.in-Some.place c.in-Some.is).1
