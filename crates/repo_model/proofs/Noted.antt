-- The elements that were read are those of the packages.
use Rattle.std.proofs.Common.{◌≡◌, List, [], ◌∷◌, ◌++◌, ap, refl, sym, ◌∙◌, append_assoc}
use Rattle.std.specs.List.{flat_map}
use Rattle.relation_fields.specs.{Shared.{none_behind}, declared.packages.PackageFacts.{PackageFacts}, declared.relations.Atom.{Atom}}
use Rattle.repo_model.specs.Needs.{needs_of_all}

needs_append : (packages : List PackageFacts) (facts : PackageFacts) → needs_of_all (packages ++ facts ∷ []) ≡ needs_of_all packages ++ facts.needs
needs_append [] facts = sym (none_behind facts.needs)
needs_append (first ∷ rest) facts = ap (λ xs. first.needs ++ xs) (needs_append rest facts) ∙ sym (append_assoc first.needs (needs_of_all rest) facts.needs)

-- one more package
pub needs_more : (old new : List (List Atom)) (packages more : List PackageFacts) (facts : PackageFacts) → old ≡ needs_of_all packages → new ≡ old ++ facts.needs → more ≡ packages ++ facts ∷ [] →
    new ≡ needs_of_all more
needs_more old new packages more facts noted read pushed = read ∙ ap (λ xs. xs ++ facts.needs) noted ∙ sym (ap needs_of_all pushed ∙ needs_append packages facts)
