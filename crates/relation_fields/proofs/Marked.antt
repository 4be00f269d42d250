-- Lists that are kept once, and marks in their place.
use Rattle.std.proofs.Common.{◌≡◌, ◌<◌, ℕ, List, [], ◌∷◌, ◌++◌, Option, None, Some, map, length, get_or, refl, sym, ap, ap₂, ◌∙◌, arith}
use Rattle.std.proofs.lemmas.List.{get_or_append_left, get_or_push, get_or-map, length-map, map-append}
use Rattle.listed.specs.Lists.{In, here, there}
use Rattle.listed.proofs.Lists.{In_place}
use Rattle.relation_fields.specs.Shared.{marked, AreMarked}

module _ {A : Type 0} (distinct : List (List A)) (said : List A) where
  stays : (marks : List ℕ) → ((mark : ℕ) → In mark marks → mark < length distinct) → marked (distinct ++ said ∷ []) marks ≡ marked distinct marks
  stays [] w = refl
  stays (mark ∷ marks) w = ap₂ (λ x xs. x ∷ xs) (get_or_append_left distinct (said ∷ []) [] mark (w mark here)) (stays marks (λ other i. w other (there i)))

  -- one more list, with its mark
  pub marked_more : (marks : List ℕ) → AreMarked distinct marks → marked (distinct ++ said ∷ []) (marks ++ length distinct ∷ []) ≡ marked distinct marks ++ said ∷ []
  marked_more marks are =
      map-append (λ mark. get_or (distinct ++ said ∷ []) mark []) marks (length distinct ∷ [])
      ∙ ap₂ (λ xs ys. xs ++ ys)
      (stays marks
      (λ mark i.
      let w : (k : ℕ) × (k < length marks) × (get_or marks k 0 ≡ mark) = In_place marks mark 0 i in
      let l : get_or marks w.0 0 < length distinct = are.within w.0 w.1 in omega (arith, l, w.2)))
      (ap (λ x. x ∷ []) (get_or_push distinct said [] (length distinct) refl))

-- what stands beside a text is what it says
pub said_beside : {A B : Type 0} (says : List A → Option B) (texts : List (List A)) (said : List B) (place : ℕ) (text : List A) (one : B) → map says texts ≡ map (λ x. Some x) said → place < length texts → get_or texts place [] ≡ text
    → one ≡ get_or said place one → says text ≡ Some one
said_beside says texts said place text one e l at is =
    let n : length texts ≡ length said = sym (length-map texts says) ∙ ap length e ∙ length-map said (λ x. Some x) in
    ap says (sym at) ∙ sym (get_or-map says texts place [] None l)
    ∙ ap (λ xs. get_or xs place None) e ∙ get_or-map (λ x. Some x) said place one None (omega arith)
    ∙ ap (λ x. Some x) (sym is)
