-- The sentences of conflicts, as they are made.
use Rattle.std.proofs.{Common.{◌≡◌, ℕ, ◌+◌, ◌<◌, List, [], ◌∷◌, ◌++◌, length, get_or, take, ap, sym, ◌∙◌, arith, append_assoc}, lemmas.List.{take_more}}
use Rattle.std.specs.Prelude.{map}
use Rattle.search_terms.specs.{declared.literals.Literal.{Literal}, Form.{conflict_sentence, owned_sentences}}
use Rattle.search_terms.proofs.Building.{owned_sentences_snoc, length_taken}

pub pairs_more : (conflicts : List (List ℕ)) (p : ℕ) (others : List ℕ) (front old new : List (List Literal)) → p < length conflicts → others ≡ get_or conflicts p others
    → old ≡ front ++ owned_sentences conflict_sentence 0 (take p conflicts) → new ≡ old ++ map (conflict_sentence p) others → new ≡ front ++ owned_sentences conflict_sentence 0 (take (p + 1) conflicts)
pairs_more conflicts p others front old new lt is before e =
    e ∙ ap (λ z. z ++ map (conflict_sentence p) others) before ∙ append_assoc front (owned_sentences conflict_sentence 0 (take p conflicts)) (map (conflict_sentence p) others)
    ∙ ap (λ n. front ++ (owned_sentences conflict_sentence 0 (take p conflicts) ++ map (conflict_sentence n) others)) (sym (length_taken conflicts p (omega arith)) ∙ sym (at_zero (length (take p conflicts))))
    ∙ ap (λ z. front ++ z) (sym (owned_sentences_snoc conflict_sentence 0 (take p conflicts) others) ∙ ap (owned_sentences conflict_sentence 0) (sym (take_more conflicts p others lt ∙ ap (λ z. take p conflicts ++ z ∷ []) (sym is))))
  where
    at_zero : (n : ℕ) → 0 + n ≡ n
    at_zero n = omega arith
