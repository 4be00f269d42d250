-- One more name that is taken, and one more that is copied.
use Rattle.std.proofs.{Common.{◌≡◌, ℕ, ◌+◌, ◌<◌, List, [], ◌∷◌, ◌++◌, length, get_or, take, sym, ap, ap₂, ◌∙◌}, lemmas.List.{take_more}}
use Rattle.std.proofs.{lemmas.List.Folds.{list_any-append}, Math.Bool.{or-false}}
use Rattle.std.specs.{Prelude.{◌||◌}, Str.{bytes_eq}}
use Rattle.migrate_plan.specs.Mix.{is_taken}

pub taken_more : (taken : List (List ℕ)) (tried name : List ℕ) → is_taken (taken ++ tried ∷ []) name ≡ (is_taken taken name || bytes_eq name tried)
taken_more taken tried name = list_any-append (bytes_eq name) taken (tried ∷ []) ∙ ap (λ b. is_taken taken name || b) (or-false (bytes_eq name tried))

pub copied_more : (names : List (List ℕ)) (i : ℕ) (name copy : List ℕ) (made new : List (List ℕ)) → i < length names → name ≡ get_or names i name → copy ≡ name → new ≡ made ++ copy ∷ [] → made ≡ take i names → new ≡ take (i + 1) names
copied_more names i name copy made new l is same pushed so_far = pushed ∙ ap₂ (λ xs x. xs ++ x ∷ []) so_far (same ∙ is) ∙ sym (take_more names i name l)
