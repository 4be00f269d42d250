-- Names that pass a test, one after another.
use Rattle.std.proofs.Common.{◌≡◌, ℕ, ◌<◌, ◌≤◌, ◌+◌, Bool, true, false, cond, List, [], ◌∷◌, ◌++◌, length, get_or, take, filter, sym, ◌∙◌, ap}
use Rattle.std.proofs.{lemmas.List.{append-nil, take_all, take_more}, lemmas.List.Elements.{filter-append}}

-- one name more that passes, or does not
pub named_kept : (p : List ℕ → Bool) (names : List (List ℕ)) (i : ℕ) (item copy : List ℕ) (made new : List (List ℕ)) → i < length names → item ≡ get_or names i item → copy ≡ item → p item ≡ true → new ≡ made ++ copy ∷ []
    → made ≡ filter p (take i names) → new ≡ filter p (take (i + 1) names)
named_kept p names i item copy made new l is same passes e so =
    e ∙ ap (λ z. made ++ z ∷ []) same ∙ ap (λ z. z ++ item ∷ []) so
    ∙ sym (ap (filter p) (take_more names i item l ∙ ap (λ z. take i names ++ z ∷ []) (sym is)) ∙ filter-append p (take i names) (item ∷ []) ∙ ap (λ b. filter p (take i names) ++ cond b (item ∷ []) []) passes)

pub named_skip : (p : List ℕ → Bool) (names : List (List ℕ)) (i : ℕ) (item : List ℕ) (made : List (List ℕ)) → i < length names → item ≡ get_or names i item → p item ≡ false → made ≡ filter p (take i names) → made ≡ filter p (take (i + 1) names)
named_skip p names i item made l is fails so =
    so ∙ sym (ap (filter p) (take_more names i item l ∙ ap (λ z. take i names ++ z ∷ []) (sym is)) ∙ filter-append p (take i names) (item ∷ []) ∙ ap (λ b. filter p (take i names) ++ cond b (item ∷ []) []) fails ∙ append-nil (filter p (take i names)))

pub named_all : (p : List ℕ → Bool) (names : List (List ℕ)) (i : ℕ) (made : List (List ℕ)) → length names ≤ i → made ≡ filter p (take i names) → made ≡ filter p names
named_all p names i made l so = so ∙ ap (filter p) (take_all i names l)
