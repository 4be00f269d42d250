-- One more goal of one number.
use Rattle.std.proofs.Common.{◌≡◌, ℕ, ◌<◌, List, [], ◌∷◌, ◌++◌, inl, inr, sym, subst}
use Rattle.row_book.specs.Needs.{NeedsFit}
use Rattle.listed.specs.Lists.{In}
use Rattle.listed.proofs.Lists.{In_append_cases, In_cases, In_none}

-- its number is below the size
pub fits_push : (size : ℕ) (goals new : List (List ℕ)) (n : ℕ) → new ≡ goals ++ (n ∷ []) ∷ [] → NeedsFit size goals → n < size → NeedsFit size new
fits_push size goals new n e fits lt c i m j = elim (In_append_cases goals ((n ∷ []) ∷ []) c (subst (λ z. In c z) e i)) [
  | inl was ↦ fits c was m j
  | inr last ↦ elim (In_cases last) [
    | inl is ↦ elim (In_cases (subst (λ g. In m g) is j)) [
      | inl same ↦ subst (λ k. k < size) (sym same) lt
      | inr none ↦ absurd (In_none none)
    ]
    | inr none ↦ absurd (In_none none)
  ]
]
