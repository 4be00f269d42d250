-- One more need.
use Rattle.std.proofs.Common.{◌≡◌, ℕ, ◌<◌, List, [], ◌∷◌, ◌++◌, length, inl, inr, sym, subst}
use Rattle.listed.specs.Lists.{In, Ascending}
use Rattle.row_book.specs.Needs.{IsNeed, AreNeeds}
use Rattle.listed.proofs.Lists.{In_append_cases, In_cases, In_none}

-- a clause of the longer list is one of the old ones or the new one
pub needs_push : (old new : List (List ℕ)) (clause : List ℕ) → new ≡ old ++ clause ∷ [] → AreNeeds old → Ascending clause → 0 < length clause → AreNeeds new
needs_push old new clause e needs ascending filled = λ c i. elim (In_append_cases old (clause ∷ []) c (subst (λ z. In c z) e i)) [
  | inl was ↦ needs c was
  | inr last ↦ elim (In_cases last) [
    | inl is ↦ subst IsNeed (sym is) (record { ascending = ascending; filled = filled })
    | inr none ↦ absurd (In_none none)
  ]
]
