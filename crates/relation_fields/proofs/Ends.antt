-- A byte at the front of a text, and one at its end.
use Rattle.std.proofs.{Common.{◌≡◌, ℕ, ◌==◌, true, List, [], ◌∷◌, ◌++◌, Some, None, refl, arith}, lemmas.Grind.{common_steps}}
use Rattle.relation_fields.specs.Texts.{behind_byte, before_byte}
use Rattle.relation_fields.proofs.Fronts.{stops}

pub behind_byte-cons : (c : ℕ) (text : List ℕ) → behind_byte c (c ∷ text) ≡ Some text
behind_byte-cons c text = grind (arith, common_steps)

pub behind_byte-stops : (c : ℕ) (text : List ℕ) → stops (λ x. x == c) text ≡ true → behind_byte c text ≡ None
behind_byte-stops c [] stop = refl
behind_byte-stops c (x ∷ text) stop = grind (arith, common_steps)

pub begins : (c : ℕ) (text rest : List ℕ) → behind_byte c text ≡ Some rest → text ≡ c ∷ rest
begins c [] rest found = grind (arith, common_steps)
begins c (x ∷ text) rest found = grind (arith, common_steps)

pub before_byte-push : (c : ℕ) (text : List ℕ) → before_byte c (text ++ c ∷ []) ≡ Some text
before_byte-push c text = grind (arith, common_steps)

pub ends : (c : ℕ) (text rest : List ℕ) → before_byte c text ≡ Some rest → text ≡ rest ++ c ∷ []
ends c text rest found = grind (arith, common_steps)
