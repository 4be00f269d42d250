-- Numbers one after another, and the lists of all sets of such numbers.
use Rattle.std.specs.Prelude.{ℕ, zero, suc, List, [], ◌∷◌, ◌++◌, map}

-- `n` numbers, from the given one on
unfoldable pub numbers : ℕ → ℕ → List ℕ
numbers zero k = []
numbers (suc n) k = k ∷ numbers n (suc k)

-- all sets of such numbers but the empty one, in lexicographic order
unfoldable pub nonempty_from : ℕ → ℕ → List (List ℕ)
nonempty_from zero k = []
nonempty_from (suc n) k = map (λ s. k ∷ s) ([] ∷ nonempty_from n (suc k)) ++ nonempty_from n (suc k)

-- all sets of numbers below n, in lexicographic order: these are 2 ^ n lists, so only small
-- examples are computed
unfoldable pub subsets : ℕ → List (List ℕ)
subsets n = [] ∷ nonempty_from n 0
