-- Sets of packages, each given by the test of its members; clauses, each given as a list; and which
-- clauses a set hits.
use Rattle.std.specs.Prelude.{◌≡◌, ℕ, Bool, true, not, ◌&&◌, ◌||◌, eqb, List}
use Rattle.listed.specs.Lists.{In, has}

-- a set of numbers, as the test of its members
abbrev pub NumSet : Type 0
NumSet = ℕ → Bool

abbrev pub Is : NumSet → ℕ → Type 0
Is X n = X n ≡ true

abbrev pub Within : NumSet → NumSet → Type 0
Within X Y = (n : ℕ) → X n ≡ true → Y n ≡ true

-- the set and one more number
abbrev pub plus : NumSet → ℕ → NumSet
plus X p n = X n || eqb n p

-- the set less one number
abbrev pub without : NumSet → ℕ → NumSet
without X p n = X n && not (eqb n p)

-- the set less the numbers of a list
abbrev pub minus : NumSet → List ℕ → NumSet
minus X c n = X n && not (has c n)

abbrev pub union : NumSet → NumSet → NumSet
union X Y n = X n || Y n

-- some member of the clause is in A
pub record Hit (A : ℕ → Type 0) (c : List ℕ) : Type 0 where
  pub by : ℕ
  pub inside : In by c
  pub alive : A by

-- the set hits each clause
abbrev pub HitsAll : NumSet → List (List ℕ) → Type 0
HitsAll X cs = (c : List ℕ) → In c cs → Hit (Is X) c
