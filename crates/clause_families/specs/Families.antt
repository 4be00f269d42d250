-- Families, which are lists of clauses: how they are made, before and while their clauses go into
-- the pool.
use Rattle.std.specs.Prelude.{◌≡◌, ℕ, true, false, not, cond, List, [], map, ◌⊎◌}
use Rattle.std.specs.List.{filter, flat_map}
use Rattle.clause_pool.specs.Interned.{Interned, clause_at, clauses_at, Kept, OfPool}
use Rattle.clause_pool.specs.Lists.{InOrder}
use Rattle.listed.specs.Lists.{In, has, Inside}
use Rattle.clause_families.specs.{Inclusion.{has_shorter}, Unions.{clause_without, union_of}}

-- the clause holds one of the numbers
abbrev pub HoldsOneOf : List ℕ → List ℕ → Type 0
HoldsOneOf numbers clause = (n : ℕ) × In n clause × In n numbers

-- the clause includes one of the others
abbrev pub IncludesOneOf : List (List ℕ) → List ℕ → Type 0
IncludesOneOf others clause = (s : List ℕ) × In s others × Inside s clause

-- The useful ids are some of the ids. None of them is of a clause that holds the user. Each id that
-- is left out is of a clause that holds the user or is needless.
pub record Useful (pool : Interned) (user : ℕ) (Needless : List ℕ → Type 0)
    (ids useful : List ℕ) : Type 0 where
  pub part : (id : ℕ) → In id useful → In id ids
  pub apart : (id : ℕ) → In id useful → In user (clause_at pool id) → ⊥
  pub rest : (id : ℕ) → In id ids →
      In id useful ⊎ (In user (clause_at pool id) ⊎ Needless (clause_at pool id))

-- The number is taken out of the clause. What is left is united with each of the others.
abbrev pub unions_of : ℕ → List (List ℕ) → List ℕ → List (List ℕ)
unions_of spent others clause = map (λ other. union_of (clause_without spent clause) other) others

-- these unions, for each clause of the row that holds the number
abbrev pub all_unions : ℕ → List (List ℕ) → List (List ℕ) → List (List ℕ)
all_unions spent row others =
    flat_map (λ clause. cond (has clause spent) (unions_of spent others clause) []) row

-- the list has gained this id and no other
pub record HasGained (old new : List ℕ) (id : ℕ) : Type 0 where
  pub stay : (k : ℕ) → In k old → In k new
  pub one : In id new
  pub back : (k : ℕ) → In k new → In k old ⊎ (k ≡ id)

-- no shorter clause of either family is within the clause
pub record IsShortest (kept unions : List (List ℕ)) (clause : List ℕ) : Type 0 where
  pub by_kept : has_shorter kept clause ≡ false
  pub by_unions : has_shorter unions clause ≡ false

-- a shorter union or a kept clause is within the clause
abbrev pub IsNeedless : List (List ℕ) → List (List ℕ) → List ℕ → Type 0
IsNeedless kept unions clause = (has_shorter unions clause ≡ true) ⊎ IncludesOneOf kept clause

-- The new list is in order, and has the old clauses. It has each union tried so far, unless that is
-- needless. All else in it is a union tried so far with no shorter clause of either family within
-- it.
pub record HasUnions (old kept unions done new : List (List ℕ)) : Type 0 where
  pub order : InOrder new
  pub stay : (c : List ℕ) → In c old → In c new
  pub put : (c : List ℕ) → In c done → In c new ⊎ IsNeedless kept unions c
  pub back : (c : List ℕ) → In c new → In c old ⊎ (In c done × IsShortest kept unions c)

-- two lists have the same clauses
pub record SameClauses (old new : List (List ℕ)) : Type 0 where
  pub there : (c : List ℕ) → In c old → In c new
  pub back : (c : List ℕ) → In c new → In c old

-- The ids are those of the clauses looked at so far, except clauses with a shorter one of the
-- family within them. They are of the pool, which keeps what it held at the start.
pub record InternedSoFar (start pool : Interned) (family done : List (List ℕ))
    (ids : List ℕ) : Type 0 where
  pub made : clauses_at pool ids ≡ filter (λ clause. not (has_shorter family clause)) done
  pub of_pool : OfPool pool ids
  pub kept : Kept start pool
