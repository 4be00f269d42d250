-- Trimming: as few of the chosen packages as the open needs ask for, one after another.
use Rattle.std.specs.Prelude.{◌≡◌, ◌↔◌, ℕ, zero, suc, ◌<◌, Bool, true, false, not, cond, List, []}
use Rattle.std.specs.Prelude.{◌++◌, length, take, slice_index_or, Option, Some, None}
use Rattle.std.specs.{List.{list_any, find, flat_map}, Option.{option_and_then}}
use Rattle.clause_pool.specs.Interned.{Interned, clauses_at, ids_at}
use Rattle.row_book.specs.{declared.book.Book.{Book}, Uses.{row_id}}
use Rattle.row_book.specs.Sets.{NumSet, Within, HitsAll, plus}
use Rattle.row_book.specs.{Repository.{Repository, Healthy, clauses_of}, Flattening.{packages}}

-- the clauses of a package that is in the set
abbrev pub member_clauses : Repository → NumSet → ℕ → List (List ℕ)
member_clauses R S p = cond (S p) (clauses_of R p) []

-- the set does not hit the clause
abbrev pub is_unhit : NumSet → List ℕ → Bool
is_unhit S c = not (list_any S c)

-- The first open need: the first goal, in their order, that the set does not hit. If it hits all of
-- them, the first such clause of a member, members ascending and the clauses of each in order.
abbrev pub first_need : Repository → List (List ℕ) → NumSet → Option (List ℕ)
first_need R goals S = find (is_unhit S) (goals ++ flat_map (member_clauses R S) (packages R))

-- The second set comes from the first: as long as there is an open need, the first of its members
-- that is chosen is added.
pub data Trims (R : Repository) (goals : List (List ℕ)) (chosen : NumSet) : NumSet →
    NumSet → Type 0 where
  ends : {S : NumSet} → first_need R goals S ≡ None → Trims R goals chosen S S
  puts : {S T : NumSet} (c : List ℕ) (n : ℕ) → first_need R goals S ≡ Some c →
      find chosen c ≡ Some n → Trims R goals chosen (plus S n) T → Trims R goals chosen S T

-- the set comes from no package
abbrev pub IsTrim : Repository → List (List ℕ) → NumSet → NumSet → Type 0
IsTrim R goals chosen T = Trims R goals chosen (λ n. false) T

-- the first chosen member of the first open need
abbrev pub next_put : Repository → List (List ℕ) → NumSet → NumSet → Option ℕ
next_put R goals chosen S = option_and_then (find chosen) (first_need R goals S)

abbrev pub with_put : NumSet → Option ℕ → NumSet
with_put S None = S
with_put S (Some n) = plus S n

-- the set after a number of packages were added
abbrev pub trim_after : ℕ → Repository → List (List ℕ) → NumSet → NumSet → NumSet
trim_after zero R goals chosen S = S
trim_after (suc n) R goals chosen S =
    trim_after n R goals chosen (with_put S (next_put R goals chosen S))

-- the trim, which begins with no package; it adds no more packages than there are
unfoldable pub trim_of : Repository → List (List ℕ) → NumSet → NumSet
trim_of R goals chosen = trim_after (length R.clauses) R goals chosen (λ n. false)

-- the trim of a healthy set that hits every goal is a healthy part of it that hits every goal
pub record IsHealthyPart (R : Repository) (goals : List (List ℕ)) (chosen T : NumSet) : Type 0 where
  pub healthy : Healthy R T
  pub hits : HitsAll T goals
  pub part : Within T chosen

abbrev pub TrimIsHealthy : Type 0
TrimIsHealthy = (R : Repository) (goals : List (List ℕ)) (chosen T : NumSet) → Healthy R chosen →
    HitsAll chosen goals → IsTrim R goals chosen T → IsHealthyPart R goals chosen T

-- there is only one trim
abbrev pub TrimIsOne : Type 0
TrimIsOne = (R : Repository) (goals : List (List ℕ)) (chosen S T : NumSet) →
    IsTrim R goals chosen S → IsTrim R goals chosen T → T ≡ S

-- the trim of a healthy set that hits every goal is the one that is computed
abbrev pub TrimIsOf : Type 0
TrimIsOf = (R : Repository) (goals : List (List ℕ)) (chosen T : NumSet) → Healthy R chosen →
    HitsAll chosen goals → (IsTrim R goals chosen T ↔ (T ≡ trim_of R goals chosen))

-- while a set is trimmed: what comes from this set comes from no package, and it is a part of what
-- is chosen
pub record IsTrimming (R : Repository) (goals : List (List ℕ)) (chosen S : NumSet) : Type 0 where
  pub leads : (T : NumSet) → Trims R goals chosen S T → IsTrim R goals chosen T
  pub part : Within S chosen

-- the set hits each clause of each member below the place
abbrev pub AreMet : Repository → NumSet → ℕ → Type 0
AreMet R S place = (p : ℕ) → p < place → S p ≡ true → find (is_unhit S) (clauses_of R p) ≡ None

-- the set hits each clause of each member that is not in the other set
abbrev pub AreMetOutside : Repository → NumSet → NumSet → Type 0
AreMetOutside R S W = (p : ℕ) → S p ≡ true → W p ≡ false → find (is_unhit S) (clauses_of R p) ≡ None

-- the set hits each clause of a package before the package's place in its row
abbrev pub AreHitBefore : Interned → Book → NumSet → List ℕ → Type 0
AreHitBefore pool book S places = (p : ℕ) → find (is_unhit S)
    (clauses_at pool (take (slice_index_or places p 0) (ids_at pool (row_id book.rows p)))) ≡ None
