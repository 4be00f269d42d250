-- Flattening: packages without conflicts are taken out one after another, and the clauses of each
-- package are put in terms of those that are left. This is the section on flattening of Vouillon
-- and Di Cosmo, "On Software Component Co-Installability". Hold is not theirs: a package stays if
-- its elimination would make a row pass the clause limit.
use Rattle.std.specs.Prelude.{ℕ, zero, suc, Bool, false, not, ◌&&◌, ◌||◌, eqb, ltb, cond, List, []}
use Rattle.std.specs.Prelude.{◌∷◌, map, length, Option, Some, None}
use Rattle.std.specs.{List.{list_all, list_any, filter, find}, Option.{option_map}}
use Rattle.row_book.specs.{Sets.{NumSet, plus, without}, Repository.{Repository, against}}
use Rattle.row_book.specs.{Numbers.{numbers}, Support.{row}}

-- the packages in order
abbrev pub packages : Repository → List ℕ
packages R = numbers (length R.clauses) 0

-- all packages as a set
abbrev pub all_packages : Repository → NumSet
all_packages R n = ltb n (length R.clauses)

-- whether the package is in a conflict
abbrev pub has_conflict : Repository → ℕ → Bool
has_conflict R q = list_any (λ n. against R q n || against R n q) (packages R)

-- an elimination midway: the packages that are left, and those of them that are held
pub record Remaining : Type 0 where
  pub left : NumSet
  pub held : NumSet

-- before any step all packages are left, and none is held
abbrev pub none_gone : Repository → Remaining
none_gone R = record { left = all_packages R; held = λ n. false }

-- whether the package may be taken out: it is left, has no conflict, and is not held
abbrev pub may_go : Repository → Remaining → ℕ → Bool
may_go R s q = s.left q && (not (has_conflict R q) && not (s.held q))

-- how many clauses the row of the package over V has
abbrev pub row_length : Repository → NumSet → ℕ → ℕ
row_length R V q = length (row R V q)

-- of two packages the first is taken out sooner: it has fewer clauses, or as many and the lesser
-- number
abbrev pub sooner : (ℕ → ℕ) → ℕ → ℕ → Bool
sooner count q r = ltb (count q) (count r) || (eqb (count q) (count r) && ltb q r)

-- whether the package is the one to take out: it may go, and none that may goes sooner
abbrev pub is_soonest : (ℕ → ℕ) → (ℕ → Bool) → List ℕ → ℕ → Bool
is_soonest count may ps q = may q && list_all (λ r. not (may r && sooner count r q)) ps

abbrev pub soonest : (ℕ → ℕ) → (ℕ → Bool) → List ℕ → Option ℕ
soonest count may ps = find (is_soonest count may ps) ps

-- the next package to be taken out, if one may go
unfoldable pub next_gone : Repository → Remaining → Option ℕ
next_gone R s = soonest (row_length R s.left) (may_go R s) (packages R)

-- whether the row of some package over V has more clauses than the limit allows
unfoldable pub passes_over : ℕ → Repository → NumSet → Bool
passes_over limit R V = list_any (λ p. ltb limit (row_length R V p)) (packages R)

-- the package is taken out; with hold it is held instead, if some row would pass the limit without
-- it
abbrev pub gone_or_held : ℕ → Bool → Repository → Remaining → Option ℕ → Remaining
gone_or_held limit hold R s None = s
gone_or_held limit hold R s (Some q) =
    cond (hold && passes_over limit R (without s.left q))
    (record { left = s.left; held = plus s.held q })
    (record { left = without s.left q; held = s.held })

-- what remains after this number of steps of elimination
unfoldable pub remaining_after : ℕ → Bool → Repository → ℕ → Remaining
remaining_after limit hold R zero = none_gone R
remaining_after limit hold R (suc i) =
    gone_or_held limit hold R (remaining_after limit hold R i)
    (next_gone R (remaining_after limit hold R i))

-- What remains when none may go. Each step takes one package out or holds one. So this is reached
-- after as many steps as there are packages, at the latest, and then stays.
abbrev pub at_last : ℕ → Bool → Repository → Remaining
at_last limit hold R = remaining_after limit hold R (length R.clauses)

-- the core: the packages that are left then
abbrev pub core_of : ℕ → Bool → Repository → NumSet
core_of limit hold R = (at_last limit hold R).left

-- those of them that are held, as a test and as a list, ascending
abbrev pub is_held : ℕ → Bool → Repository → NumSet
is_held limit hold R = (at_last limit hold R).held

unfoldable pub held_of : ℕ → Bool → Repository → List ℕ
held_of limit hold R = filter (is_held limit hold R) (packages R)

-- the rows of all packages over V, those outside V too
unfoldable pub rows_over : Repository → NumSet → List (List (List ℕ))
rows_over R V = map (row R V) (packages R)

-- the flattened repository: the rows over the core as clauses, and the same conflicts
unfoldable pub flat : ℕ → Bool → Repository → Repository
flat limit hold R = record { clauses = rows_over R (core_of limit hold R); conflicts = R.conflicts }

-- a row that has too many clauses: how many packages are gone, the package of the row, gone or not,
-- and the number of its clauses
pub record Passed : Type 0 where
  pub gone : ℕ
  pub over : ℕ
  pub count : ℕ

-- the first of the packages whose row has more clauses than the limit allows, with i packages gone
abbrev pub passed_by : (ℕ → ℕ) → List ℕ → ℕ → ℕ → Option Passed
passed_by count ps limit i =
    option_map (λ p. record { gone = i; over = p; count = count p })
    (find (λ p. ltb limit (count p)) ps)

abbrev pub passed_at : ℕ → Bool → Repository → ℕ → Option Passed
passed_at limit hold R i =
    passed_by (row_length R (remaining_after limit hold R i).left) (packages R) limit i

abbrev pub first_some : {A : Type 0} → List (Option A) → Option A
first_some [] = None
first_some (None ∷ xs) = first_some xs
first_some (Some x ∷ xs) = Some x

-- The stages of elimination whose rows may pass the limit. With hold no step makes a row pass it,
-- so that this is the first stage alone, before any step. Without hold each step takes one package
-- out, and no stage after the core is reached differs from it. So these are the first stage and one
-- for each package.
abbrev pub stages_tried : Bool → Repository → List ℕ
stages_tried hold R = numbers (cond hold 1 (suc (length R.clauses))) 0

-- the first of these stages, and there the least package, whose row has more clauses than the limit
-- allows
unfoldable pub passes : ℕ → Bool → Repository → Option Passed
passes limit hold R = first_some (map (passed_at limit hold R) (stages_tried hold R))
