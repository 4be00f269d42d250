-- Pruning: packages that cannot be installed get the empty clause alone. Clauses that are always
-- hit, or may be hit at no cost, are dropped.
use Rattle.std.specs.Prelude.{ℕ, Bool, not, ◌&&◌, ◌||◌, eqb, cond, List, [], ◌∷◌, ◌++◌, filter}
use Rattle.std.specs.{Prelude.{Option, Some, None, slice_set}, List.{list_all, list_any, find}}
use Rattle.std.specs.Cmp.Lexicographic.{pointwise}
use Rattle.row_book.specs.{Sets.{NumSet, plus}, Repository.{Repository, against, clauses_of}}
use Rattle.row_book.specs.{Flattening.{packages}, Facing.{sides, face}}
use Rattle.listed.specs.Lists.{has, is_inside}

-- the repository with other clauses for a package
abbrev pub with_clauses : Repository → ℕ → List (List ℕ) → Repository
with_clauses R p cs = record { clauses = slice_set R.clauses p cs; conflicts = R.conflicts }

-- whether two sides of the package conflict as a whole, so that no healthy set has it
abbrev pub is_dead : Repository → ℕ → Bool
is_dead R p = face (against R) (sides R p) (sides R p)

-- the package with the empty clause alone
abbrev pub with_empty_clause : Repository → ℕ → Repository
with_empty_clause R p = with_clauses R p ([] ∷ [])

-- the clauses of p other than d
abbrev pub others : Repository → ℕ → List ℕ → List (List ℕ)
others R p d = filter (λ c. not (pointwise eqb c d)) (clauses_of R p)

-- the repository without the clause d of p
abbrev pub without_clause : Repository → ℕ → List ℕ → Repository
without_clause R p d = with_clauses R p (others R p d)

-- whether a package that is installed sees to it that d is hit: it is in d, or has a clause within
-- d
abbrev pub serves : Repository → List ℕ → ℕ → Bool
serves R d m = has d m || list_any (λ c. is_inside c d) (clauses_of R m)

-- whether the clause d of p is hit as soon as the others are: each member of one of the others
-- serves
abbrev pub is_forced : Repository → ℕ → List ℕ → Bool
is_forced R p d = list_any (λ e. list_all (serves R d) e) (others R p d)

-- Whether y, which conflicts with a member of d, is out anyway if p is in and d is not hit. It is
-- not p. It is in d itself, or conflicts with p, or with every member of another clause of p.
abbrev pub is_harmless : Repository → ℕ → List ℕ → ℕ → Bool
is_harmless R p d y =
    not (eqb y p)
    && (has d y || (against R p y || list_any (λ e. list_all (against R y) e) (others R p d)))

-- whether the clause c is hit whenever p is in and the clauses of p other than d are hit: it holds
-- p, or includes one of these
abbrev pub is_hit_anyway : Repository → ℕ → List ℕ → List ℕ → Bool
is_hit_anyway R p d c = has c p || list_any (λ e. is_inside e c) (others R p d)

-- whether the member x of d can be added whenever p is in and d is not hit
abbrev pub is_idle : Repository → ℕ → List ℕ → ℕ → Bool
is_idle R p d x =
    has d x
    && (list_all (λ y. not (against R x y) || is_harmless R p d y) (packages R)
    && list_all (is_hit_anyway R p d) (clauses_of R x))

-- whether the clause d of p is dropped: it is forced, or idle by one of its members
abbrev pub is_dropped : Repository → ℕ → List ℕ → Bool
is_dropped R p d = is_forced R p d || list_any (is_idle R p d) d

-- the clause of the package was dropped as idle by the least of its members that serve
pub record IdleClause : Type 0 where
  pub «package» : ℕ
  pub clause : List ℕ
  pub added : ℕ

-- the step of an idle clause, if one of its members serves
abbrev pub step_by : ℕ → List ℕ → Option ℕ → List IdleClause
step_by p d None = []
step_by p d (Some x) = record { «package» = p; clause = d; added = x } ∷ []

-- What is left of a repository, and the steps that a healthy set of it has to be taken back
-- through. These are the clauses that were dropped as idle, in order.
pub record LeftByPruning : Type 0 where
  pub left : Repository
  pub steps : List IdleClause

abbrev pub untouched : Repository → LeftByPruning
untouched R = record { left = R; steps = [] }

-- what was pruned first, and then what was pruned of what that left
abbrev pub then_pruned : LeftByPruning → LeftByPruning → LeftByPruning
then_pruned first next = record { left = next.left; steps = first.steps ++ next.steps }

-- the clause d of p is dropped if it is forced, and else if it is idle
abbrev pub prune_clause : Repository → ℕ → List ℕ → LeftByPruning
prune_clause R p d = record {
  left = cond (is_dropped R p d) (without_clause R p d) R;
  steps = cond (is_forced R p d) [] (step_by p d (find (is_idle R p d) d));
}

-- one clause after another, each in what is left
abbrev pub prune_clauses : Repository → ℕ → List (List ℕ) → LeftByPruning
prune_clauses R p [] = untouched R
prune_clauses R p (d ∷ ds) =
    then_pruned (prune_clause R p d) (prune_clauses (prune_clause R p d).left p ds)

-- the package gets the empty clause alone, which is no step
abbrev pub made_dead : Repository → ℕ → LeftByPruning
made_dead R p = untouched (with_empty_clause R p)

abbrev pub prune_package : Repository → ℕ → LeftByPruning
prune_package R p = cond (is_dead R p) (made_dead R p) (prune_clauses R p (clauses_of R p))

-- one package after another, each in what is left
abbrev pub prune_over : Repository → List ℕ → LeftByPruning
prune_over R [] = untouched R
prune_over R (p ∷ ps) = then_pruned (prune_package R p) (prune_over (prune_package R p).left ps)

-- the pruned repository
unfoldable pub prune : Repository → Repository
prune R = (prune_over R (packages R)).left

-- the idle steps of pruning, in order
unfoldable pub idle_steps : Repository → List IdleClause
idle_steps R = (prune_over R (packages R)).steps

-- the set with x added, if p is in it and nothing of d is
abbrev pub lift_idle : NumSet → ℕ → List ℕ → ℕ → NumSet
lift_idle I p d x = cond (I p && not (list_any I d)) (plus I x) I

-- the set taken back through the steps, from the last to the first
abbrev pub lift_all : NumSet → List IdleClause → NumSet
lift_all I [] = I
lift_all I (s ∷ ss) = lift_idle (lift_all I ss) s.«package» s.clause s.added
