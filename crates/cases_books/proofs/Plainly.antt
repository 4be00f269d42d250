-- Small repositories on which the definitions of flattening are computed plainly.
use Rattle.std.proofs.Common.{◌≡◌, true, false, [], ◌∷◌, refl, Some, None}
use Rattle.row_book.specs.{Repository.{Repository}, Numbers.{numbers, nonempty_from, subsets}, Support.{supports, is_supported, blocks, is_minimal_block, row}}
use Rattle.row_book.specs.Flattening.{next_gone, passes_over, remaining_after, rows_over, flat, held_of, passes}

-- `a: Depends b`, `b`
needy : Repository
needy = record { clauses = ((1 ∷ []) ∷ []) ∷ [] ∷ []; conflicts = [] ∷ [] ∷ [] }

-- both are taken out, and nothing is left to ask for
flat_needy : (flat 1 false needy).clauses ≡ [] ∷ [] ∷ []
unfolding needy flat rows_over row is_minimal_block blocks is_supported supports subsets nonempty_from numbers next_gone passes_over remaining_after
flat_needy = refl

-- `a: Depends b`, `b: Depends a`: a cycle without conflicts supports itself
circle : Repository
circle = record { clauses = ((1 ∷ []) ∷ []) ∷ ((0 ∷ []) ∷ []) ∷ []; conflicts = [] ∷ [] ∷ [] }

flat_circle : (flat 1 false circle).clauses ≡ [] ∷ [] ∷ []
unfolding circle flat rows_over row is_minimal_block blocks is_supported supports subsets nonempty_from numbers next_gone passes_over remaining_after
flat_circle = refl

-- `a: Depends b; Conflicts c`, `b: Depends a`, `c`: the clause that comes back to its own package
-- goes, and is not left empty
around : Repository
around = record { clauses = ((1 ∷ []) ∷ []) ∷ ((0 ∷ []) ∷ []) ∷ [] ∷ []; conflicts = (2 ∷ []) ∷ [] ∷ (0 ∷ []) ∷ [] }

flat_around : (flat 1 false around).clauses ≡ [] ∷ ((0 ∷ []) ∷ []) ∷ [] ∷ []
unfolding around flat rows_over row is_minimal_block blocks is_supported supports subsets nonempty_from numbers next_gone passes_over remaining_after
flat_around = refl

-- with hold the same: no row would pass the limit, and none is held
flat_around_holding : (flat 1 true around).clauses ≡ [] ∷ ((0 ∷ []) ∷ []) ∷ [] ∷ []
unfolding around flat rows_over row is_minimal_block blocks is_supported supports subsets nonempty_from numbers next_gone passes_over remaining_after
flat_around_holding = refl

around_holds_none : held_of 1 true around ≡ []
unfolding around held_of row is_minimal_block blocks is_supported supports subsets nonempty_from numbers next_gone passes_over remaining_after
around_holds_none = refl

-- `a: Depends b, c`, `b`, `c`: the row of a has two clauses before any package is taken out
pair : Repository
pair = record { clauses = ((1 ∷ []) ∷ (2 ∷ []) ∷ []) ∷ [] ∷ [] ∷ []; conflicts = [] ∷ [] ∷ [] ∷ [] }

passes_pair : passes 1 false pair ≡ Some (record { gone = 0; over = 0; count = 2 })
unfolding pair passes row is_minimal_block blocks is_supported supports subsets nonempty_from numbers next_gone passes_over remaining_after
passes_pair = refl

-- and with hold too
passes_pair_holding : passes 1 true pair ≡ Some (record { gone = 0; over = 0; count = 2 })
unfolding pair passes row is_minimal_block blocks is_supported supports subsets nonempty_from numbers next_gone passes_over remaining_after
passes_pair_holding = refl

-- and none has three
passes_not : passes 2 false pair ≡ None
unfolding pair passes row is_minimal_block blocks is_supported supports subsets nonempty_from numbers next_gone passes_over remaining_after
passes_not = refl

-- `a: Depends m, d`, `m: Depends b, c`, `b: Conflicts c, d`, `c`, `d`: a goes first, and without m the row of a would
-- have three clauses
fork : Repository
fork = record {
  clauses = ((1 ∷ []) ∷ (4 ∷ []) ∷ []) ∷ ((2 ∷ []) ∷ (3 ∷ []) ∷ []) ∷ [] ∷ [] ∷ [] ∷ [];
  conflicts = [] ∷ [] ∷ (3 ∷ 4 ∷ []) ∷ (2 ∷ []) ∷ (2 ∷ []) ∷ [];
}

fork_holds : held_of 2 true fork ≡ 1 ∷ []
unfolding fork held_of row is_minimal_block blocks is_supported supports subsets nonempty_from numbers next_gone passes_over remaining_after
fork_holds = refl
