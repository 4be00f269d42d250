-- for the bodies of this crate alone
-- How many minimal clauses there are among kept clauses and the unions of two families.
use Rattle.std.specs.Prelude.{◌≡◌, ℕ, Bool, not, ◌&&◌, ◌+◌, cond, List, [], ◌∷◌, length, map, drop}
use Rattle.std.specs.{Prelude.{get_or}, List.{filter, flat_map, list_all, list_any}}
use Rattle.listed.specs.Lists.{In, Ascending, has}
use Rattle.clause_pool.specs.Clauses.{in_row_order}
use Rattle.clause_families.specs.{Branches.{TreeOf}, Inclusion.{has_shorter, some_inside}}
use Rattle.clause_families.specs.Unions.{clause_without, union_of}
use Rattle.clause_families.specs.declared.{splitting.Family.{Family}, splitting.Parts.{Parts}}

-- the clauses that hold the number, each without it
abbrev pub clauses_cut : ℕ → List (List ℕ) → List (List ℕ)
clauses_cut number row =
    flat_map (λ clause. cond (has clause number) (clause_without number clause ∷ []) []) row

-- whether the union of some clause of the first family with some clause of the second is within the
-- clause
abbrev pub unites : List (List ℕ) → List (List ℕ) → List ℕ → Bool
unites first second clause = some_inside first clause && some_inside second clause

-- whether such a union is within what is left of the clause without some one of its numbers
abbrev pub unites_less : List (List ℕ) → List (List ℕ) → List ℕ → Bool
unites_less first second clause =
    list_any (λ n. unites first second (clause_without n clause)) clause

-- whether a union counts: no shorter kept clause, no later clause of the first family and no
-- shorter union is within it
abbrev pub is_new : List (List ℕ) → List (List ℕ) → List (List ℕ) → List (List ℕ) → List ℕ → Bool
is_new kept first second later union = not (has_shorter kept union)
    && (not (some_inside later union) && not (unites_less first second union))

-- how many of the unions of one clause of the first family with these of the second count
abbrev pub slice_count : List (List ℕ) → List (List ℕ) → List (List ℕ) → List (List ℕ) →
    List ℕ → List (List ℕ) → ℕ
slice_count kept first second later clause others =
    length (filter (is_new kept first second later) (in_row_order (map (union_of clause) others)))

-- How many unions of these clauses of the first family count. A union in which several of them lie
-- is counted with the last of these alone.
abbrev pub slices : List (List ℕ) → List (List ℕ) → List (List ℕ) → List (List ℕ) → ℕ
slices kept first second [] = 0
slices kept first second (clause ∷ later) =
    slices kept first second later + slice_count kept first second later clause second

-- how many kept clauses count: those with no union within them
abbrev pub own_count : List (List ℕ) → List (List ℕ) → List (List ℕ) → ℕ
own_count kept first second = length (filter (λ clause. not (unites first second clause)) kept)

-- whether the clause holds none of the numbers
abbrev pub is_apart : List ℕ → List ℕ → Bool
is_apart numbers clause = list_all (λ n. not (has numbers n)) clause

-- the numbers of the family are among these
abbrev pub HasNumbers : List (List ℕ) → List ℕ → Type 0
HasNumbers family numbers = (c : List ℕ) → In c family → (n : ℕ) → In n c → In n numbers

-- the tree of the family is the tree of its clauses
abbrev pub IsFamily : Family → Type 0
IsFamily family = TreeOf family.tree family.clauses.items

-- the clause at a place of the first family, and the clauses after it
abbrev pub first_at : Parts → ℕ → List ℕ
first_at parts place = get_or parts.first.clauses.items place []

abbrev pub rest_of : Parts → ℕ → List (List ℕ)
rest_of parts place = drop (place + 1) parts.first.clauses.items

-- Some numbers are near, among them all of the first family and of the kept clauses. The second
-- family is split: `alone` has the clauses without a near number, `others` has the rest.
pub record IsSplit (parts : Parts) : Type 0 where
  pub near : List ℕ
  pub of_first : HasNumbers parts.first.clauses.items near
  pub of_kept : HasNumbers parts.kept.clauses.items near
  pub alone : parts.alone.items ≡ filter (is_apart near) parts.second.clauses.items
  pub others : parts.others.items
      ≡ filter (λ clause. not (is_apart near clause)) parts.second.clauses.items

-- The parts of a row. There are three families with their trees, and the second one is split. There
-- is an ascending list of numbers, with all of the second family and of the kept clauses.
pub record AreParts (parts : Parts) : Type 0 where
  pub kept : IsFamily parts.kept
  pub first : IsFamily parts.first
  pub second : IsFamily parts.second
  pub split : IsSplit parts
  pub ascending : Ascending parts.numbers.items
  pub of_second : HasNumbers parts.second.clauses.items parts.numbers.items
  pub of_kept : HasNumbers parts.kept.clauses.items parts.numbers.items
