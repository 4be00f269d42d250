-- A search is local: its tree depends on nothing but what its goals reach. These are the classes of
-- the goals and, with a class, the members of its clauses, with the conflicts among them.
use Rattle.std.specs.Prelude.{◌≡◌, ℕ, ◌<◌, Bool, true, List, [], map, length}
use Rattle.listed.specs.Lists.{In}
use Rattle.row_book.specs.{Sets.{NumSet}, Repository.{Repository, clauses_of, against}}
use Rattle.row_book.specs.Flags.{flag}
use Rattle.search_terms.specs.{Form.{form}, Tree.{Tree, IsTree}}
use Rattle.search_terms.specs.Tree.Tree.{failed_leaf, found_leaf, split}

-- What goals reach in a repository is in another one too, under other numbers in the same order.
-- U holds the classes of the goals and, with a class, the members of its clauses; it may hold more.
-- In the other repository these classes have the same clauses, in the same order, and the same
-- conflicts with each other. Nothing is said of other classes, or of conflicts with them.
pub record ReachStandsIn (R : Repository) (goals : List (List ℕ)) (U : NumSet) (there : ℕ → ℕ)
    (other : Repository) : Type 0 where
  pub classes : (n : ℕ) → U n ≡ true → n < length R.clauses
  pub wanted : (goal : List ℕ) → In goal goals → (n : ℕ) → In n goal → U n ≡ true
  pub closed : (p : ℕ) → U p ≡ true → (c : List ℕ) → In c (clauses_of R p) →
      (n : ℕ) → In n c → U n ≡ true
  pub within : (n : ℕ) → U n ≡ true → there n < length other.clauses
  pub rising : (m n : ℕ) → U m ≡ true → U n ≡ true → m < n → there m < there n
  pub clauses : (p : ℕ) → U p ≡ true → clauses_of other (there p) ≡ map (map there) (clauses_of R p)
  pub conflicts : (p q : ℕ) → U p ≡ true → U q ≡ true →
      against other (there p) (there q) ≡ against R p q

-- in U the same classes are chosen here and there, and no others are chosen
pub record SameChoice (U : NumSet) (there : ℕ → ℕ) (chosen chosen_there : List Bool) : Type 0 where
  pub each : (n : ℕ) → U n ≡ true → flag chosen_there (there n) ≡ flag chosen n
  pub none_else : (n : ℕ) → flag chosen n ≡ true → U n ≡ true
  pub none_else_there : (m : ℕ) → flag chosen_there m ≡ true →
      (n : ℕ) × (U n ≡ true) × (m ≡ there n)

-- Two trees are one but for the numbers: leaves fail at the same places, and splits are on the same
-- classes, which are in U. Found leaves choose the same classes.
abbrev pub SameTree : NumSet → (ℕ → ℕ) → Tree → Tree → Type 0
SameTree U there failed_leaf failed_leaf = Unit {0}
SameTree U there (found_leaf chosen) (found_leaf chosen_there) =
    SameChoice U there chosen chosen_there
SameTree U there (split c left right) (split d left_there right_there) = (U c ≡ true)
    × (d ≡ there c) × SameTree U there left left_there × SameTree U there right right_there
SameTree U there first second = ⊥

-- if both have a tree, the two are the same but for the numbers
abbrev pub TreeIsLocal : Type 0
TreeIsLocal =
    (R : Repository) (goals : List (List ℕ)) (U : NumSet) (there : ℕ → ℕ) (other : Repository) →
    ReachStandsIn R goals U there other → (first second : Tree) →
    IsTree (length R.clauses) (form R goals) [] first →
    IsTree (length other.clauses) (form other (map (map there) goals)) [] second →
    SameTree U there first second
