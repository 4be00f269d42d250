-- The formula of a repository and a list of goals. A goal is a set of classes; one of them is
-- wanted.
use Rattle.std.specs.Prelude.{ℕ, suc, true, false, List, [], ◌∷◌, ◌++◌, map}
use Rattle.row_book.specs.Repository.{Repository}
use Rattle.search_terms.specs.{declared.literals.Literal.{Literal}, Closure.{literal}}

-- a member of the goal is chosen
abbrev pub goal_sentence : List ℕ → List Literal
goal_sentence goal = map (λ c. literal c true) goal

-- the class is not chosen, or a member of its clause is
abbrev pub clause_sentence : ℕ → List ℕ → List Literal
clause_sentence p clause = literal p false ∷ goal_sentence clause

-- at most one of two classes that conflict is chosen
abbrev pub conflict_sentence : ℕ → ℕ → List Literal
conflict_sentence p q = literal p false ∷ literal q false ∷ []

-- the sentences of the items of each class, for classes numbered from k on
abbrev pub owned_sentences : {X : Type 0} → (ℕ → X → List Literal) → ℕ →
    List (List X) → List (List Literal)
owned_sentences f k [] = []
owned_sentences f k (xs ∷ rest) = map (f k) xs ++ owned_sentences f (suc k) rest

-- the clauses of all classes, ascending, those of each in their order, and then the conflicts, from
-- both sides
abbrev pub repository_form : Repository → List (List Literal)
repository_form R =
    owned_sentences clause_sentence 0 R.clauses ++ owned_sentences conflict_sentence 0 R.conflicts

-- The goals in their order, and then the sentences of the repository. In this order a search takes
-- up open needs.
abbrev pub form : Repository → List (List ℕ) → List (List Literal)
form R goals = map goal_sentence goals ++ repository_form R
