-- A search by the rule of Davis, Putnam, Logemann and Loveland, on signed classes: how it goes on
-- below some decisions, and how it ends. This is a second definition, since that of `search_terms`
-- computes a tree, with a bound for its unit steps.
use Rattle.std.specs.Prelude.{◌≡◌, ℕ, ◌+◌, Bool, true, false, ◌↔◌, List, [], ◌∷◌, ◌++◌, Option}
use Rattle.std.specs.{Prelude.{Some, None}, List.{find}, Option.{option_and_then, option_map}}
use Rattle.search_terms.specs.Closure.{literal, Clashes, InClosure}
use Rattle.search_terms.specs.Tree.{is_open_need, is_undecided}
use Rattle.search_terms.specs.declared.literals.Literal.{Literal}

-- the class of the first undecided member of the first open need
abbrev pub class_to_split : (Literal → Bool) → List (List Literal) → Option ℕ
class_to_split set formula =
    option_and_then (λ need. option_map (λ l. l.class) (find (is_undecided set) need))
    (find (is_open_need set) formula)

-- the closure of the decisions does not clash, and the search splits on this class next, or on
-- none, since no need is open
abbrev pub SplitsOn : List (List Literal) → List Literal → Option ℕ → Type 0
SplitsOn formula decisions class = (¬ (Clashes formula decisions))
    × ((set : Literal → Bool) × ((l : Literal) → (set l ≡ true) ↔ InClosure formula decisions l)
    × (class_to_split set formula ≡ class))

-- A search below decisions: whether it finds something, and how many leaves failed before. A class
-- is tried as true first, and then as false.
pub data Searched (formula : List (List Literal)) : List Literal → Bool → ℕ → Type 0 where
  failed : {ds : List Literal} → Clashes formula ds → Searched formula ds false 1
  found : {ds : List Literal} → SplitsOn formula ds None → Searched formula ds true 0
  found_first : {ds : List Literal} {c m : ℕ} → SplitsOn formula ds (Some c) →
      Searched formula (ds ++ literal c true ∷ []) true m → Searched formula ds true m
  tried_both : {ds : List Literal} {c m n : ℕ} {end : Bool} → SplitsOn formula ds (Some c) →
      Searched formula (ds ++ literal c true ∷ []) false m →
      Searched formula (ds ++ literal c false ∷ []) end n → Searched formula ds end (m + n)
