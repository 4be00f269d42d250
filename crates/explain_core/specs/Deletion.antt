-- Lists from which one item after another is left out, as long as what is left still has the
-- verdict no. A minimal unsatisfiable set of clauses is found in this way by deletion.
use Rattle.std.specs.Prelude.{Bool, true, false, List, [], ◌∷◌, ◌++◌, map}
use Rattle.clause_solver.specs.declared.outcomes.Verdict.{Verdict}
use Rattle.clause_solver.specs.declared.outcomes.Verdict.TheVariants.{Yes, No, Spent}

-- an item that stays, and whether it is open if it has to
pub record KeptItem (X : Type 0) : Type 0 where
  pub item : X
  pub unsettled : Bool

abbrev pub kept : {X : Type 0} → X → Bool → KeptItem X
kept x unsettled = record { item = x; unsettled = unsettled }

abbrev pub items_of : {X : Type 0} → List (KeptItem X) → List X
items_of stay = map (λ k. k.item) stay

-- An item by the verdict on the others. It is left out if that is no, and stays if it is yes. It
-- stays and is open if the search is spent.
abbrev pub kept_by : {X : Type 0} → X → Verdict → List (KeptItem X)
kept_by x No = []
kept_by x Yes = kept x false ∷ []
kept_by x Spent = kept x true ∷ []

-- whether a search finds nothing
abbrev pub is_no : Verdict → Bool
is_no No = true
is_no Yes = false
is_no Spent = false

-- the items are taken in order: the others of an item are those before it that stay and all those
-- after it
unfoldable pub kept_behind : {X : Type 0} → (List X → Verdict) → List (KeptItem X) →
    List X → List (KeptItem X)
kept_behind verdict before [] = before
kept_behind verdict before (x ∷ after) =
    kept_behind verdict (before ++ kept_by x (verdict (items_of before ++ after))) after

-- what is left when all items have been taken
abbrev pub kept_of : {X : Type 0} → (List X → Verdict) → List X → List (KeptItem X)
kept_of verdict items = kept_behind verdict [] items
