-- What an explanation says, judged on the stanzas alone, and that it names goals and packages that
-- are there.
use Rattle.std.specs.Prelude.{⊤, ◌≡◌, ℕ, ◌<◌, Bool, true, false, List, ◌∷◌, ◌++◌, length, IfSome}
use Rattle.explain_core.specs.{Core.{marked_goals}, Explaining.{explanation_of}, Meaning.{IsCoreOf}}
use Rattle.explain_core.specs.{declared.explanation.Clash.{Clash}, Picking.{ArePlacesFrom1}}
use Rattle.explain_core.specs.declared.explanation.Explanation.{Explanation}
use Rattle.explain_core.specs.declared.explanation.Explanation.TheVariants.{Yes, Spent, Core}
use Rattle.relation_fields.specs.declared.packages.Home.{Home}
use Rattle.relation_fields.specs.declared.packages.PackageFacts.{PackageFacts}
use Rattle.relation_fields.specs.declared.relations.Atom.{Atom}
use Rattle.repo_model.specs.{Goals.{CoinstGoals, HasOneFor}, Repository.{in_conflict}}
use Rattle.repo_model.specs.{Stanzas.{Met, stanza_at}, declared.goals.Goal.{Goal}}
use Rattle.listed.specs.Lists.{In}
use Rattle.row_book.specs.Sets.{Is, NumSet}
use Rattle.search_terms.specs.Tree.{failed_leaves}
use Rattle.suite_compare.specs.Asking.{asked_tree}

-- A set of stanzas that would be healthy if only these packages were in conflict. Each element of
-- each member's dependencies has an alternative that some member meets, and no two members are one
-- of the pairs.
pub record HealthyButFor (home : Home) (stanzas : List PackageFacts) (clashes : List Clash)
    (I : NumSet) : Type 0 where
  pub numbers : (n : ℕ) → Is I n → n < length stanzas
  pub needs : (n : ℕ) → Is I n → (element : List Atom) → In element (stanza_at stanzas n).needs →
      Met home stanzas I element
  pub apart : (c : Clash) → In c clashes → Is I c.first → Is I c.second → ⊥

-- goals would be co-installable if only these packages were in conflict
pub record CoinstButFor (home : Home) (stanzas : List PackageFacts) (clashes : List Clash)
    (goals : List Goal) : Type 0 where
  pub whole : NumSet
  pub healthy : HealthyButFor home stanzas clashes whole
  pub serves : (goal : Goal) → In goal goals → HasOneFor stanzas whole goal

-- Each pair is of two packages of the index that are in conflict. These conflicts alone are enough
-- for the goals not to be co-installable. Without any one of them that is not open the others are
-- not enough.
pub record AreEnough (home : Home) (stanzas : List PackageFacts) (goals : List Goal)
    (clashes : List Clash) : Type 0 where
  pub conflicts : (c : Clash) → In c clashes → (c.first < c.second) × (c.second < length stanzas)
      × (in_conflict home stanzas c.first c.second ≡ true)
  pub enough : ¬ (CoinstButFor home stanzas clashes goals)
  pub needed : (before after : List Clash) (c : Clash) → clashes ≡ before ++ c ∷ after →
      c.unsettled ≡ false → CoinstButFor home stanzas (before ++ after) goals

-- each conflict is of two packages below the number
abbrev pub AreClashesOf : ℕ → List Clash → Type 0
AreClashesOf packages clashes = (c : Clash) → In c clashes →
    (c.first < packages) × (c.second < packages)

-- an explanation names only goals and packages that are there, by the numbers of these
abbrev pub IsTellable : ℕ → ℕ → Explanation → Type 0
IsTellable packages goals Yes = ⊤
IsTellable packages goals (Spent failed) = ⊤
IsTellable packages goals (Core marks clashes) =
    ArePlacesFrom1 goals marks × IfSome clashes (AreClashesOf packages)

-- After a yes the goals are co-installable. After a spent search their tree has more failed leaves
-- than the budget. A core is one, with conflicts that are enough unless they are open as a whole.
abbrev pub HoldsOnStanzas : ℕ → Bool → Home → List PackageFacts → ℕ → List Goal →
    Explanation → Type 0
HoldsOnStanzas limit hold home stanzas budget goals Yes = CoinstGoals home stanzas goals
HoldsOnStanzas limit hold home stanzas budget goals (Spent failed) =
    budget < failed_leaves (asked_tree limit hold home stanzas goals)
HoldsOnStanzas limit hold home stanzas budget goals (Core marks clashes) =
    IsCoreOf home stanzas goals marks
    × IfSome clashes (AreEnough home stanzas (marked_goals goals marks))

-- so it is of the explanation of goals
abbrev pub ExplanationsHold : Type 0
ExplanationsHold = (home : Home) (stanzas : List PackageFacts) (limit : ℕ) (hold : Bool)
    (budget : ℕ) (goals : List Goal) →
    HoldsOnStanzas limit hold home stanzas budget goals
    (explanation_of limit hold home stanzas budget goals)

abbrev pub ExplanationsAreTellable : Type 0
ExplanationsAreTellable = (home : Home) (stanzas : List PackageFacts) (limit : ℕ) (hold : Bool)
    (budget : ℕ) (goals : List Goal) →
    IsTellable (length stanzas) (length goals) (explanation_of limit hold home stanzas budget goals)
