-- What an explanation says of the goals, judged on the stanzas, and of the conflicts.
use Rattle.std.specs.Prelude.{◌≡◌, ℕ, false, List, ◌∷◌, ◌++◌, IfSome}
use Rattle.relation_fields.specs.declared.packages.Home.{Home}
use Rattle.relation_fields.specs.declared.packages.PackageFacts.{PackageFacts}
use Rattle.repo_model.specs.{Goals.{CoinstGoals}, Repository.{suite_repository}}
use Rattle.repo_model.specs.declared.goals.Goal.{Goal}
use Rattle.row_book.specs.{Repository.{Repository}, Sets.{NumSet}}
use Rattle.search_terms.specs.Laws.{HasNoSolution, Solves}
use Rattle.suite_compare.specs.Asking.{wanted_by}
use Rattle.explain_core.specs.{Core.{marked_goals}, Only.{only}, Reasons.{clash_pairs}}
use Rattle.explain_core.specs.{declared.explanation.Clash.{Clash}, declared.explanation.Mark.{Mark}}
use Rattle.explain_core.specs.declared.explanation.Explanation.{Explanation}
use Rattle.explain_core.specs.declared.explanation.Explanation.TheVariants.{Yes, Spent, Core}

-- the marked goals are not co-installable, and without any one of them that is not open they are
pub record IsCoreOf (home : Home) (stanzas : List PackageFacts) (goals : List Goal)
    (marks : List Mark) : Type 0 where
  pub impossible : ¬ (CoinstGoals home stanzas (marked_goals goals marks))
  pub needed : (before after : List Mark) (m : Mark) → marks ≡ before ++ m ∷ after →
      m.unsettled ≡ false → CoinstGoals home stanzas (marked_goals goals (before ++ after))

-- if only these pairs conflict, no healthy set hits each goal, and without any one of them that is
-- not open some does
pub record AreReasons (R : Repository) (goals : List (List ℕ)) (clashes : List Clash) : Type 0 where
  pub enough : HasNoSolution (only R (clash_pairs clashes)) goals
  pub needed : (before after : List Clash) (c : Clash) → clashes ≡ before ++ c ∷ after →
      c.unsettled ≡ false →
      (I : NumSet) × Solves (only R (clash_pairs (before ++ after))) goals I

-- what an explanation says
abbrev pub MeansExplanation : Home → List PackageFacts → List Goal → Explanation → Type 0
MeansExplanation home stanzas goals Yes = CoinstGoals home stanzas goals
MeansExplanation home stanzas goals (Spent failed) = Unit {0}
MeansExplanation home stanzas goals (Core marks clashes) =
    IsCoreOf home stanzas goals marks
    × IfSome clashes
    (AreReasons (suite_repository home stanzas) (wanted_by stanzas (marked_goals goals marks)))
