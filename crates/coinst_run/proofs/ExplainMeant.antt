-- What the report of an explanation means.
use Rattle.std.proofs.Common.{◌≡◌, ℕ, ◌≤◌, Bool, List, [], ◌∷◌, length, Option, Some, None, ap, refl, sym, subst, ◌∙◌}
use Rattle.clause_solver.specs.declared.outcomes.Verdict.{Verdict}
use Rattle.clause_solver.specs.declared.outcomes.Verdict.TheVariants as verdict
use Rattle.explain_core.specs.{Explaining.{explained_by, explanation_of}, declared.explanation.Clash.{Clash}, declared.explanation.Explanation.{Explanation}}
use Rattle.explain_core.specs.{declared.explanation.Mark.{Mark}, declared.explanation.Explanation.TheVariants.{Yes, Spent, Core}}
use Rattle.explain_core.specs.OnStanzas.{HoldsOnStanzas, IsTellable}
use Rattle.relation_fields.specs.{declared.packages.Home.{Home}, declared.packages.PackageFacts.{PackageFacts}}
use Rattle.repo_model.specs.{FirstFault.{first_fault}, declared.goals.Goal.{Goal}}
use Rattle.repo_model.proofs.Accepted.{Accepted}
use Rattle.search_terms.specs.Tree.{failed_leaves}
use Rattle.suite_compare.proofs.{Deciding.{verdict_is_judged}, Unknown.{all_named}}
use Rattle.suite_compare.specs.{Answering.{unknown_goal}, Asking.{HasVerdict, asked_tree, verdict_in}, Refusals.{home_in, packages_in}}
use Rattle.coinst_run.specs.Explain.{explain_answer, explained_by_unknown, explanation_answer, goals_explained}
use Rattle.coinst_run.specs.{ExplainMeaning.{ExplainIsMeant, ExplainMeans, MeansExplained}, Index.{index_in}}
use Rattle.coinst_run.proofs.{OneCore.{one_core}, QueryMeant.{formed}, AnswerMeant.{AnswerMeans, means_more, told_means}, Given.{at_end, kernel_read}}
use Rattle.explain_core.proofs.{OnStanzas.{explanations_hold}, Tellable.{explanation_tellable}}

-- the report on goals in a text
module _ (text : List ℕ) (goals : List Goal) (budget limit : ℕ) (hold : Bool) where
  abbrev told_home : Home
  told_home = home_in text

  abbrev told_stanzas : List PackageFacts
  told_stanzas = packages_in text

  -- a yes and a core come of a search that stayed within the budget
  few_yes : (v : Verdict) → HasVerdict limit hold told_home told_stanzas budget goals v → explained_by limit hold told_home told_stanzas budget goals v ≡ Yes → failed_leaves (asked_tree limit hold told_home told_stanzas goals) ≤ budget
  few_yes verdict.Yes h e = h.0
  few_yes verdict.No h e = absurd (let no : ⊥ = cc in no)
  few_yes verdict.Spent h e = absurd (let no : ⊥ = cc in no)

  few_core : (v : Verdict) (marks : List Mark) (clashes : Option (List Clash)) → HasVerdict limit hold told_home told_stanzas budget goals v → explained_by limit hold told_home told_stanzas budget goals v ≡ Core marks clashes →
      failed_leaves (asked_tree limit hold told_home told_stanzas goals) ≤ budget
  few_core verdict.Yes marks clashes h e = absurd (let no : ⊥ = cc in no)
  few_core verdict.No marks clashes h e = h.0
  few_core verdict.Spent marks clashes h e = absurd (let no : ⊥ = cc in no)

  judged : HasVerdict limit hold told_home told_stanzas budget goals (verdict_in limit hold told_home told_stanzas budget goals)
  judged = verdict_is_judged limit hold told_home told_stanzas budget goals

  explained : Accepted told_stanzas → (explanation : Explanation) → explanation_of limit hold told_home told_stanzas budget goals ≡ explanation → HoldsOnStanzas limit hold told_home told_stanzas budget goals explanation →
      AnswerMeans (MeansExplained text goals budget limit hold) (explanation_answer told_stanzas goals budget explanation)
  explained accepted Yes is m = record { within = few_yes (verdict_in limit hold told_home told_stanzas budget goals) judged is; reads = refl; possible = m }
  explained accepted (Spent failed) is m = record { reads = refl; spent = m }
  explained accepted (Core marks clashes) is m =
      let told : IsTellable (length told_stanzas) (length goals) (Core marks clashes) = subst (IsTellable (length told_stanzas) (length goals)) is (explanation_tellable told_home told_stanzas limit hold budget goals) in
      record {
        within = few_core (verdict_in limit hold told_home told_stanzas budget goals) marks clashes judged is;
        marks = marks;
        clashes = clashes;
        is = is;
        reads = refl;
        once = λ other fits same. sym (one_core told_stanzas accepted goals marks clashes other told.1 fits same);
        core = m.0;
        reasons = m.1;
      }

  goals_mean : (first : Option ℕ) → first_fault text ≡ None → unknown_goal told_stanzas goals ≡ first → AnswerMeans (ExplainMeans text goals budget limit hold) (explained_by_unknown goals budget limit hold (index_in text) first)
  goals_mean (Some unknown) accepted is = tt
  goals_mean None accepted is =
      let explanation : Explanation = explanation_of limit hold told_home told_stanzas budget goals in
      means_more (MeansExplained text goals budget limit hold) (ExplainMeans text goals budget limit hold) (explanation_answer told_stanzas goals budget explanation)
      (λ verdict printed m. record { accepted = accepted; known = all_named told_stanzas 1 goals is; means = m })
      (explained (formed text accepted) explanation refl (explanations_hold told_home told_stanzas limit hold budget goals))

pub explain_is_meant : ExplainIsMeant
explain_is_meant path goals budget limit hold readings verdict printed e =
    let first = kernel_read verdict printed path limit hold (explain_answer goals budget limit hold) readings e in
    let end = at_end verdict printed (goals_explained goals budget limit hold (index_in first.0)) first.1 first.4 in (
      first.0,
      first.2 ∙ ap (λ rest. (path, first.0) ∷ rest) end.0,
      told_means (ExplainMeans first.0 goals budget limit hold) (goals_explained goals budget limit hold (index_in first.0)) verdict printed end.1
          (goals_mean first.0 goals budget limit hold (unknown_goal (packages_in first.0) goals) first.3 refl),
    )
