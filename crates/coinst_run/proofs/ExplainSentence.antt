-- The sentence of `explain`, from what its report means.
use Rattle.suite_compare.specs.Indexes.{SearchedIndex}
use Rattle.std.proofs.Common.{◌≡◌, ℕ, ◌+◌, ◌-◌, ◌<◌, ◌≤◌, Bool, true, cond, List, [], ◌∷◌, ◌++◌, Option, Some, None, length, map, refl, sym, ap, ap₂, subst}
use Rattle.std.proofs.{Common.{◌∙◌, arith}, lemmas.List.{length-map}}
use Rattle.std.specs.{Prelude.{codes, option_map, unwrap_or, IfSome}, Fmt.{decimal}, List.{flat_map}, Option.{option_map_or}}
use Rattle.byte_flow.specs.History.{OpenedFile}
use Rattle.coinst_words.specs.{Jobs.{job_of}, Usage.{Text}, declared.job.Job.TheVariants.{Explain}}
use Rattle.deb_version.specs.Names.{is_name}
use Rattle.clause_solver.specs.declared.outcomes.Verdict.{Verdict}
use Rattle.clause_solver.specs.declared.outcomes.Verdict.TheVariants as verdict
use Rattle.explain_core.specs.{Core.{goal_core, goal_numbered, marked_goals, marks_of}, Explaining.{clashes_for, explained_by}, Meaning.{IsCoreOf}, Only.{pair}}
use Rattle.explain_core.specs.{Reasons.{clashes_of, conflicts_reached, reasons_of}, OnStanzas.{AreEnough, IsTellable}, Picking.{ArePlacesFrom1}}
use Rattle.explain_core.specs.{declared.explanation.Clash.{Clash}, declared.explanation.Explanation.TheVariants.{Core}, declared.explanation.Mark.{Mark}}
use Rattle.explain_core.proofs.Tellable.{explanation_tellable}
use Rattle.suite_compare.specs.{Indexes.{searched}, Asking.{verdict_in, wanted_by}, Refusals.{home_in, packages_in}}
use Rattle.kernel_text.specs.KernelLines.{with_feed}
use Rattle.listed.specs.Lists.{In, here, there}
use Rattle.relation_fields.specs.declared.packages.PackageFacts.{PackageFacts}
use Rattle.repo_model.specs.{FirstFault.{first_fault}, Goals.{any_version, goal_of}, Repository.{suite_repository}, Stanzas.{stanza_at}}
use Rattle.repo_model.specs.declared.goals.Goal.{Goal}
use Rattle.claims.specs.Explained.{AreConflictsFor, AreKept, AreReasonsFor, CouldMeet, IsCoreOfGoals, IsTooLongWith, PrintedGoal, as_clashes, printed_clashes}
use Rattle.claims.specs.{Explained.{printed_core}, Goals.{CanMeet}, Sentences.{ExplainIsTrue, IsFaithfulExplanation}, Settled.{IsPastBudget}}
use Rattle.claims.specs.Sentences.IsFaithfulExplanation.{yes as yes_printed, core as core_printed, undecided as undecided_printed}
use Rattle.claims.proofs.{AskingWords.{explain_words_ask}, Cores.{conflicts_are_kept, could_to, each_wanted, goals_are_kept, printed_goal}}
use Rattle.claims.proofs.{Goals.{AreGoals, word_at, word_is}, Index.{indexes_are_read}, Meeting.{can_meet, meets_goals}}
use Rattle.coinst_run.specs.{Status.{code_of, verdict_status}, declared.answer.ReportVerdict.{ReportVerdict}}
use Rattle.coinst_run.specs.{declared.answer.ReportVerdict.TheVariants.{Done, Negative, Undecided}, ExplainMeaning.{ExplainMeans, MeansExplained}}
use Rattle.coinst_run.specs.{ExplainText.{core_text, clash_count, clashes_text, goal_line, yes_line}, Meaning.{IsMeant, MeansJob}}
use Rattle.coinst_run.specs.QueryText.{goal_word, undecided_text, version_word}
use Rattle.coinst_run.proofs.QuerySentences.{all_known, in_time, named, past}

-- the goals that are marked, by their words
abbrev all_printed : List Text → List Mark → List PrintedGoal
all_printed words marks = map (printed_goal words) marks

version_told : (version : Option Text) → version_word version ≡ option_map_or (λ v. codes "=" ++ v) version []
version_told None = refl
version_told (Some version) = refl

goal_told : (word : Text) (goal : Goal) → goal_of word ≡ Some goal → goal_word goal ≡ word
goal_told word goal e = ap (λ v. goal.name ++ v) (version_told goal.version) ∙ word_is word goal e

module _ (text : Text) (budget limit : ℕ) (hold : Bool) (words : List Text) (goals : List Goal) (z : AreGoals words goals) (accepted : first_fault text ≡ None) where
  abbrev index : SearchedIndex
  index = (searched text budget limit hold)

  abbrev stanzas : List PackageFacts
  stanzas = packages_in text

  abbrev core_marks : List Mark
  core_marks = marks_of (goal_core limit hold (home_in text) stanzas budget goals)

  known_names : (n : ℕ) → n < length stanzas → is_name (stanza_at stanzas n).name ≡ true
  known_names = named text budget limit hold words goals z accepted

  -- each marked goal has its word
  marked_word : (m : Mark) → (0 < m.goal) × (m.goal ≤ length goals) → (goal_of (printed_goal words m).word ≡ Some (goal_numbered goals m.goal)) × In (printed_goal words m).word words
  marked_word m place = word_at words goals (any_version []) z (m.goal - 1) (let low : 0 < m.goal = place.0 in let high : m.goal ≤ length goals = place.1 in omega (arith, low, high))

  marked : (marks : List Mark) → ArePlacesFrom1 (length goals) marks → AreGoals (map (λ g. g.word) (all_printed words marks)) (marked_goals goals marks)
  marked [] p = tt
  marked (m ∷ marks) p = ((marked_word m (p m here)).0, marked marks (λ o i. p o (there i)))

  -- the texts are one
  line_same : (m : Mark) → (0 < m.goal) × (m.goal ≤ length goals) → goal_line goals m ≡ with_feed (cond m.unsettled (codes "goal-open ") (codes "goal ") ++ (printed_goal words m).word)
  line_same m place = ap (λ w. with_feed (cond m.unsettled (codes "goal-open ") (codes "goal ") ++ w)) (goal_told (printed_goal words m).word (goal_numbered goals m.goal) (marked_word m place).0)

  lines_same : (marks : List Mark) → ArePlacesFrom1 (length goals) marks
      → flat_map (goal_line goals) marks ≡ flat_map (λ (t : PrintedGoal). with_feed (cond t.undecided (codes "goal-open ") (codes "goal ") ++ t.word)) (all_printed words marks)
  lines_same [] p = refl
  lines_same (m ∷ marks) p = ap₂ (λ x y. x ++ y) (line_same m (p m here)) (lines_same marks (λ o i. p o (there i)))

  counted : (clashes : Option (List Clash)) → clash_count clashes ≡ length (unwrap_or clashes [])
  counted None = refl
  counted (Some clashes) = refl

  clashes_same : (clashes : Option (List Clash)) → clashes_text stanzas clashes ≡ printed_clashes stanzas clashes
  clashes_same None = refl
  clashes_same (Some clashes) = refl

  core_same : (marks : List Mark) (clashes : Option (List Clash)) → ArePlacesFrom1 (length goals) marks → core_text stanzas goals marks clashes ≡ printed_core stanzas (all_printed words marks) clashes
  unfolding core_text
  core_same marks clashes p =
      let long : length (all_printed words marks) ≡ length marks = simp length-map in
      ap₂ (λ x y. x ++ y ++ with_feed (codes "end " ++ decimal (length marks) ++ codes " " ++ decimal (clash_count clashes))) (lines_same marks p) (clashes_same clashes)
      ∙ ap₂ (λ m n. flat_map (λ (t : PrintedGoal). with_feed (cond t.undecided (codes "goal-open ") (codes "goal ") ++ t.word)) (all_printed words marks) ++ printed_clashes stanzas clashes ++ with_feed (codes "end " ++ decimal m ++ codes " " ++ decimal n))
      (sym long) (counted clashes)

  -- the core
  core_so : (marks : List Mark) → ArePlacesFrom1 (length goals) marks → marks ≡ core_marks → IsCoreOf (home_in text) stanzas goals marks → IsCoreOfGoals index words (all_printed words marks)
  core_so marks p same_marks c = record {
    asked =
        subst (λ ms. AreKept (λ (g : PrintedGoal). g.word) (λ (g : PrintedGoal). g.undecided) (IsPastBudget index) (CanMeet index) [] words (all_printed words ms)) (sym same_marks)
        (goals_are_kept (searched text budget limit hold) accepted words goals z);
    impossible = λ met. c.impossible (meets_goals index (map (λ g. g.word) (all_printed words marks)) (marked_goals goals marks) (marked marks p) known_names met);
  }

  -- the reasons
  module _ (some : List Text) (picked : List Goal) (y : AreGoals some picked) where
    abbrev wanted : List (List ℕ)
    wanted = wanted_by stanzas picked

    abbrev AreKeptPairs : List Clash → Type 0
    AreKeptPairs clashes = AreKept (λ c. pair c.first c.second) (λ c. c.unsettled) (IsTooLongWith index wanted) (λ pairs. CouldMeet index (as_clashes pairs) some) [] (conflicts_reached (suite_repository (home_in text) stanzas) wanted) clashes

    reasons_so : (clashes : Option (List Clash)) → IfSome clashes AreKeptPairs → IfSome clashes (AreEnough (home_in text) stanzas picked) → IfSome clashes (AreReasonsFor index some wanted)
    reasons_so None kept r = tt
    reasons_so (Some clashes) kept r = record {
      conflicts = r.conflicts;
      enough = λ c. r.enough (could_to (searched text budget limit hold) accepted some picked y clashes c);
      kept = kept;
    }

    conflicts_so : (clashes : Option (List Clash)) → clashes ≡ option_map clashes_of (reasons_of (suite_repository (home_in text) stanzas) budget wanted) → IfSome clashes (AreEnough (home_in text) stanzas picked)
        → AreConflictsFor index some clashes
    conflicts_so clashes is r =
        let kept = conflicts_are_kept (searched text budget limit hold) accepted some picked y clashes is in
        record { wanted = wanted; named = each_wanted (searched text budget limit hold) accepted some picked y; whole = kept.0; reasons = reasons_so clashes kept.1 r }

  -- the core that is explained
  core_parts : (v : Verdict) (marks : List Mark) (clashes : Option (List Clash)) → explained_by limit hold (home_in text) stanzas budget goals v ≡ Core marks clashes
      → (marks ≡ core_marks) × (clashes ≡ clashes_for (home_in text) stanzas budget goals marks)
  core_parts verdict.Yes marks clashes e = absurd (let no : ⊥ = cc in no)
  core_parts verdict.Spent marks clashes e = absurd (let no : ⊥ = cc in no)
  core_parts verdict.No marks clashes e =
      let same : core_marks ≡ marks = cc in
      let same_clashes : clashes_for (home_in text) stanzas budget goals core_marks ≡ clashes = cc in
      (sym same, sym same_clashes ∙ ap (clashes_for (home_in text) stanzas budget goals) same)

  explained_so : (verdict : ReportVerdict) (printed : Text) → MeansExplained text goals budget limit hold verdict printed → IsFaithfulExplanation index words (code_of (verdict_status verdict)) printed
  unfolding yes_line undecided_text
  explained_so Done printed m = yes_printed refl m.reads (in_time text budget limit hold words goals z accepted m.within) (can_meet index words goals z m.possible)
  explained_so Negative printed m =
      let tellable : IsTellable (length stanzas) (length goals) (Core m.marks m.clashes) = subst (IsTellable (length stanzas) (length goals)) m.is (explanation_tellable (home_in text) stanzas limit hold budget goals) in
      let places : ArePlacesFrom1 (length goals) m.marks = tellable.0 in
      let parts = core_parts (verdict_in limit hold (home_in text) stanzas budget goals) m.marks m.clashes m.is in
      core_printed refl (all_printed words m.marks) m.clashes (m.reads ∙ core_same m.marks m.clashes places) (in_time text budget limit hold words goals z accepted m.within) (core_so m.marks places parts.0 m.core)
      (conflicts_so (map (λ g. g.word) (all_printed words m.marks)) (marked_goals goals m.marks) (marked m.marks places) m.clashes parts.1 m.reasons)
  explained_so Undecided printed m = undecided_printed refl m.reads (past text budget limit hold words goals z accepted m.spent)

pub explain_is_true : (words : List Text) (readings : List OpenedFile) (verdict : ReportVerdict) (printed : Text) → IsMeant words readings verdict printed → ExplainIsTrue words readings (code_of (verdict_status verdict)) printed
explain_is_true words readings verdict printed m budget limit hold path goals low small o is =
    let b : ℕ = unwrap_or budget 10000 in
    let n : ℕ = unwrap_or limit 65536 in
    let w = explain_words_ask budget limit hold low small path goals m.job o (ap job_of (sym is) ∙ m.asked) in
    let means : MeansJob (Explain path w.0 b n hold) readings verdict printed = subst (λ j. MeansJob j readings verdict printed) w.2 m.means in
    let k : ExplainMeans means.0 w.0 b n hold verdict printed = means.2 in (
      (searched means.0 b n hold),
      means.1,
      indexes_are_read means.0 k.accepted,
      (refl, refl, refl),
      all_known means.0 b n hold goals w.0 w.1 k.accepted k.known,
      explained_so means.0 b n hold goals w.0 w.1 k.accepted verdict printed k.means,
    )
