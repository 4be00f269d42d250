-- The sentence of `status`, from what its report means.
use Rattle.suite_compare.specs.Indexes.{SearchedIndex, searched}
use Rattle.std.proofs.Common.{◌≡◌, ℕ, zero, suc, ◌+◌, ◌-◌, ◌<◌, Bool, true, false, not, cond, eqb, List, [], ◌∷◌, ◌++◌, Some, None, filter, length, map, refl}
use Rattle.std.proofs.{Common.{sym, ap, ap₂, subst, ◌∙◌, arith, inl, inr, eqb-true}, lemmas.Bool.{and_from, and_parts, cases_Bool}, lemmas.List.{length-map}}
use Rattle.std.specs.{Prelude.{codes, count_by, unwrap_or}, Fmt.{decimal}, List.{flat_map}, Ordering.{is_eq}, Str.{bytes_eq}}
use Rattle.byte_flow.specs.History.{OpenedFile}
use Rattle.clause_solver.specs.{declared.outcomes.Verdict.{Verdict}, declared.outcomes.Verdict.TheVariants.{Yes, No, Spent}}
use Rattle.coinst_words.specs.{Jobs.{job_of}, Usage.{Text}, declared.job.Job.TheVariants.{Status}}
use Rattle.deb_version.specs.Order.{version_order}
use Rattle.kernel_text.specs.KernelLines.{with_feed}
use Rattle.listed.specs.Lists.{In, here, there}
use Rattle.listed.proofs.{Bools.{same_bool}, Lists.{In_at, In_place, any_cases, any_from, filled, filter_cases, filter_same, same_bytes, some_item}}
use Rattle.relation_fields.specs.declared.packages.PackageFacts.{PackageFacts}
use Rattle.repo_model.specs.{FirstFault.{first_fault}, Goals.{goal_of, is_named_by, packages_named}, Stanzas.{no_stanza, stanza_at}, declared.goals.Goal.{Goal}}
use Rattle.repo_model.proofs.Accepted.{Accepted, accepted}
use Rattle.status_check.specs.{Own.{own_home, own_packages}, Report.{goal_for, had_goals, index_has, line_for, state_of}, declared.report.HaveLine.{HaveLine}}
use Rattle.status_check.specs.{declared.report.OwnState.{OwnState}, declared.report.StatusReport.{StatusReport}, declared.report.SuiteState.{SuiteState}}
use Rattle.status_check.specs.declared.report.OwnState.TheVariants as state
use Rattle.status_check.specs.declared.report.SuiteState.TheVariants as suite
use Rattle.suite_compare.specs.{Asking.{HasVerdict, verdict_in}, Refusals.{home_in, packages_in}}
use Rattle.suite_compare.proofs.Deciding.{named_from, named_parts, verdict_is_judged}
use Rattle.claims.specs.{Control.{stanza_groups}, Index.{is_one_package}}
use Rattle.claims.specs.Systems.{goal_word_of, has_package, is_foreign_group, printed_state, printed_system, system_status}
use Rattle.claims.specs.{Sentences.{IsFaithfulSystem, IsSuiteAnswer, StatusIsTrue}, Sentences.IsSuiteAnswer.{suite_no, suite_undecided, suite_yes}}
use Rattle.claims.proofs.{AskingWords.{status_words_ask}, Goals.{AreGoals, goal_cut}, Index.{indexes_are_read}, Meeting.{can_meet}, Members.{text_same}}
use Rattle.claims.proofs.Systems.{Tells, state_of_all, tells}
use Rattle.coinst_run.specs.{Meaning.{IsMeant, MeansJob}, SystemMeaning.{SystemMeans}, Lines.{end_text}}
use Rattle.coinst_run.specs.SystemText.{have_text, is_had as line_had, is_lacking, line_at, own_text, suite_text, system_text, system_verdict}
use Rattle.coinst_run.specs.{Status.{code_of, verdict_status}, declared.answer.ReportVerdict.{ReportVerdict}}
use Rattle.coinst_run.proofs.QuerySentences.{cannot, in_time, past}
use Rattle.suite_compare.proofs.Gathering.{named_inside}

module _ (text : Text) (budget limit : ℕ) (hold : Bool) (fine : first_fault text ≡ None) where
  abbrev index : SearchedIndex
  index = (searched text budget limit hold)

  abbrev stanzas : List PackageFacts
  stanzas = packages_in text

  abbrev is_it : PackageFacts → PackageFacts → Bool
  is_it own it = is_one_package it.name it.version own.name own.version

  -- the index has a package
  had_same : (own : PackageFacts) → index_has stanzas own ≡ has_package index own
  had_same own = same_bool (index_has stanzas own) (has_package index own) to from
    where
      up : (b : Bool) → not b ≡ true → b ≡ false
      up true h = absurd (let no : ⊥ = cc in no)
      up false h = refl

      to : index_has stanzas own ≡ true → has_package index own ≡ true
      to h =
          let n = some_item (packages_named stanzas (goal_for own)) (up (eqb (length (packages_named stanzas (goal_for own))) 0) h) in
          let it : PackageFacts = stanza_at stanzas n.0 in
          let both = and_parts (bytes_eq own.name it.name) (is_eq (version_order it.version own.version)) (named_parts (home_in text) stanzas (goal_for own) n.0 n.1) in
          any_from (is_it own) stanzas it (In_at stanzas n.0 no_stanza (named_inside stanzas (goal_for own) n.0 n.1))
          (and_from (bytes_eq it.name own.name) (is_eq (version_order it.version own.version)) (text_same it.name own.name (sym (same_bytes own.name it.name both.0))) both.1)

      from : has_package index own ≡ true → index_has stanzas own ≡ true
      from h =
          let w = any_cases (is_it own) stanzas h in
          let n = In_place stanzas w.0 no_stanza w.1 in
          let both = and_parts (bytes_eq (w.0).name own.name) (is_eq (version_order (w.0).version own.version)) w.2 in
          let named : is_named_by (goal_for own) w.0 ≡ true
          = and_from (bytes_eq own.name (w.0).name) (is_eq (version_order (w.0).version own.version)) (text_same own.name (w.0).name (sym (same_bytes (w.0).name own.name both.0))) both.1 in
          let at : In n.0 (packages_named stanzas (goal_for own)) = named_from (home_in text) stanzas (goal_for own) n.0 n.1 (subst (λ (s : PackageFacts). is_named_by (goal_for own) s ≡ true) (sym n.2) named) in
          let some : 0 < length (packages_named stanzas (goal_for own)) = filled (packages_named stanzas (goal_for own)) n.0 at in
          elim (cases_Bool (eqb (length (packages_named stanzas (goal_for own))) 0)) [
            | inl t ↦ let none : length (packages_named stanzas (goal_for own)) ≡ 0 = eqb-true (length (packages_named stanzas (goal_for own))) 0 t in absurd (omega (arith, some, none))
            | inr f ↦ rw f refl
          ]

  -- the texts are one
  have_same : (own : List PackageFacts) → flat_map have_text (map (line_for stanzas) own) ≡ flat_map (λ (it : PackageFacts). with_feed (cond (has_package index it) (codes "have ") (codes "lack ") ++ (it.name ++ codes " " ++ it.version))) own
  have_same [] = refl
  have_same (it ∷ own) = ap₂ (λ x y. x ++ y) (by (index_has stanzas it) (has_package index it) (had_same it)) (have_same own)
    where
      by : (a b : Bool) → a ≡ b → have_text (record { name = it.name; version = it.version; had = a }) ≡ with_feed (cond b (codes "have ") (codes "lack ") ++ (it.name ++ codes " " ++ it.version))
      by true true e = refl
      by false false e = refl
      by true false e = absurd (let no : ⊥ = cc in no)
      by false true e = absurd (let no : ⊥ = cc in no)

  name_at : (own : List PackageFacts) (n : ℕ) → (line_at (map (line_for stanzas) own) n).name ≡ (stanza_at own n).name
  name_at [] n = refl
  name_at (it ∷ own) zero = refl
  name_at (it ∷ own) (suc n) = name_at own n

  version_at : (own : List PackageFacts) (n : ℕ) → (line_at (map (line_for stanzas) own) n).version ≡ (stanza_at own n).version
  version_at [] n = refl
  version_at (it ∷ own) zero = refl
  version_at (it ∷ own) (suc n) = version_at own n

  state_same : (own : List PackageFacts) (s : OwnState) → own_text (map (line_for stanzas) own) s ≡ printed_state own s
  state_same own state.Healthy = refl
  state_same own (state.Unhit n) = ap₂ (λ a b. with_feed (codes "self unhit " ++ (a ++ codes " " ++ b))) (name_at own n) (version_at own n)
  state_same own (state.Clash m n) =
      ap₂ (λ a b. with_feed (codes "self clash " ++ a ++ codes " " ++ b))
      (ap₂ (λ a b. a ++ codes " " ++ b) (name_at own m) (version_at own m)) (ap₂ (λ a b. a ++ codes " " ++ b) (name_at own n) (version_at own n))

  count_had : (own : List PackageFacts) → length (filter line_had (map (line_for stanzas) own)) ≡ length (filter (has_package index) own)
  count_had [] = refl
  count_had (it ∷ own) = by (index_has stanzas it) (has_package index it) (had_same it) (count_had own)
    where
      by : (a b : Bool) → a ≡ b → length (filter line_had (map (line_for stanzas) own)) ≡ length (filter (has_package index) own)
          → length (cond a (line_for stanzas it ∷ filter line_had (map (line_for stanzas) own)) (filter line_had (map (line_for stanzas) own))) ≡ length (cond b (it ∷ filter (has_package index) own) (filter (has_package index) own))
      by true true e h = omega (arith, h)
      by false false e h = h
      by true false e h = absurd (let no : ⊥ = cc in no)
      by false true e h = absurd (let no : ⊥ = cc in no)

  lacks : (lines : List HaveLine) → length (filter line_had lines) + length (filter is_lacking lines) ≡ length lines
  lacks [] = refl
  lacks (l ∷ lines) = by l.had (lacks lines)
    where
      by : (a : Bool) → length (filter line_had lines) + length (filter is_lacking lines) ≡ length lines
          → length (cond a (l ∷ filter line_had lines) (filter line_had lines)) + length (cond (not a) (l ∷ filter is_lacking lines) (filter is_lacking lines)) ≡ length (l ∷ lines)
      by true h = omega (arith, h)
      by false h = omega (arith, h)

  count_lacking : (own : List PackageFacts) → length (filter is_lacking (map (line_for stanzas) own)) ≡ length own - length (filter (has_package index) own)
  count_lacking own =
      let all = lacks (map (line_for stanzas) own) in
      let had = count_had own in
      let long : length (map (line_for stanzas) own) ≡ length own = simp length-map in
      omega (arith, all, had, long)

  abbrev suite_words : SuiteState → Text
  suite_words suite.Yes = codes "yes"
  suite_words suite.No = codes "no"
  suite_words (suite.Spent failed) = codes "undecided " ++ decimal budget

  abbrev suite_status : SuiteState → ℕ
  suite_status suite.Yes = 0
  suite_status suite.No = 1
  suite_status (suite.Spent failed) = 8

  -- the statuses are one
  ends_same : (own : OwnState) (s : SuiteState) → code_of (verdict_status (system_verdict own s)) ≡ system_status own (suite_status s)
  ends_same state.Healthy suite.Yes = refl
  ends_same state.Healthy suite.No = refl
  ends_same state.Healthy (suite.Spent failed) = refl
  ends_same (state.Unhit n) s = refl
  ends_same (state.Clash m n) s = refl

  suite_same : (s : SuiteState) → suite_text budget s ≡ with_feed (codes "suite " ++ suite_words s)
  suite_same suite.Yes = refl
  suite_same suite.No = refl
  suite_same (suite.Spent failed) = refl

  -- the goals of the packages that the index has
  words_read : (own : List PackageFacts) → ((s : PackageFacts) → In s own → goal_of (goal_word_of s) ≡ Some (goal_for s)) → AreGoals (map goal_word_of own) (map goal_for own)
  words_read [] f = tt
  words_read (s ∷ own) f = (f s here, words_read own (λ t i. f t (there i)))

  abbrev had_words : List PackageFacts → List Text
  had_words own = map goal_word_of (filter (has_package index) own)

  had_read : (own : List PackageFacts) → ((s : PackageFacts) → In s own → goal_of (goal_word_of s) ≡ Some (goal_for s)) → AreGoals (had_words own) (had_goals stanzas own)
  had_read own f =
      let read : AreGoals (map goal_word_of (filter (has_package index) own)) (map goal_for (filter (has_package index) own)) = words_read (filter (has_package index) own) (λ s i. f s (filter_cases (has_package index) own s i).0) in
      subst (λ had. AreGoals (had_words own) (map goal_for had)) (sym (filter_same (index_has stanzas) (has_package index) own (λ s i. had_same s))) read

  suite_told : (words : List Text) (goals : List Goal) → AreGoals words goals → (v : Verdict) → HasVerdict limit hold (home_in text) stanzas budget goals v → IsSuiteAnswer index words (suite_status (state_of budget v)) (suite_words (state_of budget v))
  suite_told words goals z Yes h = suite_yes (in_time text budget limit hold words goals z fine h.0) (can_meet index words goals z h.1)
  suite_told words goals z No h = suite_no (in_time text budget limit hold words goals z fine h.0) (cannot text budget limit hold words goals z fine h.1)
  suite_told words goals z Spent h = suite_undecided (past text budget limit hold words goals z fine h)

  system_so : (file : Text) (verdict : ReportVerdict) (printed : Text) → SystemMeans text file budget limit hold verdict printed → IsFaithfulSystem index file (code_of (verdict_status verdict)) printed
  unfolding system_text
  system_so file verdict printed k =
      let home = home_in text in
      let t : Tells home file = tells home file k.faultless in
      let own : List PackageFacts = own_packages home file in
      let formed : Accepted own = accepted _ t.fine in
      let goals : List Goal = had_goals stanzas own in
      let read : AreGoals (had_words own) goals = had_read own (λ s i. let n = formed.named s i in goal_cut s.name s.version n.name n.version) in
      let report : StatusReport = k.report in
      let answer : IsSuiteAnswer index (had_words own) (suite_status report.verdict) (suite_words report.verdict)
      = subst (λ s. IsSuiteAnswer index (had_words own) (suite_status s) (suite_words s)) (sym k.decided) (suite_told (had_words own) goals read (verdict_in limit hold home stanzas budget goals) (verdict_is_judged limit hold home stanzas budget goals)) in
      let F : ℕ → Text = λ n. with_feed (codes "foreign " ++ decimal n) in
      let counted : report.foreign ≡ count_by (is_foreign_group home) (stanza_groups file) = k.foreign ∙ t.foreign in
      let lines : List HaveLine = map (line_for stanzas) own in
      let same : system_text budget report ≡ printed_system index own (count_by (is_foreign_group home) (stanza_groups file)) report.own (suite_words report.verdict)
      = ap (λ (ls : List HaveLine). flat_map have_text ls ++ F report.foreign ++ own_text ls report.own ++ suite_text budget report.verdict ++ end_text (length (filter line_had ls)) (length (filter is_lacking ls))) k.has
      ∙ ap₂ (λ x n. x ++ F n ++ own_text lines report.own ++ suite_text budget report.verdict ++ end_text (length (filter line_had lines)) (length (filter is_lacking lines))) (have_same own) counted
      ∙ ap₂ (λ x y. flat_map (λ (it : PackageFacts). with_feed (cond (has_package index it) (codes "have ") (codes "lack ") ++ (it.name ++ codes " " ++ it.version))) own ++ F (count_by (is_foreign_group home) (stanza_groups file)) ++ x ++ y
      ++ end_text (length (filter line_had lines)) (length (filter is_lacking lines))) (state_same own report.own) (suite_same report.verdict)
      ∙ ap₂ (λ m n. flat_map (λ (it : PackageFacts). with_feed (cond (has_package index it) (codes "have ") (codes "lack ") ++ (it.name ++ codes " " ++ it.version))) own ++ F (count_by (is_foreign_group home) (stanza_groups file))
      ++ printed_state own report.own ++ with_feed (codes "suite " ++ suite_words report.verdict) ++ end_text m n) (count_had own) (count_lacking own) in
      record {
        groups = t.groups;
        home = own_home home file;
        own = own;
        own_say = t.says;
        state = report.own;
        state_is = state_of_all (own_home home file) own report.own k.own;
        answer = suite_status report.verdict;
        suite = suite_words report.verdict;
        answer_is = answer;
        status_is = ap (λ v. code_of (verdict_status v)) k.whole ∙ ends_same report.own report.verdict;
        bytes_are = k.reads ∙ same;
      }

pub status_is_true : (words : List Text) (readings : List OpenedFile) (verdict : ReportVerdict) (printed : Text) → IsMeant words readings verdict printed → StatusIsTrue words readings (code_of (verdict_status verdict)) printed
status_is_true words readings verdict printed m budget limit hold path index_path low small is =
    let b : ℕ = unwrap_or budget 10000 in
    let n : ℕ = unwrap_or limit 65536 in
    let job = status_words_ask budget limit hold low small path index_path m.job (ap job_of (sym is) ∙ m.asked) in
    let means : MeansJob (Status path index_path b n hold) readings verdict printed = subst (λ j. MeansJob j readings verdict printed) job m.means in
    let k : SystemMeans means.0 means.1 b n hold verdict printed = means.3 in
    ((searched means.0 b n hold), means.1, means.2, indexes_are_read means.0 k.accepted, (refl, refl, refl), system_so means.0 b n hold k.accepted means.1 verdict printed k)
