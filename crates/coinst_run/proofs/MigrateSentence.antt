-- The sentence of `migrate`, from what its report means.
use Rattle.suite_compare.specs.{Indexes.{HasPackageOf, Judged, SearchedIndex, searched}, Listing.{BothHave, ListsExactly, LosesNothing, is_broken}}
use Rattle.suite_compare.specs.{Asking.{verdict_in}, Refusals.{home_in, packages_in}, declared.report.ReportLine.{ReportLine}}
use Rattle.std.proofs.Common.{◌≡◌, ℕ, ◌+◌, ◌-◌, ◌≤◌, Bool, true, false, cond, not, ◌==◌, ◌||◌, List, [], ◌∷◌, ◌++◌, None, filter, length, map, refl, sym, ap}
use Rattle.std.proofs.{Common.{ap₂, subst, ◌∙◌, arith, append_assoc, inl, inr}, lemmas.List.{append-nil}}
use Rattle.std.specs.{Prelude.{codes, unwrap_or}, List.{flat_map, list_any}}
use Rattle.byte_flow.specs.History.{OpenedFile}
use Rattle.clause_pool.specs.Lists.{InOrder}
use Rattle.coinst_words.specs.{Jobs.{job_of}, Usage.{Text}, declared.job.Job.TheVariants.{Migrate}}
use Rattle.suite_compare.proofs.{Exact.{report_lists_exactly}, Deciding.{verdict_is_judged}}
use Rattle.kernel_text.specs.KernelLines.{with_feed}
use Rattle.listed.specs.Lists.{In, here, there}
use Rattle.listed.proofs.Lists.{In_cases, In_none, flat_same}
use Rattle.migrate_plan.specs.{Differing.{differing}, Mix.{mix}, Plan.{Settings, lines_between, passed_in, plan_settings, taken_in, tried_mix}}
use Rattle.migrate_plan.specs.{Promises.{AreRight, IsRight, planned_name, searched_by}, declared.plan.PlanLine.{PlanLine}}
use Rattle.migrate_plan.specs.declared.plan.PlanLine.TheVariants.{Take, LeftLimit, LeftLine}
use Rattle.repo_model.specs.{FirstFault.{first_fault}, Repository.{suite_repository}}
use Rattle.repo_model.proofs.SoundSuite.{suite_sound}
use Rattle.claims.specs.{Goals.{CanMeet}, Kernel.{PassesOnTheWay}, Plans.{line_status, plan_status, printed_plan, printed_step}}
use Rattle.claims.specs.Sentences.{IsFaithfulList, IsFaithfulPlan, IsRightStep, MigrateIsTrue}
use Rattle.claims.proofs.{AskingWords.{migrate_words_ask}, CompareSentence.{comparisons_mean_this, installs_from, installs_to, two_of}}
use Rattle.claims.proofs.{Index.{indexes_are_read}, Passing.{passes_not, passes_so}, Plans.{differing_order, differs_from, differs_to, mix_is}}
use Rattle.coinst_run.specs.{Lines.{end_text}, Meaning.{IsMeant, MeansJob}, MigrateMeaning.{MigrateMeans}}
use Rattle.coinst_run.specs.{MigrateText.{is_not_taken, is_take, plan_line, plan_text, plan_verdict, would_break}, Status.{code_of, verdict_status}}
use Rattle.coinst_run.specs.{declared.answer.ReportVerdict.{ReportVerdict}, declared.answer.ReportVerdict.TheVariants.{Done, Negative, Undecided}}
use Rattle.coinst_run.proofs.Sentences.{same_line}

-- the texts are one
step_same : (l : PlanLine) → plan_line l ≡ printed_step l
step_same (Take name) = refl
step_same (LeftLimit name) = ap with_feed (append_assoc (codes "left " ++ name) (codes " ") (codes "limit"))
step_same (LeftLine name line) = ap (λ t. codes "left " ++ name ++ codes " " ++ t) (same_line line)

takes : (lines : List PlanLine) → length (filter is_take lines) ≡ length (taken_in lines)
takes [] = refl
takes (Take name ∷ lines) = let more = takes lines in omega (arith, more)
takes (LeftLimit name ∷ lines) = takes lines
takes (LeftLine name line ∷ lines) = takes lines

few_taken : (lines : List PlanLine) → length (taken_in lines) ≤ length lines
few_taken [] = omega arith
few_taken (Take name ∷ lines) = let more = few_taken lines in omega (arith, more)
few_taken (LeftLimit name ∷ lines) = let more = few_taken lines in omega (arith, more)
few_taken (LeftLine name line ∷ lines) = let more = few_taken lines in omega (arith, more)

leaves : (lines : List PlanLine) → length (filter is_not_taken lines) ≡ length lines - length (taken_in lines)
leaves [] = refl
leaves (Take name ∷ lines) = let more = leaves lines in let few = few_taken lines in omega (arith, more, few)
leaves (LeftLimit name ∷ lines) = let more = leaves lines in let few = few_taken lines in omega (arith, more, few)
leaves (LeftLine name line ∷ lines) = let more = leaves lines in let few = few_taken lines in omega (arith, more, few)

plan_same : (lines : List PlanLine) → plan_text lines ≡ printed_plan lines
unfolding plan_text
plan_same lines =
    ap (λ t. t ++ end_text (length (filter is_take lines)) (length (filter is_not_taken lines))) (flat_same plan_line printed_step lines (λ l i. step_same l))
    ∙ ap₂ (λ m n. flat_map printed_step lines ++ end_text m n) (takes lines) (leaves lines)

-- the status in both spellings
broken_same : (lines : List PlanLine) → list_any would_break lines ≡ list_any (λ l. line_status l == 1) lines
broken_same [] = refl
broken_same (Take name ∷ lines) = broken_same lines
broken_same (LeftLimit name ∷ lines) = broken_same lines
broken_same (LeftLine name line ∷ lines) = ap₂ (λ a b. a || b) (is_one (is_broken line)) (broken_same lines)
  where
    is_one : (b : Bool) → b ≡ (cond b 1 8 == 1)
    is_one true = refl
    is_one false = refl

left_same : (lines : List PlanLine) → list_any is_not_taken lines ≡ list_any (λ l. not (line_status l == 0)) lines
left_same [] = refl
left_same (Take name ∷ lines) = left_same lines
left_same (LeftLimit name ∷ lines) = refl
left_same (LeftLine name line ∷ lines) = ap (λ a. a || list_any (λ l. not (line_status l == 0)) lines) (is_left (is_broken line))
  where
    is_left : (b : Bool) → true ≡ not (cond b 1 8 == 0)
    is_left true = refl
    is_left false = refl

plan_ends : (lines : List PlanLine) → code_of (verdict_status (plan_verdict lines)) ≡ plan_status lines
plan_ends lines = by (list_any would_break lines) (list_any is_not_taken lines) ∙ ap₂ (λ a b. cond a 1 (cond b 8 0)) (broken_same lines) (left_same lines)
  where
    by : (a b : Bool) → code_of (verdict_status (cond a Negative (cond b Undecided Done))) ≡ cond a 1 (cond b 8 0)
    by true b = refl
    by false true = refl
    by false false = refl

-- the names that are taken are among those of the lines
taken_named : (lines : List PlanLine) (name : Text) → In name (taken_in lines) → In name (map planned_name lines)
taken_named [] name i = absurd (In_none i)
taken_named (Take own ∷ lines) name i = elim (In_cases i) [ inl same ↦ subst (λ n. In n (own ∷ map planned_name lines)) (sym same) here | inr j ↦ there (taken_named lines name j) ]
taken_named (LeftLimit own ∷ lines) name i = there (taken_named lines name i)
taken_named (LeftLine own line ∷ lines) name i = there (taken_named lines name i)

front_named : (front back : List PlanLine) (l : PlanLine) (name : Text) → In name (taken_in front ++ planned_name l ∷ []) → In name (map planned_name (front ++ l ∷ back))
front_named [] back l name i = elim (In_cases i) [ inl same ↦ subst (λ n. In n (planned_name l ∷ map planned_name back)) (sym same) here | inr j ↦ absurd (In_none j) ]
front_named (Take own ∷ front) back l name i = elim (In_cases i) [
  | inl same ↦ subst (λ n. In n (own ∷ map planned_name (front ++ l ∷ back))) (sym same) here
  | inr j ↦ there (front_named front back l name j)
]
front_named (LeftLimit own ∷ front) back l name i = there (front_named front back l name i)
front_named (LeftLine own line ∷ front) back l name i = there (front_named front back l name i)

-- each line is right
right_at : (settings : Settings) (old new : Text) (before front back : List PlanLine) (l : PlanLine) → AreRight settings old new before (front ++ l ∷ back) → IsRight settings old (tried_mix old new (before ++ front) (planned_name l)) l
right_at settings old new before [] back l r = subst (λ lines. IsRight settings old (tried_mix old new lines (planned_name l)) l) (sym (append-nil before)) r.0
right_at settings old new before (x ∷ front) back l r =
    subst (λ lines. IsRight settings old (tried_mix old new lines (planned_name l)) l) (append_assoc before (x ∷ []) front) (right_at settings old new (before ++ x ∷ []) front back l r.1)

lines_are : (settings : Settings) (old new : Text) → ListsExactly Judged (searched_by settings old) (searched_by settings new) (lines_between settings old new)
unfolding lines_between
lines_are settings old new =
    report_lists_exactly (searched_by settings old) (searched_by settings new)
    (verdict_in settings.limit settings.hold (home_in old) (packages_in old) settings.budget)
    (verdict_in settings.limit settings.hold (home_in new) (packages_in new) settings.budget)
    (λ goals. verdict_is_judged settings.limit settings.hold (home_in old) (packages_in old) settings.budget goals)
    (λ goals. verdict_is_judged settings.limit settings.hold (home_in new) (packages_in new) settings.budget goals)

module _ (old new : Text) (budget limit : ℕ) (hold : Bool) where
  abbrev settings : Settings
  settings = plan_settings budget limit hold

  abbrev index : Text → SearchedIndex
  index text = (searched text budget limit hold)

  compared : (tried : Text) (lines : List ReportLine) → first_fault old ≡ None → first_fault tried ≡ None → lines_between settings old tried ≡ lines → IsFaithfulList (index old) (index tried) lines
  compared tried lines fine other is =
      comparisons_mean_this (searched_by settings old) (searched_by settings tried) lines fine other (subst (ListsExactly Judged (searched_by settings old) (searched_by settings tried)) is (lines_are settings old tried))

  within : (tried : Text) → passed_in settings tried ≡ None → ¬ (PassesOnTheWay limit hold (suite_repository (home_in tried) (packages_in tried)))
  unfolding passed_in
  within tried e = passes_not limit hold (suite_repository (home_in tried) (packages_in tried)) (suite_sound (home_in tried) (packages_in tried)) e

  step_right : (tried : Text) (l : PlanLine) → first_fault old ≡ None → first_fault tried ≡ None → IsRight settings old tried l → IsRightStep (index old) (index tried) l
  unfolding passed_in
  step_right tried (Take name) fine other r = (within tried r.0, compared tried [] fine other r.1)
  step_right tried (LeftLimit name) fine other r = passes_so limit hold (suite_repository (home_in tried) (packages_in tried)) (suite_sound (home_in tried) (packages_in tried)) r.0 r.1
  step_right tried (LeftLine name line) fine other r = (within tried r.1, (r.0, compared tried (line ∷ r.0) fine other r.2))

  two_kept : (tried : Text) → first_fault old ≡ None → first_fault tried ≡ None → LosesNothing (searched old budget limit hold) (searched tried budget limit hold) → (a b : Text) → HasPackageOf (index old) a → HasPackageOf (index tried) a → HasPackageOf (index old) b → HasPackageOf (index tried) b
      → CanMeet (index old) (a ∷ (b ∷ [])) → CanMeet (index tried) (a ∷ (b ∷ []))
  two_kept tried fine other keeps a b oa ta ob tb i =
      let first : BothHave (searched old budget limit hold) (searched tried budget limit hold) a = (oa, ta) in
      let second : BothHave (searched old budget limit hold) (searched tried budget limit hold) b = (ob, tb) in
      installs_from (searched tried budget limit hold) other (a ∷ (b ∷ [])) (two_of (index tried) a b ta tb)
      (keeps.pairs a b first second (installs_to (searched old budget limit hold) fine (a ∷ (b ∷ [])) (two_of (index old) a b oa ob) i))

  plan_so : (verdict : ReportVerdict) (printed : Text) (k : MigrateMeans old new budget limit hold verdict printed) → IsFaithfulPlan (index old) (index new) k.lines
  plan_so verdict printed k =
      let all : List Text = differing (packages_in old) (packages_in new) in record {
        older = indexes_are_read old k.old_accepted;
        newer = indexes_are_read new k.new_accepted;
        order = subst InOrder (sym k.names) (differing_order (packages_in old) (packages_in new));
        names = λ name. (
          (λ i. differs_to (packages_in old) (packages_in new) name (subst (In name) k.names i)),
          (λ d. subst (In name) (sym k.names) (differs_from (packages_in old) (packages_in new) name d)),
        );
        each = λ front back l e.
            let taken : List Text = taken_in front ++ planned_name l ∷ [] in
            let fine : first_fault (mix old new taken) ≡ None = k.mixes taken (λ name i. subst (In name) (ap (map planned_name) (sym e) ∙ k.names) (front_named front back l name i)) in (
              index (mix old new taken),
              mix_is (searched old budget limit hold) (searched new budget limit hold) taken k.old_accepted k.new_accepted fine,
              step_right (mix old new taken) l k.old_accepted fine (right_at settings old new [] front back l (subst (AreRight settings old new []) e k.each)),
            );
        last = λ some.
            let taken : List Text = taken_in k.lines in
            let fine : first_fault (mix old new taken) ≡ None = k.mixes taken (λ name i. subst (In name) k.names (taken_named k.lines name i)) in (
              index (mix old new taken),
              mix_is (searched old budget limit hold) (searched new budget limit hold) taken k.old_accepted k.new_accepted fine,
              two_kept (mix old new taken) k.old_accepted fine (k.safely.keeps some),
            );
      }

pub migrate_is_true : (words : List Text) (readings : List OpenedFile) (verdict : ReportVerdict) (printed : Text) → IsMeant words readings verdict printed → MigrateIsTrue words readings (code_of (verdict_status verdict)) printed
migrate_is_true words readings verdict printed m budget limit hold first second low small is =
    let b : ℕ = unwrap_or budget 10000 in
    let n : ℕ = unwrap_or limit 65536 in
    let job = migrate_words_ask budget limit hold low small first second m.job (ap job_of (sym is) ∙ m.asked) in
    let means : MeansJob (Migrate first second b n hold) readings verdict printed = subst (λ j. MeansJob j readings verdict printed) job m.means in
    let k : MigrateMeans means.0 means.1 b n hold verdict printed = means.3 in (
      (searched means.0 b n hold),
      (searched means.1 b n hold),
      means.2,
      (refl, refl, refl),
      (k.lines, plan_so means.0 means.1 b n hold verdict printed k, k.reads ∙ plan_same k.lines, ap (λ v. code_of (verdict_status v)) k.whole ∙ plan_ends k.lines),
    )
