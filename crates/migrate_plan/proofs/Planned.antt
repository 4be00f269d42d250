-- What holds of a plan: its names, the reason of each line, and that the names taken break nothing.
use Rattle.std.proofs.Common.{◌≡◌, ◌≢◌, ℕ, ◌+◌, ◌<◌, ◌≤◌, false, List, [], ◌∷◌, ◌++◌, length, get_or, drop, map, Some, None, Option, refl, sym, ap, ◌∙◌, subst}
use Rattle.std.proofs.{Common.{◌⊎◌, inl, inr, append_assoc}, lemmas.List.{append-nil, drop_all, drop_more, map-append}}
use Rattle.row_book.specs.Rounds.{PassedRound}
use Rattle.listed.specs.Lists.{In}
use Rattle.listed.proofs.Lists.{In_append_cases, In_cases, In_none}
use Rattle.stanza_reader.specs.declared.stanza.RawStanza.{RawStanza}
use Rattle.repo_model.specs.{Facts.{facts_of}, FirstFault.{first_fault, home_of}}
use Rattle.suite_compare.specs.{Asking.{verdict_in}, Names.{names_of_both}, Refusals.{home_in, packages_in}, Report.{report}}
use Rattle.suite_compare.specs.{declared.report.ReportLine.{ReportLine}, Indexes.{Judged}, Listing.{ListsExactly, LosesNothing, is_broken}}
use Rattle.suite_compare.proofs.{Deciding.{verdict_is_judged}, Exact.{report_lists_exactly}, Lost.{empty_list_loses_nothing}}
use Rattle.migrate_plan.specs.{Differing.{differing}, Mix.{mix}}
use Rattle.migrate_plan.specs.Plan.{Settings, line_behind, lines_behind, lines_between, outcome_of, passed_in, plan, taken_in, tried_mix}
use Rattle.migrate_plan.specs.{Promises.{AreRight, IsRight, TakesSafely, planned_name, searched_by}, Trying.{AreTakenBy, LeadsToPlan}}
use Rattle.migrate_plan.specs.{declared.plan.PlanLine.{PlanLine}, declared.plan.PlanLine.TheVariants.{Take, LeftLimit, LeftLine}}
use Rattle.migrate_plan.proofs.{Mixed.{mix_of_none}, Told.{unbroken_same}}

pub outcome_name : (name : List ℕ) (passed : Option PassedRound) (told : List ReportLine) → planned_name (outcome_of name passed told) ≡ name
outcome_name name (Some passed) told = refl
outcome_name name None [] = refl
outcome_name name None (line ∷ more) = refl

line_name : (settings : Settings) (old new : List ℕ) (lines : List PlanLine) (name : List ℕ) → planned_name (line_behind settings old new lines name) ≡ name
unfolding line_behind
line_name settings old new lines name = outcome_name name (passed_in settings (tried_mix old new lines name)) (lines_between settings old (tried_mix old new lines name))

-- a line for each name, in their order
names_behind : (line : List PlanLine → List ℕ → PlanLine) → ((lines : List PlanLine) (name : List ℕ) → planned_name (line lines name) ≡ name)
    → (lines : List PlanLine) (names : List (List ℕ)) → map planned_name (lines_behind line lines names) ≡ map planned_name lines ++ names
names_behind line own lines [] = sym (append-nil (map planned_name lines))
names_behind line own lines (name ∷ more) =
    names_behind line own (lines ++ line lines name ∷ []) more
    ∙ ap (λ front. front ++ more) (map-append planned_name lines (line lines name ∷ []) ∙ ap (λ n. map planned_name lines ++ n ∷ []) (own lines name))
    ∙ append_assoc (map planned_name lines) (name ∷ []) more

pub plan_names : (settings : Settings) (old new : List ℕ) → map planned_name (plan settings old new) ≡ differing (packages_in old) (packages_in new)
unfolding plan
plan_names settings old new = names_behind (line_behind settings old new) (line_name settings old new) [] (differing (packages_in old) (packages_in new))

-- an outcome is right by what it comes from
outcome_right : (settings : Settings) (old tried name : List ℕ) (passed : Option PassedRound) (told : List ReportLine) → passed_in settings tried ≡ passed → lines_between settings old tried ≡ told
    → IsRight settings old tried (outcome_of name passed told)
outcome_right settings old tried name (Some passed) told p t = (passed, p)
outcome_right settings old tried name None [] p t = (p, t)
outcome_right settings old tried name None (line ∷ more) p t = (more, p, t)

line_right : (settings : Settings) (old new : List ℕ) (lines : List PlanLine) (name : List ℕ)
    → IsRight settings old (tried_mix old new lines (planned_name (line_behind settings old new lines name))) (line_behind settings old new lines name)
unfolding line_behind
line_right settings old new lines name =
    let tried : List ℕ = tried_mix old new lines name in
    let line : PlanLine = outcome_of name (passed_in settings tried) (lines_between settings old tried) in
    subst (λ n. IsRight settings old (tried_mix old new lines n) line) (sym (outcome_name name (passed_in settings tried) (lines_between settings old tried)))
    (outcome_right settings old tried name (passed_in settings tried) (lines_between settings old tried) refl refl)

-- where names are taken nothing is told of their mix
abbrev IsQuiet : Settings → List ℕ → List ℕ → List PlanLine → Type 0
IsQuiet settings old new lines = (taken_in lines ≡ []) ⊎ (lines_between settings old (mix old new (taken_in lines)) ≡ [])

-- the lines of names behind others
record Behind (settings : Settings) (old new : List ℕ) (lines : List PlanLine) (names : List (List ℕ)) : Type 0 where
  rest : List PlanLine
  are : lines_behind (line_behind settings old new) lines names ≡ lines ++ rest
  right : AreRight settings old new lines rest

behind : (settings : Settings) (old new : List ℕ) (lines : List PlanLine) (names : List (List ℕ)) → Behind settings old new lines names
behind settings old new lines [] = record { rest = []; are = sym (append-nil lines); right = tt }
behind settings old new lines (name ∷ more) =
    let line : PlanLine = line_behind settings old new lines name in
    let next = behind settings old new (lines ++ line ∷ []) more in
    record { rest = line ∷ next.rest; are = next.are ∙ append_assoc lines (line ∷ []) next.rest; right = (line_right settings old new lines name, next.right) }

pub plan_right : (settings : Settings) (old new : List ℕ) → AreRight settings old new [] (plan settings old new)
unfolding plan
plan_right settings old new =
    let b = behind settings old new [] (differing (packages_in old) (packages_in new)) in
    subst (AreRight settings old new []) (sym b.are) b.right

taken_join : (xs ys : List PlanLine) → taken_in (xs ++ ys) ≡ taken_in xs ++ taken_in ys
taken_join [] ys = refl
taken_join (Take name ∷ xs) ys = ap (λ more. name ∷ more) (taken_join xs ys)
taken_join (LeftLimit name ∷ xs) ys = taken_join xs ys
taken_join (LeftLine name line ∷ xs) ys = taken_join xs ys

quiet_push : (settings : Settings) (old new : List ℕ) (lines : List PlanLine) (line : PlanLine) → IsRight settings old (tried_mix old new lines (planned_name line)) line
    → IsQuiet settings old new lines → IsQuiet settings old new (lines ++ line ∷ [])
quiet_push settings old new lines (Take name) right quiet =
    inr (ap (λ taken. lines_between settings old (mix old new taken)) (taken_join lines (Take name ∷ [])) ∙ right.1)
quiet_push settings old new lines (LeftLimit name) right quiet =
    let same : taken_in (lines ++ LeftLimit name ∷ []) ≡ taken_in lines = taken_join lines (LeftLimit name ∷ []) ∙ append-nil (taken_in lines) in
    subst (λ taken. (taken ≡ []) ⊎ (lines_between settings old (mix old new taken) ≡ [])) (sym same) quiet
quiet_push settings old new lines (LeftLine name told) right quiet =
    let same : taken_in (lines ++ LeftLine name told ∷ []) ≡ taken_in lines = taken_join lines (LeftLine name told ∷ []) ∙ append-nil (taken_in lines) in
    subst (λ taken. (taken ≡ []) ⊎ (lines_between settings old (mix old new taken) ≡ [])) (sym same) quiet

quiet_walk : (settings : Settings) (old new : List ℕ) (lines rest : List PlanLine) → AreRight settings old new lines rest → IsQuiet settings old new lines → IsQuiet settings old new (lines ++ rest)
quiet_walk settings old new lines [] right quiet = subst (IsQuiet settings old new) (sym (append-nil lines)) quiet
quiet_walk settings old new lines (line ∷ more) right quiet =
    subst (IsQuiet settings old new) (append_assoc lines (line ∷ []) more) (quiet_walk settings old new (lines ++ line ∷ []) more right.1 (quiet_push settings old new lines line right.0 quiet))

-- an index is compared with a mix of no name as with itself
none_taken : (settings : Settings) (old new : List ℕ) → first_fault old ≡ None → first_fault new ≡ None → (line : ReportLine) → In line (lines_between settings old (mix old new [])) → is_broken line ≡ false
unfolding lines_between
none_taken settings old new old_fine new_fine line i =
    let same = mix_of_none old new old_fine new_fine in
    let told = λ (stanzas : List RawStanza). report
    (verdict_in settings.limit settings.hold (home_in old) (packages_in old) settings.budget)
    (verdict_in settings.limit settings.hold (record { name = home_of stanzas }) (map facts_of stanzas) settings.budget)
    (names_of_both (packages_in old) (map facts_of stanzas)) in
    unbroken_same (verdict_in settings.limit settings.hold (home_in old) (packages_in old) settings.budget) (names_of_both (packages_in old) (packages_in old)) line
    (subst (λ stanzas. In line (told stanzas)) same i)

-- what is told of two indexes lists exactly what is broken and what is open
lines_exact : (settings : Settings) (old new : List ℕ) → ListsExactly Judged (searched_by settings old) (searched_by settings new) (lines_between settings old new)
unfolding lines_between
lines_exact settings old new =
    report_lists_exactly (searched_by settings old) (searched_by settings new)
    (verdict_in settings.limit settings.hold (home_in old) (packages_in old) settings.budget)
    (verdict_in settings.limit settings.hold (home_in new) (packages_in new) settings.budget)
    (λ goals. verdict_is_judged settings.limit settings.hold (home_in old) (packages_in old) settings.budget goals)
    (λ goals. verdict_is_judged settings.limit settings.hold (home_in new) (packages_in new) settings.budget goals)

nothing_lost : (settings : Settings) (old new : List ℕ) → lines_between settings old new ≡ [] → LosesNothing (searched_by settings old) (searched_by settings new)
nothing_lost settings old new silent =
    empty_list_loses_nothing (searched_by settings old) (searched_by settings new)
    (subst (ListsExactly Judged (searched_by settings old) (searched_by settings new)) silent (lines_exact settings old new))

pub plan_safe : (settings : Settings) (old new : List ℕ) → first_fault old ≡ None → first_fault new ≡ None → TakesSafely settings old new (plan settings old new)
plan_safe settings old new old_fine new_fine =
    let lines : List PlanLine = plan settings old new in
    let quiet : IsQuiet settings old new lines = quiet_walk settings old new [] lines (plan_right settings old new) (inl refl) in
    let silent : taken_in lines ≢ [] → lines_between settings old (mix old new (taken_in lines)) ≡ [] = λ some. elim quiet [ inl none ↦ absurd (some none) | inr e ↦ e ] in
    record {
      unbroken = λ line i. elim quiet [
        | inl none ↦ none_taken settings old new old_fine new_fine line (subst (λ taken. In line (lines_between settings old (mix old new taken))) none i)
        | inr e ↦ absurd (In_none (subst (In line) e i))
      ];
      silent = silent;
      keeps = λ some. nothing_lost settings old (mix old new (taken_in lines)) (silent some);
    }

-- the loop of the plan: at its start, one name more, and at its end
pub taken_first : (lines : List PlanLine) (names taken : List (List ℕ)) → lines ≡ [] → taken ≡ [] → AreTakenBy lines names taken
taken_first lines names taken none empty = record {
  taken_is = empty ∙ ap taken_in (sym none);
  among = λ name i. absurd (In_none (subst (In name) empty i));
}

pub taken_more : (lines more : List PlanLine) (names taken new : List (List ℕ)) (name : List ℕ) (next : PlanLine) → In name names → planned_name next ≡ name → more ≡ lines ++ next ∷ [] → new ≡ taken ++ taken_in (next ∷ [])
    → AreTakenBy lines names taken → AreTakenBy more names new
taken_more lines more names taken new name next inside own pushed put h = record {
  taken_is = put ∙ ap (λ front. front ++ taken_in (next ∷ [])) h.taken_is ∙ sym (taken_join lines (next ∷ [])) ∙ ap taken_in (sym pushed);
  among = λ other i. elim (In_append_cases taken (taken_in (next ∷ [])) other (subst (In other) put i)) [
    | inl j ↦ h.among other j
    | inr j ↦ subst (λ n. In n names) (sym (only next other j ∙ own)) inside
  ];
}
  where
    only : (one : PlanLine) (other : List ℕ) → In other (taken_in (one ∷ [])) → other ≡ planned_name one
    only (Take n) other i = elim (In_cases i) [ inl e ↦ e | inr none ↦ absurd (In_none none) ]
    only (LeftLimit n) other i = absurd (In_none i)
    only (LeftLine n told) other i = absurd (In_none i)

module _ (line : List PlanLine → List ℕ → PlanLine) (names : List (List ℕ)) where
  pub leads_first : (lines : List PlanLine) → lines ≡ [] → LeadsToPlan line names 0 lines
  leads_first lines none = ap (λ front. lines_behind line front names) none

  pub leads_more : (place : ℕ) (lines more : List PlanLine) (name : List ℕ) (next : PlanLine) → place < length names → name ≡ get_or names place name → next ≡ line lines name → more ≡ lines ++ next ∷ []
      → LeadsToPlan line names place lines → LeadsToPlan line names (place + 1) more
  leads_more place lines more name next within is made pushed leads =
      let behind : drop place names ≡ name ∷ drop (place + 1) names = drop_more names place name within ∙ ap (λ n. n ∷ drop (place + 1) names) (sym is) in
      ap (λ front. lines_behind line front (drop (place + 1) names)) (pushed ∙ ap (λ l. lines ++ l ∷ []) made) ∙ ap (lines_behind line lines) (sym behind) ∙ leads

  pub leads_all : (place : ℕ) (lines : List PlanLine) → length names ≤ place → LeadsToPlan line names place lines → lines ≡ lines_behind line [] names
  leads_all place lines end leads = sym (ap (lines_behind line lines) (drop_all place names end)) ∙ leads

-- the lines that are made are the plan
pub plan_is : (settings : Settings) (old new : List ℕ) (names : List (List ℕ)) (lines : List PlanLine) → names ≡ differing (packages_in old) (packages_in new) → lines ≡ lines_behind (line_behind settings old new) [] names
    → lines ≡ plan settings old new
unfolding plan
plan_is settings old new names lines are made = made ∙ ap (lines_behind (line_behind settings old new) []) are
