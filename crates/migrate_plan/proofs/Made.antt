-- The line that is made by a mix.
use Rattle.std.proofs.Common.{◌≡◌, ℕ, Bool, List, [], ◌∷◌, ◌++◌, map, Some, None, Option, Result, Ok, Err, IfOk, inl, inr, sym, ap, ◌∙◌, subst}
use Rattle.relation_fields.specs.{declared.packages.Home.{Home}, declared.packages.PackageFacts.{PackageFacts}}
use Rattle.row_book.specs.Rounds.{PassedRound, limit_at}
use Rattle.listed.specs.Lists.{In}
use Rattle.listed.proofs.Lists.{In_append_cases, In_cases, In_none}
use Rattle.repo_model.specs.{Feeding.{IsSuiteOf}, Laws.{but_line}, Repository.{suite_repository}}
use Rattle.suite_compare.specs.{Refusals.{home_in, packages_in, RefusesSuite}, declared.refusals.LimitError.TheVariants.{Limit}, Report.{first_told}}
use Rattle.suite_compare.specs.declared.report.ReportLine.{ReportLine}
use Rattle.migrate_plan.specs.{Mix.{mix}, Plan.{line_behind, lines_between, outcome_of, passed_in, taken_in, Settings}, Trying.{outcome_by, told_of, IsViewAt}}
use Rattle.migrate_plan.specs.{declared.plan.PlanLine.{PlanLine}, declared.plan.PlanLine.TheVariants.{Take, LeftLimit, LeftLine}}
use Rattle.migrate_plan.proofs.MixedFacts.{outcome_alike}

pub home_is : (text : List ℕ) (home : Home) (packages : List PackageFacts) → IsSuiteOf text packages home.name → home ≡ home_in text
home_is text home packages suite = ap (λ name. record { name = name }) suite.common

module _ (settings : Settings) (old_home : Home) (old : List PackageFacts) (home : Home) (packages : List PackageFacts) (name : List ℕ) (line : PlanLine) where
  -- the line of a name whose mix is within the limit
  pub line_made : (made_home : Home) (made : List PackageFacts) → limit_at settings.limit settings.hold (suite_repository home packages) ≡ None → made ≡ packages → made_home ≡ home
      → line ≡ outcome_of name None (told_of settings old_home old made_home made) → line ≡ outcome_by settings old_home old home packages name
  line_made made_home made within same at told =
      told ∙ ap (λ h. outcome_of name None (told_of settings old_home old h made)) at ∙ ap (λ ps. outcome_of name None (told_of settings old_home old home ps)) same
      ∙ ap (λ passed. outcome_of name passed (told_of settings old_home old home packages)) (sym within)

  -- the line of a name whose mix passes it
  pub limit_made : (passed : PassedRound) → limit_at settings.limit settings.hold (suite_repository home packages) ≡ Some passed → line ≡ LeftLimit name → line ≡ outcome_by settings old_home old home packages name
  limit_made passed is told = told ∙ ap (λ found. outcome_of name found (told_of settings old_home old home packages)) (sym is)

-- the same, of what is answered
pub line_answered : {E : Type 0} (settings : Settings) (old_home : Home) (old : List PackageFacts) (home : Home) (packages : List PackageFacts) (name : List ℕ) (made_home : Home) (made : List PackageFacts)
    → limit_at settings.limit settings.hold (suite_repository home packages) ≡ None → made ≡ packages → made_home ≡ home → (result : Result PlanLine E)
    → IfOk result (λ line. line ≡ outcome_of name None (told_of settings old_home old made_home made)) → IfOk result (λ line. line ≡ outcome_by settings old_home old home packages name)
line_answered settings old_home old home packages name made_home made within same at (Ok line) told = line_made settings old_home old home packages name line made_home made within same at told
line_answered settings old_home old home packages name made_home made within same at (Err error) told = told

-- the line of a name behind others, by the mix that was made
pub behind_made : (settings : Settings) (old new name : List ℕ) (taken : List (List ℕ)) (old_home home : Home) (olds packages : List PackageFacts) (line : PlanLine) → IsSuiteOf old olds old_home.name
    → map but_line packages ≡ map but_line (packages_in (mix old new (taken ++ name ∷ []))) → home ≡ home_in (mix old new (taken ++ name ∷ [])) → line ≡ outcome_by settings old_home olds home packages name
    → (lines : List PlanLine) → taken ≡ taken_in lines → line ≡ line_behind settings old new lines name
unfolding line_behind passed_in lines_between
behind_made settings old new name taken old_home home olds packages line suite are at made lines same =
    let tried : List ℕ = mix old new (taken ++ name ∷ []) in
    made ∙ ap (λ h. outcome_by settings h olds home packages name) (home_is old old_home olds suite)
    ∙ ap (λ ps. outcome_by settings (home_in old) ps home packages name) suite.facts
    ∙ ap (λ h. outcome_by settings (home_in old) (packages_in old) h packages name) at
    ∙ outcome_alike settings (home_in old) (packages_in old) (home_in tried) packages (packages_in tried) name are
    ∙ ap (λ names. outcome_by settings (home_in old) (packages_in old) (home_in (mix old new (names ++ name ∷ []))) (packages_in (mix old new (names ++ name ∷ []))) name) same

-- the names that are taken and the one that is tried are names that differ
pub all_inside : (taken all : List (List ℕ)) (name : List ℕ) → ((other : List ℕ) → In other taken → In other all) → In name all → (other : List ℕ) → In other (taken ++ name ∷ []) → In other all
all_inside taken all name inside own other i = elim (In_append_cases taken (name ∷ []) other i) [
  | inl j ↦ inside other j
  | inr j ↦ elim (In_cases j) [ inl e ↦ subst (λ n. In n all) (sym e) own | inr none ↦ absurd (In_none none) ]
]

-- a refusal is the limit
pub limit_there : (home : Home) (packages : List PackageFacts) (limit : ℕ) (hold : Bool) (round gone number count : ℕ) (name version : List ℕ) → RefusesSuite home packages limit hold (Limit round gone number count name version)
    → IsViewAt home packages limit hold None
limit_there home packages limit hold round gone number count name version h = (record { number = round; gone = gone; over = number; count = count }, h.there)

-- the line of a name by the first line of a list, or none: it is taken where the list is empty, and else it is left with that line
pub taken_by_none : (name made : List ℕ) (first : Option ReportLine) (told : List ReportLine) → made ≡ name → first ≡ None → first ≡ first_told told → Take made ≡ outcome_of name None told
taken_by_none name made first [] same is so = ap Take same
taken_by_none name made first (line ∷ more) same is so = let e : None ≡ Some line = sym is ∙ so in absurd cc

pub left_by_first : (name made : List ℕ) (first : Option ReportLine) (line : ReportLine) (told : List ReportLine) → made ≡ name → first ≡ Some line → first ≡ first_told told → LeftLine made line ≡ outcome_of name None told
left_by_first name made first line [] same is so = let e : Some line ≡ None = sym is ∙ so in absurd cc
left_by_first name made first line (other ∷ more) same is so =
    let e : Some line ≡ Some other = sym is ∙ so in
    let l : line ≡ other = cc in
    ap (λ n. LeftLine n line) same ∙ ap (LeftLine name) l
