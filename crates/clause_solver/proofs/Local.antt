-- Verdicts are local.
use Rattle.std.proofs.Common.{◌≡◌, ℕ, ◌<◌, ◌≤◌, false, List, length, map, ◌∙◌, ap, sym, subst, refl, Option, Some, None}
use Rattle.std.specs.Prelude.{is_some}
use Rattle.listed.specs.Lists.{In}
use Rattle.listed.proofs.Lists.{In_map_cases}
use Rattle.row_book.specs.{Sets.{NumSet}, Repository.{Repository}}
use Rattle.search_terms.specs.{Closure.{InRange}, Form.{goal_sentence, form, repository_form}, Local.{ReachStandsIn, SameTree}, Tree.{Tree, found_of}}
use Rattle.search_terms.proofs.{Exists.{tree_exists}, LocalTrees.{tree_is_local_lem, same_finds, same_fails}, Ranges.{goals_ranged}, Sets.{range_append}}
use Rattle.clause_solver.specs.{Laws.{VerdictIsLocal}, Verdicts.{IsVerdictOf}, declared.outcomes.Verdict.{Verdict}}
use Rattle.clause_solver.specs.declared.outcomes.Verdict.TheVariants.{Yes, No, Spent}

-- the goals there are of classes there
there_ranged : (R : Repository) (goals : List (List ℕ)) (U : NumSet) (to : ℕ → ℕ) (other : Repository) → ReachStandsIn R goals U to other
    → InRange (length other.clauses) (repository_form other) → InRange (length other.clauses) (form other (map (map to) goals))
there_ranged R goals U to other is range =
    range_append (map goal_sentence (map (map to) goals)) (repository_form other) (length other.clauses)
    (goals_ranged (length other.clauses) (map (map to) goals) (λ goal i n j.
    let w = In_map_cases (map to) goals goal i in
    let v = In_map_cases to w.0 n (subst (λ z. In n z) w.2 j) in
    subst (λ z. z < length other.clauses) (sym v.2) (is.within v.0 (is.wanted w.0 w.1 v.0 v.1))))
    range

none_found : {X : Type 0} (o : Option X) → is_some o ≡ false → o ≡ None
none_found None h = refl
none_found (Some x) h = cc h

same_verdict : (U : NumSet) (to : ℕ → ℕ) (budget : ℕ) (first second : Tree) (verdict : Verdict) → SameTree U to first second → IsVerdictOf budget first verdict → IsVerdictOf budget second verdict
same_verdict U to budget first second Yes same h = (same_finds U to first second same ∙ h.0, subst (λ n. n ≤ budget) (sym (same_fails U to first second same)) h.1)
same_verdict U to budget first second No same h = (
  none_found (found_of second) (same_finds U to first second same ∙ ap is_some h.0),
  subst (λ n. n ≤ budget) (sym (same_fails U to first second same)) h.1,
)
same_verdict U to budget first second Spent same h = subst (λ n. budget < n) (sym (same_fails U to first second same)) h

pub verdict_is_local_lem : VerdictIsLocal
verdict_is_local_lem R goals U to other is range budget verdict v =
    let tree = tree_exists (length other.clauses) (form other (map (map to) goals)) (there_ranged R goals U to other is range) in
    (tree.0, tree.1, same_verdict U to budget v.0 tree.0 verdict (tree_is_local_lem R goals U to other is v.0 tree.0 v.1 tree.1) v.2)
