-- The first goal that is unknown: its number, and what is known of goals where there is none.
use Rattle.std.{proofs.Common.{◌≡◌, ℕ, ◌+◌, ◌<◌, ◌≤◌, false, List, [], ◌∷◌, length, Some, None, inl, inr, sym, subst, arith}, proofs.lemmas.Bool.{cases_Bool}}
use Rattle.listed.{proofs.Lists.{some_item, In_cases, In_none}, specs.Lists.{In}}
use Rattle.repo_model.{specs.Goals.{packages_named}, specs.declared.goals.Goal.{Goal}}
use Rattle.relation_fields.specs.declared.packages.PackageFacts.{PackageFacts}
use Rattle.suite_compare.specs.Answering.{names_none, unknown_from, unknown_goal}

-- the number of an unknown goal is one of a goal
unknown_within : (packages : List PackageFacts) (n k : ℕ) (goals : List Goal) → unknown_from n packages goals ≡ Some k → (n ≤ k) × (k < n + length goals)
unknown_within packages n k [] e = absurd (cc e)
unknown_within packages n k (g ∷ gs) e = elim (cases_Bool (names_none packages g)) [
  | inl t ↦ let same : n ≡ k = cc (rw t at e) in (omega (arith, same), omega (arith, same))
  | inr f ↦ let w = unknown_within packages (n + 1) k gs (rw f at e) in (omega (arith, w.0), omega (arith, w.1))
]

pub unknown_counted : (packages : List PackageFacts) (goals : List Goal) (number : ℕ) → unknown_goal packages goals ≡ Some number → (0 < number) × (number ≤ length goals)
unknown_counted packages goals number e = let w = unknown_within packages 1 number goals e in (omega (arith, w.0), omega (arith, w.1))

-- where no goal is unknown, each names a package
pub all_named : (packages : List PackageFacts) (number : ℕ) (goals : List Goal) → unknown_from number packages goals ≡ None → (goal : Goal) → In goal goals → (n : ℕ) × In n (packages_named packages goal)
all_named packages number [] e goal i = absurd (In_none i)
all_named packages number (g ∷ gs) e goal i = elim (cases_Bool (names_none packages g)) [
  | inl t ↦ absurd (cc (rw t at e))
  | inr f ↦ elim (In_cases i) [
    | inl same ↦ some_item (packages_named packages goal) (subst (λ k. names_none packages k ≡ false) (sym same) f)
    | inr later ↦ all_named packages (number + 1) gs (rw f at e) goal later
  ]
]
