-- What a tree finds, and the laws of a repository's formula.
use Rattle.std.proofs.Common.{◌≡◌, ℕ, ◌<◌, Bool, true, false, List, [], ◌∷◌, ◌++◌, inl, inr, length, get_or, ap, ◌∙◌, subst, Some}
use Rattle.std.proofs.{Math.ListN.{get_or-eq_default}, lemmas.Bool.{cases_Bool, cases_lt, both_ways}}
use Rattle.std.specs.Prelude.{is_some}
use Rattle.listed.proofs.Bools.{cases_Option}
use Rattle.row_book.specs.Repository.{Repository}
use Rattle.search_terms.specs.{declared.literals.Literal.{Literal}, Closure.{literal}, Tree.{Tree, IsTree, found_of, log_of}}
use Rattle.search_terms.specs.{Tree.Tree.{failed_leaf, found_leaf, split}, Form.{form}, Derives.{Derives}, Laws.{FindsHealthy, HasNoSolution}}
use Rattle.search_terms.proofs.{Shapes.{fails_shape, meets_shape, splits_shape}, Certificates.{tree_derives, found_model}, Models.{derives_no_model}}
use Rattle.search_terms.proofs.Forms.{models_to, models_from}

pub one_tree : (n : ℕ) (formula : List (List Literal)) (decisions : List Literal) (first second : Tree) → IsTree n formula decisions first → IsTree n formula decisions second → second ≡ first
one_tree n formula decisions failed_leaf second a b = fails_shape n formula decisions second a b
one_tree n formula decisions (found_leaf chosen) second a b = meets_shape n formula decisions chosen second a b
one_tree n formula decisions (split c left right) second a b =
    let shape = splits_shape n formula decisions c second a.0 b in
    shape.is ∙ ap (λ t. split c t shape.right) (one_tree n formula (decisions ++ literal c true ∷ []) left shape.left a.1 shape.left_is)
    ∙ ap (λ t. split c left t) (one_tree n formula (decisions ++ literal c false ∷ []) right shape.right a.2 shape.right_is)

-- the flags of a found leaf are as many as the classes
pub found_long : (n : ℕ) (formula : List (List Literal)) (decisions : List Literal) (tree : Tree) (chosen : List Bool) → IsTree n formula decisions tree → found_of tree ≡ Some chosen → length chosen ≡ n
found_long n formula decisions failed_leaf chosen is found = absurd (cc found)
found_long n formula decisions (found_leaf other) chosen is found = let e : other ≡ chosen = cc found in subst (λ v. length v ≡ n) e is.long
found_long n formula decisions (split c left right) chosen is found = elim (cases_Bool (is_some (found_of left))) [
  | inl t ↦ found_long n formula (decisions ++ literal c true ∷ []) left chosen is.1 (rw t at found)
  | inr f ↦ found_long n formula (decisions ++ literal c false ∷ []) right chosen is.2 (rw f at found)
]

in_flags : (flags : List Bool) (k : ℕ) → get_or flags k false ≡ true → k < length flags
in_flags flags k h = elim (cases_lt k (length flags)) [
  | inl lt ↦ lt
  | inr ge ↦ absurd (both_ways (get_or flags k false) (get_or-eq_default flags false ge) h)
]

pub finds_healthy : FindsHealthy
finds_healthy R goals tree range is = (
  (λ I. elim (cases_Option (found_of tree)) [
    | inr some ↦ some
    | inl none ↦ absurd (derives_no_model (form R goals) (log_of [] tree) (tree_derives (length R.clauses) (form R goals) tree is none) I.0 (models_from R goals I.0 I.1 I.2))
  ]),
  (λ chosen found. models_to R goals (λ c. get_or chosen c false)
      (λ k h. subst (λ n. k < n) (found_long (length R.clauses) (form R goals) [] tree chosen is found) (in_flags chosen k h))
      (found_model (length R.clauses) (form R goals) [] tree chosen range is found)),
)

-- a solution would be a model
pub derives_no_solution : (R : Repository) (goals : List (List ℕ)) (log : List (List Literal)) → Derives (form R goals) log → HasNoSolution R goals
derives_no_solution R goals log derives I healthy hits = derives_no_model (form R goals) log derives I (models_from R goals I healthy hits)
