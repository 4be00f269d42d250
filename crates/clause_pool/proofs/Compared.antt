-- The order of clauses, as lists are compared.
use Rattle.std.proofs.{Common.{◌≡◌, ℕ, List, Ordering, refl, arith}, lemmas.Bool.Decides.{nat_tests}, lemmas.Cmp.{same_from_slice_cmp}}
use Rattle.std.specs.{Ordering.{is_lt, nat_cmp}, Cmp.Lexicographic.{slice_cmp}}
use Rattle.clause_pool.specs.Clauses.{comes_before}

pub before_compared : (a b : List ℕ) (r : Ordering) → r ≡ slice_cmp nat_cmp a b → is_lt r ≡ comes_before a b
before_compared = same_from_slice_cmp nat_cmp is_lt comes_before refl (λ _ _. refl) (λ _ _. refl) (λ x y xs ys o h. grind (arith, nat_tests))
