-- Without hold no limit bears on the rounds, and no package is held.
use Rattle.std.proofs.Common.{◌≡◌, ℕ, zero, suc, Bool, false, cond, List, [], ◌∷◌, ◌++◌, length, filter, map, refl, ◌∙◌, ap, ap₂, Option, Some, None}
use Rattle.row_book.specs.Repository.{Repository}
use Rattle.row_book.specs.Flattening.{Remaining, flat, gone_or_held, held_of, is_held, next_gone, packages, remaining_after, rows_over}
use Rattle.row_book.specs.{Merging.{class_list, class_of, quotient}, Pruning.{idle_steps, prune}}
use Rattle.row_book.specs.Rounds.{FlatStep, IdleStep, MergeStep, class_after, enough_rounds, is_same_repository, kernel, round, round_count, rounds}
use Rattle.row_book.specs.{Rounds.{rounds_until, steps_after}, Thinning.{thin}}
use Rattle.kernel_rounds.specs.Laws.{LimitWithoutHold}

none_is_held : (limit : ℕ) (R : Repository) (i n : ℕ) → (remaining_after limit false R i).held n ≡ false
unfolding remaining_after
none_is_held limit R zero n = refl
none_is_held limit R (suc i) n = pick (remaining_after limit false R i) (next_gone R (remaining_after limit false R i)) (none_is_held limit R i n)
  where
    pick : (s : Remaining) (o : Option ℕ) → s.held n ≡ false → (gone_or_held limit false R s o).held n ≡ false
    pick s None e = e
    pick s (Some q) e = e

filter_none : (f : ℕ → Bool) (xs : List ℕ) → ((n : ℕ) → f n ≡ false) → filter f xs ≡ []
filter_none f [] e = refl
filter_none f (x ∷ xs) e = ap (λ b. cond b (x ∷ filter f xs) (filter f xs)) (e x) ∙ filter_none f xs e

no_held : (limit : ℕ) (R : Repository) → held_of limit false R ≡ []
unfolding held_of
no_held limit R = filter_none (is_held limit false R) (packages R) (none_is_held limit R (length R.clauses))

module _ (limit other : ℕ) where
  remaining_same : (R : Repository) (i : ℕ) → remaining_after limit false R i ≡ remaining_after other false R i
  unfolding remaining_after
  remaining_same R zero = refl
  remaining_same R (suc i) =
      ap (λ s. gone_or_held limit false R s (next_gone R s)) (remaining_same R i)
      ∙ step (remaining_after other false R i) (next_gone R (remaining_after other false R i))
    where
      step : (s : Remaining) (o : Option ℕ) → gone_or_held limit false R s o ≡ gone_or_held other false R s o
      step s None = refl
      step s (Some q) = refl

  flat_same : (R : Repository) → flat limit false R ≡ flat other false R
  unfolding flat
  flat_same R = ap (λ (s : Remaining). record { clauses = rows_over R s.left; conflicts = R.conflicts }) (remaining_same R (length R.clauses))

  round_same : (R : Repository) → round limit false R ≡ round other false R
  unfolding round
  round_same R = ap (λ F. thin (prune (quotient F))) (flat_same R)

  rounds_same : (n : ℕ) (R : Repository) → rounds limit false R n ≡ rounds other false R n
  rounds_same zero R = refl
  rounds_same (suc n) R = rounds_same n (round limit false R) ∙ ap (λ F. rounds other false F n) (round_same R)

  class_same : (n : ℕ) (R : Repository) (p : ℕ) → class_after limit false R n p ≡ class_after other false R n p
  class_same zero R p = refl
  class_same (suc n) R p =
      class_same n (round limit false R) (class_of (flat limit false R) p)
      ∙ ap₂ (λ F q. class_after other false F n q) (round_same R) (ap (λ F. class_of F p) (flat_same R))

  steps_same : (n : ℕ) (R : Repository) → steps_after limit false R n ≡ steps_after other false R n
  steps_same zero R = refl
  steps_same (suc n) R =
      ap₂ (λ xs ys. xs ++ ys)
      (ap (λ F. FlatStep R ∷ (MergeStep (class_list F) ∷ map IdleStep (idle_steps (quotient F)))) (flat_same R))
      (steps_same n (round limit false R) ∙ ap (λ F. steps_after other false F n) (round_same R))

  until_same : (m : ℕ) (R : Repository) → rounds_until limit false m R ≡ rounds_until other false m R
  until_same zero R = refl
  until_same (suc m) R =
      ap (λ k. cond (is_same_repository (round limit false R) R) 0 (suc k)) (until_same m (round limit false R))
      ∙ ap (λ F. cond (is_same_repository F R) 0 (suc (rounds_until other false m F))) (round_same R)

  count_same : (R : Repository) → round_count limit false R ≡ round_count other false R
  unfolding round_count
  count_same R = until_same (enough_rounds (length R.clauses)) R

pub limit_without_hold_lem : LimitWithoutHold
limit_without_hold_lem limit other R = record {
  same = ap (rounds limit false R) (count_same limit other R) ∙ rounds_same limit other (round_count other false R) R;
  classes = λ p. ap (λ n. class_after limit false R n p) (count_same limit other R) ∙ class_same limit other (round_count other false R) R p;
  steps = ap (steps_after limit false R) (count_same limit other R) ∙ steps_same limit other (round_count other false R) R;
  held = no_held limit (kernel limit false R);
}
