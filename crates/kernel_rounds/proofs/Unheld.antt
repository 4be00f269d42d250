-- If no row passes the limit without hold, hold changes nothing: each elimination is the same step by step.
use Rattle.std.proofs.Common.{◌≡◌, ℕ, zero, suc, ◌<◌, ◌≤◌, true, false, cond, ltb, List, [], ◌∷◌, length, map, Option, Some, None, refl, sym, ◌∙◌, ap, ap₂}
use Rattle.std.proofs.{Common.{subst, arith}, lemmas.Bool.{false_from_ne_true, lt-ltb, ltb-true}}
use Rattle.clause_flatten.specs.Locality.{StandsIn}
use Rattle.clause_flatten.proofs.{LocalRuns.{limit_is_local_lem}, Passing.{passes_none}}
use Rattle.listed.specs.Lists.{In}
use Rattle.listed.proofs.Lists.{any_cases}
use Rattle.row_book.specs.{Merging.{class_of, quotient}, Pruning.{prune}, Repository.{Repository, clauses_of}, Sets.{plus, without}, Sound.{SoundRepository}}
use Rattle.row_book.specs.Thinning.{thin}
use Rattle.row_book.specs.Flattening.{all_packages, flat, gone_or_held, next_gone, packages, passes, passes_over, remaining_after, row_length, rows_over}
use Rattle.row_book.specs.Rounds.{class_after, kernel, kernel_class, limit_at, round, round_count, rounds}
use Rattle.row_book.proofs.Repositories.{of_packages, ranged}
use Rattle.kernel_rounds.specs.Laws.{HoldIsUnused}
use Rattle.kernel_rounds.proofs.{Again.{all_within}, Midways.{none_passed}, Reached.{kernel_is_lem, rounds_sound}}

numbers_same : (c : List ℕ) → map (λ n. n) c ≡ c
numbers_same [] = refl
numbers_same (n ∷ c) = ap (λ xs. n ∷ xs) (numbers_same c)

clauses_same : (cs : List (List ℕ)) → map (map (λ n. n)) cs ≡ cs
clauses_same [] = refl
clauses_same (c ∷ cs) = ap₂ (λ x xs. x ∷ xs) (numbers_same c) (clauses_same cs)

-- one elimination
module _ (limit : ℕ) (R : Repository) (s : SoundRepository R) (none : passes limit false R ≡ None) where
  in_itself : StandsIn R (all_packages R) (λ n. n) R
  in_itself = record {
    packages = λ n u. ltb-true n (length R.clauses) u;
    closed = λ p u c i n j. lt-ltb n (length R.clauses) (ranged R s p c i n j);
    within = λ n u. ltb-true n (length R.clauses) u;
    rising = λ m n u v l. l;
    clauses = λ p u. sym (clauses_same (clauses_of R p));
    conflicts = λ p u. refl;
  }

  within : (i p : ℕ) → p < length R.clauses → row_length R (remaining_after limit false R i).left p ≤ limit
  within i p l = limit_is_local_lem limit R (all_packages R) (λ n. n) R in_itself none i p (lt-ltb p (length R.clauses) l)

  none_over : (i : ℕ) → passes_over limit R (remaining_after limit false R i).left ≡ false
  unfolding passes_over
  none_over i = false_from_ne_true (passes_over limit R (remaining_after limit false R i).left) (λ t.
      let w : (p : ℕ) × In p (packages R) × (ltb limit (row_length R (remaining_after limit false R i).left p) ≡ true) =
      any_cases (λ p. ltb limit (row_length R (remaining_after limit false R i).left p)) (packages R) t in
      let l : limit < row_length R (remaining_after limit false R i).left w.0 = ltb-true limit (row_length R (remaining_after limit false R i).left w.0) w.2 in
      let m : row_length R (remaining_after limit false R i).left w.0 ≤ limit = within i w.0 (of_packages R w.0 w.1) in
      omega (arith, l, m))

  one_step : (i : ℕ) (o : Option ℕ) → next_gone R (remaining_after limit false R i) ≡ o → gone_or_held limit true R (remaining_after limit false R i) o ≡ gone_or_held limit false R (remaining_after limit false R i) o
  unfolding remaining_after
  one_step i None e = refl
  one_step i (Some q) e =
      let left : (remaining_after limit false R (suc i)).left ≡ without (remaining_after limit false R i).left q = ap (λ o. (gone_or_held limit false R (remaining_after limit false R i) o).left) e in
      ap (λ b. cond b (record { left = (remaining_after limit false R i).left; held = plus (remaining_after limit false R i).held q })
      (record { left = without (remaining_after limit false R i).left q; held = (remaining_after limit false R i).held }))
      (ap (passes_over limit R) (sym left) ∙ none_over (suc i))

  same : (i : ℕ) → remaining_after limit true R i ≡ remaining_after limit false R i
  unfolding remaining_after
  same zero = refl
  same (suc i) = ap (λ z. gone_or_held limit true R z (next_gone R z)) (same i) ∙ one_step i (next_gone R (remaining_after limit false R i)) refl

  pub flat_alike : flat limit true R ≡ flat limit false R
  unfolding flat
  flat_alike = ap (λ z. record { clauses = rows_over R z.left; conflicts = R.conflicts }) (same (length R.clauses))

  pub round_alike : round limit true R ≡ round limit false R
  unfolding round
  round_alike = ap (λ F. thin (prune (quotient F))) flat_alike

  pub passes_alike : passes limit true R ≡ None
  passes_alike = passes_none R limit true (λ j l p m. subst (λ z. row_length R z.left p ≤ limit) (sym (same j)) (within j p m))

-- so many rounds
rounds_alike : (limit n : ℕ) (R : Repository) → SoundRepository R → ((j : ℕ) → j < n → passes limit false (rounds limit false R j) ≡ None) → rounds limit true R n ≡ rounds limit false R n
rounds_alike limit zero R s none = refl
rounds_alike limit (suc n) R s none =
    ap (λ F. rounds limit true F n) (round_alike limit R s (none 0 (omega arith)))
    ∙ rounds_alike limit n (round limit false R) (rounds_sound limit false R s 1) (λ j l. none (suc j) (omega (arith, l)))

classes_alike : (limit n : ℕ) (R : Repository) → SoundRepository R → ((j : ℕ) → j < n → passes limit false (rounds limit false R j) ≡ None) → (p : ℕ) → class_after limit true R n p ≡ class_after limit false R n p
classes_alike limit zero R s none p = refl
classes_alike limit (suc n) R s none p =
    ap₂ (λ F G. class_after limit true F n (class_of G p)) (round_alike limit R s (none 0 (omega arith))) (flat_alike limit R s (none 0 (omega arith)))
    ∙ classes_alike limit n (round limit false R) (rounds_sound limit false R s 1) (λ j l. none (suc j) (omega (arith, l))) (class_of (flat limit false R) p)

module _ (limit : ℕ) (R : Repository) (s : SoundRepository R) (none : limit_at limit false R ≡ None) where
  abbrev count : ℕ
  count = round_count limit false R

  abbrev with_hold : ℕ
  with_hold = round_count limit true R

  each : (j : ℕ) → j ≤ count → passes limit false (rounds limit false R j) ≡ None
  each j l = all_within limit false R none j l

  upto : (n : ℕ) → n ≤ count → rounds limit true R n ≡ rounds limit false R n
  upto n l = rounds_alike limit n R s (λ j m. each j (omega (arith, l, m)))

  next_alike : (n : ℕ) → n ≤ count → round limit true (rounds limit false R n) ≡ round limit false (rounds limit false R n)
  next_alike n l = round_alike limit (rounds limit false R n) (rounds_sound limit false R s n) (each n l)

  fixed : round limit true (rounds limit true R count) ≡ rounds limit true R count
  fixed = ap (round limit true) (upto count (omega arith)) ∙ next_alike count (omega arith) ∙ (kernel_is_lem limit false R s).fixed ∙ sym (upto count (omega arith))

  no_more : with_hold ≤ count
  no_more = (kernel_is_lem limit true R s).first count fixed

  no_fewer : count ≤ with_hold
  no_fewer =
      (kernel_is_lem limit false R s).first with_hold
      (sym (next_alike with_hold no_more) ∙ ap (round limit true) (sym (upto with_hold no_more)) ∙ (kernel_is_lem limit true R s).fixed ∙ upto with_hold no_more)

  as_many : with_hold ≡ count
  as_many = omega (arith, no_more, no_fewer)

  kernel_alike : kernel limit true R ≡ kernel limit false R
  kernel_alike = ap (rounds limit true R) as_many ∙ upto count (omega arith)

  class_alike : (p : ℕ) → kernel_class limit true R p ≡ kernel_class limit false R p
  class_alike p = ap (λ n. class_after limit true R n p) as_many ∙ classes_alike limit count R s (λ j l. each j (omega (arith, l))) p

  passed_alike : (n : ℕ) → n ≤ count → passes limit true (rounds limit true R n) ≡ None
  passed_alike n l = ap (passes limit true) (upto n l) ∙ passes_alike limit (rounds limit false R n) (rounds_sound limit false R s n) (each n l)

  none_alike : limit_at limit true R ≡ None
  none_alike = none_passed limit true R s with_hold refl (λ j l. passed_alike j (omega (arith, l, no_more))) (passed_alike with_hold no_more)

pub hold_is_unused_lem : HoldIsUnused
hold_is_unused_lem limit R s none = record { same = kernel_alike limit R s none; classes = class_alike limit R s none; within = none_alike limit R s none }
