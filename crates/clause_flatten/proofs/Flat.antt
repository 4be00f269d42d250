-- Flattening keeps every set.
use Rattle.std.proofs.Common.{◌≡◌, ◌≢◌, ℕ, zero, suc, ◌<◌, Bool, true, false, not, ◌&&◌, ◌||◌, cond, [], length, inl, inr, refl, sym, ◌∙◌, ap, subst, arith}
use Rattle.std.proofs.Common.{Option, Some, None, zero-le}
use Rattle.std.proofs.lemmas.Bool.{both_ways, cases_Bool, and_parts, and_from, or_parts, not-true, not_from_false, true_from_ne_false, ltb-true, lt-ltb}
use Rattle.row_book.specs.{Sets.{NumSet, plus, without}, Repository.{Repository, against}, Support.{IsRow, row}, Sound.{BetweenPackages, OfPackages}}
use Rattle.row_book.specs.Flattening.{core_of, flat, gone_or_held, has_conflict, may_go, next_gone, packages, passes_over, remaining_after, row_length}
use Rattle.row_book.specs.Flattening.{rows_over, Remaining}
use Rattle.listed.specs.Lists.{In}
use Rattle.clause_flatten.specs.{Laws.{HoldsConflicts}, FlatLaws.{FlatKeeps, NextIsLeast}}
use Rattle.row_book.proofs.{Sets.{without_from, without_parts}, Numbers.{at_numbers, length_numbers, numbers_from}}
use Rattle.listed.proofs.Lists.{any_none}
use Rattle.clause_flatten.proofs.{Kept.{keeps_every_set_lem}, Rows.{row_is}, Choice.{none_soonest, soonest_from, soonest_is, soonest_least, soonest_none}}

-- what may go is left, has no conflict, and is not held
pub may_go_parts : (R : Repository) (s : Remaining) (q : ℕ) → may_go R s q ≡ true → (s.left q ≡ true) × (has_conflict R q ≡ false) × (s.held q ≡ false)
may_go_parts R s q h =
    let w : (s.left q ≡ true) × ((not (has_conflict R q) && not (s.held q)) ≡ true) = and_parts (s.left q) (not (has_conflict R q) && not (s.held q)) h in
    let v : (not (has_conflict R q) ≡ true) × (not (s.held q) ≡ true) = and_parts (not (has_conflict R q)) (not (s.held q)) w.1 in
    (w.0, not-true (has_conflict R q) v.0, not-true (s.held q) v.1)

pub may_go_from : (R : Repository) (s : Remaining) (q : ℕ) → s.left q ≡ true → has_conflict R q ≡ false → s.held q ≡ false → may_go R s q ≡ true
may_go_from R s q v f h =
    and_from (s.left q) (not (has_conflict R q) && not (s.held q)) v
    (and_from (not (has_conflict R q)) (not (s.held q)) (not_from_false (has_conflict R q) f) (not_from_false (s.held q) h))

pub next_gone_is : (R : Repository) (s : Remaining) (q : ℕ) → next_gone R s ≡ Some q → (s.left q ≡ true) × (has_conflict R q ≡ false) × (s.held q ≡ false)
unfolding next_gone
next_gone_is R s q e = may_go_parts R s q (soonest_is (row_length R s.left) (may_go R s) (packages R) q e).1

pub next_is_least_lem : NextIsLeast
unfolding next_gone
next_is_least_lem R s bound =
    let at : (q : ℕ) → s.left q ≡ true → In q (packages R) = λ q v. numbers_from (length R.clauses) 0 q zero-le (let l : q < length R.clauses = bound q v in omega arith) in
    record {
      some = λ q. (
        (λ e. record {
          left = (next_gone_is R s q e).0;
          free = (next_gone_is R s q e).1;
          unheld = (next_gone_is R s q e).2;
          least = λ r v f h. soonest_least (row_length R s.left) (may_go R s) (packages R) q e r (at r v) (may_go_from R s r v f h);
        }),
        (λ l. soonest_from (row_length R s.left) (may_go R s) (packages R) q (at q l.left) (may_go_from R s q l.left l.free l.unheld)
            (λ r i m. let w : (s.left r ≡ true) × (has_conflict R r ≡ false) × (s.held r ≡ false) = may_go_parts R s r m in l.least r w.0 w.1 w.2)),
      );
      none = (
        (λ e q v. elim (cases_Bool (has_conflict R q)) [
          | inl c ↦ inl c
          | inr f ↦ inr (true_from_ne_false (s.held q) (λ h. soonest_none (row_length R s.left) (may_go R s) (packages R) e q (at q v) (may_go_from R s q v f h)))
        ]),
        (λ f. none_soonest (row_length R s.left) (may_go R s) (packages R) (λ q i m.
            let w : (s.left q ≡ true) × (has_conflict R q ≡ false) × (s.held q ≡ false) = may_go_parts R s q m in
            elim (f q w.0) [ inl c ↦ both_ways (has_conflict R q) w.1 c | inr h ↦ both_ways (s.held q) w.2 h ])),
      );
    }

free_apart : (R : Repository) → BetweenPackages R → (q m n : ℕ) → has_conflict R q ≡ false → against R m n ≡ true → (m ≢ q) × (n ≢ q)
free_apart R between q m n f h =
    let small : (m < length R.clauses) × (n < length R.clauses) = between m n h in
    let at : (k : ℕ) → k < length R.clauses → (against R q k || against R k q) ≡ false =
    λ k l. any_none (λ n. against R q n || against R n q) (packages R) f k (numbers_from (length R.clauses) 0 k zero-le (omega arith)) in (
      (λ e. both_ways (against R q n) (or_parts (against R q n) (against R n q) (at n small.1)).0 (subst (λ z. against R z n ≡ true) e h)),
      (λ e. both_ways (against R m q) (or_parts (against R q m) (against R m q) (at m small.0)).1 (subst (λ z. against R m z ≡ true) e h)),
    )

-- what remains where the package is held, and where it is taken out
abbrev pub stays_held : Remaining → ℕ → Remaining
stays_held s q = record { left = s.left; held = plus s.held q }

abbrev pub goes : Remaining → ℕ → Remaining
goes s q = record { left = without s.left q; held = s.held }

-- a set of packages with all conflicts
pub record Holds (R : Repository) (V : NumSet) : Type 0 where
  pub bound : OfPackages R V
  pub holds : HoldsConflicts R V

kept_step : (limit : ℕ) (hold : Bool) (R : Repository) (s : Remaining) → BetweenPackages R → Holds R s.left → (o : Option ℕ) → next_gone R s ≡ o →
    Holds R (gone_or_held limit hold R s o).left
kept_step limit hold R s between k None e = k
kept_step limit hold R s between k (Some q) e = pick (hold && passes_over limit R (without s.left q))
  where
    gone : Holds R (without s.left q)
    gone =
        let w : (s.left q ≡ true) × (has_conflict R q ≡ false) × (s.held q ≡ false) = next_gone_is R s q e in
        record {
          bound = λ n h. k.bound n (without_parts s.left q n h).0;
          holds = λ m n h.
              let a : (m ≢ q) × (n ≢ q) = free_apart R between q m n w.1 h in
              let b : (s.left m ≡ true) × (s.left n ≡ true) = k.holds m n h in
              (without_from s.left q m b.0 a.0, without_from s.left q n b.1 a.1);
        }

    pick : (b : Bool) → Holds R (cond b (stays_held s q) (goes s q)).left
    pick true = k
    pick false = gone

pub kept_after : (limit : ℕ) (hold : Bool) (R : Repository) → BetweenPackages R → (i : ℕ) → Holds R (remaining_after limit hold R i).left
unfolding remaining_after
kept_after limit hold R between zero = record {
  bound = λ n h. ltb-true n (length R.clauses) h;
  holds = λ m n h. let w : (m < length R.clauses) × (n < length R.clauses) = between m n h in (lt-ltb m (length R.clauses) w.0, lt-ltb n (length R.clauses) w.1);
}
kept_after limit hold R between (suc i) =
    kept_step limit hold R (remaining_after limit hold R i) between (kept_after limit hold R between i) (next_gone R (remaining_after limit hold R i)) refl

pub flat_keeps_lem : FlatKeeps
unfolding flat rows_over
flat_keeps_lem limit hold R between S =
    let V : NumSet = core_of limit hold R in
    let k : Holds R (core_of limit hold R) = kept_after limit hold R between (length R.clauses) in
    keeps_every_set_lem R (core_of limit hold R) (flat limit hold R) k.bound k.holds
    (record {
      size = length_numbers (row R V) (length R.clauses) 0;
      rows = λ p l. subst (λ z. IsRow R V p z) (sym (at_numbers (row R V) [] (length R.clauses) 0 p l ∙ ap (row R V) (omega arith))) (row_is R V p k.bound);
      conflicts = refl;
    }) S
