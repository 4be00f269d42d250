-- The stages of elimination that pass the clause limit, and the package that is next.
use Rattle.std.proofs.Common.{◌≡◌, ℕ, zero, suc, ◌<◌, ◌≤◌, ◌+◌, Bool, true, false, ltb, cond, List, ◌∷◌, length, inl, inr, refl, sym, ◌∙◌, ap, arith, map}
use Rattle.std.proofs.{Common.{Option, Some, None}, lemmas.Bool.{both_ways, cases_Bool, true_from_ne_false, le-ltb}}
use Rattle.std.specs.Option.{option_map}
use Rattle.row_book.specs.{Sets.{NumSet}, Repository.{Repository}, Numbers.{numbers}, Sound.{OfPackages, SoundClauses}}
use Rattle.row_book.specs.Flattening.{Passed, Remaining, first_some, has_conflict, may_go, next_gone, packages, passed_at, passed_by, passes, remaining_after}
use Rattle.row_book.specs.Flattening.{row_length, rows_over}
use Rattle.listed.proofs.Lists.{find_not}
use Rattle.row_book.proofs.Numbers.{numbers_parts}
use Rattle.clause_flatten.specs.{Substitution.{first_table, length_in, stage_after}, TidyRows.{tidied_table}, Waiting.{IsFirst}}
use Rattle.clause_flatten.proofs.{Flat.{may_go_from, may_go_parts, next_is_least_lem}, Stages.{passed_same, stages_run_lem}, Tables.{table_at}}

-- the lengths of the rows
pub count_is : (R : Repository) (V : NumSet) (t : List (List (List ℕ))) → t ≡ rows_over R V → (p : ℕ) → p < length R.clauses → length_in t p ≡ row_length R V p
count_is R V t e p l = ap (λ x. length_in x p) e ∙ ap length (table_at R V p l)

-- the first that waits is the next to go
pub next_is : (R : Repository) (s : Remaining) (t : List (List (List ℕ))) (q : ℕ) → OfPackages R s.left → t ≡ rows_over R s.left → IsFirst (may_go R s) (length_in t) q → next_gone R s ≡ Some q
next_is R s t q bound e first =
    let V : NumSet = s.left in
    let w : (s.left q ≡ true) × (has_conflict R q ≡ false) × (s.held q ≡ false) = may_go_parts R s q first.waits in
    ((next_is_least_lem R s bound).some q).1 (record {
      left = w.0;
      free = w.1;
      unheld = w.2;
      least = λ r v f h.
          let a : length_in t q ≡ row_length R s.left q = count_is R V t e q (bound q w.0) in
          let b : length_in t r ≡ row_length R s.left r = count_is R V t e r (bound r v) in
          elim (first.least r (may_go_from R s r v f h)) [
            | inl l ↦ inl (omega arith)
            | inr u ↦ inr (sym a ∙ u.0 ∙ b, u.1)
          ];
    })

pub next_none : (R : Repository) (s : Remaining) → OfPackages R s.left → ((q : ℕ) → may_go R s q ≡ false) → next_gone R s ≡ None
next_none R s bound f =
    (next_is_least_lem R s bound).none.1 (λ q v. elim (cases_Bool (has_conflict R q)) [
      | inl c ↦ inl c
      | inr g ↦ inr (true_from_ne_false (s.held q) (λ h. both_ways (may_go R s q) (f q) (may_go_from R s q v g h)))
    ])

-- the first stage that passes the limit
first_some_at : {A : Type 0} (f : ℕ → Option A) (n k i : ℕ) (w : A) → i < n → ((j : ℕ) → j < i → f (k + j) ≡ None) → f (k + i) ≡ Some w → first_some (map f (numbers n k)) ≡ Some w
unfolding numbers
first_some_at f zero k i w l g h = absurd (omega arith)
first_some_at f (suc n) k zero w l g h = ap (λ o. first_some (o ∷ map f (numbers n (suc k)))) (ap f (let e : k ≡ k + 0 = omega arith in e) ∙ h)
first_some_at f (suc n) k (suc i) w l g h =
    ap (λ o. first_some (o ∷ map f (numbers n (suc k)))) (ap f (let e : k ≡ k + 0 = omega arith in e) ∙ g 0 (omega arith))
    ∙ first_some_at f n (suc k) i w (omega arith)
    (λ j m. ap f (let e : suc k + j ≡ k + suc j = omega arith in e) ∙ g (suc j) (omega arith))
    (ap f (let e : suc k + i ≡ k + suc i = omega arith in e) ∙ h)

first_some_none : {A : Type 0} (f : ℕ → Option A) (n k : ℕ) → ((j : ℕ) → j < n → f (k + j) ≡ None) → first_some (map f (numbers n k)) ≡ None
unfolding numbers
first_some_none f zero k g = refl
first_some_none f (suc n) k g =
    ap (λ o. first_some (o ∷ map f (numbers n (suc k)))) (ap f (let e : k ≡ k + 0 = omega arith in e) ∙ g 0 (omega arith))
    ∙ first_some_none f n (suc k) (λ j m. ap f (let e : suc k + j ≡ k + suc j = omega arith in e) ∙ g (suc j) (omega arith))

-- each row of the stage is within the limit
abbrev pub IsWithin : Repository → ℕ → Bool → ℕ → Type 0
IsWithin R limit hold j = (p : ℕ) → p < length R.clauses → row_length R (remaining_after limit hold R j).left p ≤ limit

not_passed : (R : Repository) (limit : ℕ) (hold : Bool) (j : ℕ) → IsWithin R limit hold j → passed_at limit hold R j ≡ None
not_passed R limit hold j f =
    let V : NumSet = (remaining_after limit hold R j).left in
    ap (option_map (λ p. record { gone = j; over = p; count = row_length R V p }))
    (find_not (λ p. ltb limit (row_length R (remaining_after limit hold R j).left p)) (packages R)
    (λ p i. let w : (0 ≤ p) × (p < 0 + length R.clauses) = numbers_parts (length R.clauses) 0 p i in
    le-ltb limit (row_length R (remaining_after limit hold R j).left p) (f p (omega arith))))

-- so many stages are looked at
stages_seen : Bool → ℕ → ℕ
stages_seen hold n = cond hold 1 (suc n)

few_seen : (hold : Bool) (n j : ℕ) → j < stages_seen hold n → j ≤ n
unfolding stages_seen
few_seen true n j l = omega arith
few_seen false n j l = omega arith

pub passes_none : (R : Repository) (limit : ℕ) (hold : Bool) → ((j : ℕ) → j ≤ length R.clauses → IsWithin R limit hold j) → passes limit hold R ≡ None
unfolding passes stages_seen
passes_none R limit hold f =
    first_some_none (passed_at limit hold R) (stages_seen hold (length R.clauses)) 0
    (λ j l. ap (passed_at limit hold R) (let e : 0 + j ≡ j = omega arith in e) ∙ not_passed R limit hold j (f j (few_seen hold (length R.clauses) j l)))

pub passes_at : (R : Repository) (limit : ℕ) (hold : Bool) (i n : ℕ) (t : List (List (List ℕ))) (w : Passed) → i < cond hold 1 (suc (length R.clauses)) →
    t ≡ rows_over R (remaining_after limit hold R i).left → n ≡ length R.clauses →
    ((j : ℕ) → j < i → IsWithin R limit hold j) → passed_by (length_in t) (numbers n 0) limit i ≡ Some w → passes limit hold R ≡ Some w
unfolding passes
passes_at R limit hold i n t w l e size f h =
    let V : NumSet = (remaining_after limit hold R i).left in
    let here_too : passed_at limit hold R i ≡ Some w =
    sym (passed_same (length_in t) (row_length R V) limit i (packages R)
    (λ p j. let u : (0 ≤ p) × (p < 0 + length R.clauses) = numbers_parts (length R.clauses) 0 p j in count_is R V t e p (omega arith)))
    ∙ ap (λ m. passed_by (length_in t) (numbers m 0) limit i) (sym size)
    ∙ h in
    first_some_at (passed_at limit hold R) (cond hold 1 (suc (length R.clauses))) 0 i w l
    (λ j m. ap (passed_at limit hold R) (let k : 0 + j ≡ j = omega arith in k) ∙ not_passed R limit hold j (f j m))
    (ap (passed_at limit hold R) (let k : 0 + i ≡ i = omega arith in k) ∙ here_too)

-- the table before any package is taken out
pub first_stage_is : (limit : ℕ) (hold : Bool) (R : Repository) → SoundClauses R → tidied_table R.clauses ≡ rows_over R (remaining_after limit hold R 0).left
unfolding tidied_table first_table stage_after
first_stage_is limit hold R sound = ap (λ s. s.table) (stages_run_lem limit hold R sound 0)
