-- With hold: no row passes the limit, and what is held stands in some clause.
use Rattle.std.proofs.Common.{◌≡◌, ℕ, zero, suc, ◌<◌, ◌≤◌, ◌+◌, Bool, true, false, ltb, cond, List, [], ◌∷◌, length, inl, inr, refl, sym, ◌∙◌, ap, subst, arith}
use Rattle.std.proofs.{Common.{Option, Some, None, zero-le}, lemmas.Bool.{both_ways, cases_Bool, cases_eq, ltb-false, ltb-true}}
use Rattle.std.specs.{List.{find, list_any}, Option.{option_map}}
use Rattle.listed.specs.Lists.{In, has}
use Rattle.row_book.specs.{Sets.{NumSet, without}, Repository.{Repository}, Numbers.{numbers}, Support.{row}, Sound.{OfPackages}}
use Rattle.row_book.specs.Flattening.{first_some, gone_or_held, has_conflict, next_gone, packages, Passed, passed_at, passes, passes_over, remaining_after}
use Rattle.row_book.specs.Flattening.{row_length, Remaining}
use Rattle.row_book.proofs.{Sets.{plus_cases}, Numbers.{numbers_from, numbers_parts}}
use Rattle.listed.proofs.Lists.{In_has, any_cases, any_none, find_none, has_In}
use Rattle.clause_flatten.specs.FlatLaws.{HeldIsUsed, HoldStaysWithin}
use Rattle.clause_flatten.proofs.{Rows.{Stands, member_stands, row_is}, Tables.{one_row_lem, own_row, row_order}, Flat.{goes, next_gone_is, stays_held}}
use Rattle.clause_flatten.proofs.{Shortcuts.{untouched_lem}, Stages.{left_bound, without_hold_lem}}

-- a row in which q does not stand stays as it is without q
row_stays : (R : Repository) (V : NumSet) (p q : ℕ) → OfPackages R V → p < length R.clauses → V q ≡ true → ((T : List ℕ) → In T (row R V p) → In q T → ⊥) →
    row R (without V q) p ≡ row R V p
row_stays R V p q bound l v f =
    elim (cases_eq p q) [
      | inl e ↦ subst (λ z. row R (without V q) z ≡ row R V z) (sym e) (sym (own_row R V q bound))
      | inr ne ↦ sym (one_row_lem R V p q bound l v ne) ∙ untouched_lem R V p q (row R V p) (row R V q) (row_is R V p bound) (row_order R V p) f
    ]

-- where a row has more clauses without q, q stands in some clause
grown_stands : (R : Repository) (V : NumSet) (p q : ℕ) → OfPackages R V → p < length R.clauses → V q ≡ true →
    row_length R V p < row_length R (without V q) p → Stands R q
grown_stands R V p q bound l v more =
    elim (cases_Bool (list_any (λ T. has T q) (row R V p))) [
      | inl t ↦
          let w : (T : List ℕ) × In T (row R V p) × (has T q ≡ true) = any_cases (λ T. has T q) (row R V p) t in
          member_stands R V p w.0 q ((row_is R V p bound).sound w.0 w.1) (has_In w.0 q w.2)
      | inr f ↦
          let same : row R (without V q) p ≡ row R V p =
          row_stays R V p q bound l v (λ T i j. both_ways (has T q) (any_none (λ T. has T q) (row R V p) f T i) (In_has j)) in
          let e : row_length R (without V q) p ≡ row_length R V p = ap length same in
          absurd (omega arith)
    ]

-- the rows within the limit
abbrev pub AreWithin : ℕ → Repository → NumSet → Type 0
AreWithin limit R V = (p : ℕ) → p < length R.clauses → row_length R V p ≤ limit

pub within_from : (limit : ℕ) (R : Repository) (V : NumSet) → passes_over limit R V ≡ false → AreWithin limit R V
unfolding passes_over
within_from limit R V e p l =
    ltb-false limit (row_length R V p) (any_none (λ p. ltb limit (row_length R V p)) (packages R) e p (numbers_from (length R.clauses) 0 p zero-le (omega arith)))

over_some : (limit : ℕ) (R : Repository) (V : NumSet) → passes_over limit R V ≡ true → (p : ℕ) × (p < length R.clauses) × (limit < row_length R V p)
unfolding passes_over
over_some limit R V e =
    let w : (p : ℕ) × In p (packages R) × (ltb limit (row_length R V p) ≡ true) = any_cases (λ p. ltb limit (row_length R V p)) (packages R) e in
    let u : (0 ≤ w.0) × (w.0 < 0 + length R.clauses) = numbers_parts (length R.clauses) 0 w.0 w.1 in
    (w.0, omega arith, ltb-true limit (row_length R V w.0) w.2)

first_within : (limit : ℕ) (R : Repository) → passes limit true R ≡ None → AreWithin limit R (remaining_after limit true R 0).left
unfolding passes numbers
first_within limit R e p l =
    ltb-false limit (row_length R (remaining_after limit true R 0).left p)
    (find_none (λ p. ltb limit (row_length R (remaining_after limit true R 0).left p)) (packages R) (inner (find (λ p. ltb limit (row_length R (remaining_after limit true R 0).left p)) (packages R)) (outer (passed_at limit true R 0) e)) p
    (numbers_from (length R.clauses) 0 p zero-le (omega arith)))
  where
    outer : (o : Option Passed) → first_some (o ∷ []) ≡ None → o ≡ None
    outer None h = refl
    outer (Some w) h = h

    inner : (o : Option ℕ) → option_map {U = Passed} (λ p. record { gone = 0; over = p; count = row_length R (remaining_after limit true R 0).left p }) o ≡ None → o ≡ None
    inner None h = refl
    inner (Some q) h = absurd (let f : ⊥ = cc in f)

within_step : (limit : ℕ) (R : Repository) (s : Remaining) (o : Option ℕ) → AreWithin limit R s.left → AreWithin limit R (gone_or_held limit true R s o).left
within_step limit R s None f = f
within_step limit R s (Some q) f = pick (passes_over limit R (without s.left q)) refl
  where
    pick : (b : Bool) → passes_over limit R (without s.left q) ≡ b → AreWithin limit R (cond b (stays_held s q) (goes s q)).left
    pick true e = f
    pick false e = within_from limit R (without s.left q) e

pub hold_stays_within_lem : HoldStaysWithin
unfolding remaining_after
hold_stays_within_lem limit R none zero p l = first_within limit R none p l
hold_stays_within_lem limit R none (suc i) p l =
    within_step limit R (remaining_after limit true R i) (next_gone R (remaining_after limit true R i)) (hold_stays_within_lem limit R none i) p l

-- a package that is held has no conflict and stands in some clause
abbrev pub IsFreeAndStands : Repository → ℕ → Type 0
IsFreeAndStands R q = (has_conflict R q ≡ false) × Stands R q

held_stand : (limit : ℕ) (R : Repository) (s : Remaining) → OfPackages R s.left → AreWithin limit R s.left → ((q : ℕ) → s.held q ≡ true → IsFreeAndStands R q) →
    (o : Option ℕ) → next_gone R s ≡ o → (q : ℕ) → (gone_or_held limit true R s o).held q ≡ true → IsFreeAndStands R q
held_stand limit R s bound within f None e q h = f q h
held_stand limit R s bound within f (Some r) e q h = pick (passes_over limit R (without s.left r)) refl h
  where
    is : (s.left r ≡ true) × (has_conflict R r ≡ false) × (s.held r ≡ false)
    is = next_gone_is R s r e

    used : passes_over limit R (without s.left r) ≡ true → Stands R r
    used p =
        let w : (x : ℕ) × (x < length R.clauses) × (limit < row_length R (without s.left r) x) = over_some limit R (without s.left r) p in
        let before : row_length R s.left w.0 ≤ limit = within w.0 w.1 in
        let after : limit < row_length R (without s.left r) w.0 = w.2 in
        grown_stands R s.left w.0 r bound w.1 is.0 (omega arith)

    pick : (b : Bool) → passes_over limit R (without s.left r) ≡ b → (cond b (stays_held s r) (goes s r)).held q ≡ true → IsFreeAndStands R q
    pick true p k = elim (plus_cases s.held r q k) [ inl u ↦ f q u | inr u ↦ subst (λ z. IsFreeAndStands R z) (sym u) (is.1, used p) ]
    pick false p k = f q k

held_after : (limit : ℕ) (R : Repository) → passes limit true R ≡ None → (i q : ℕ) → (remaining_after limit true R i).held q ≡ true → IsFreeAndStands R q
unfolding remaining_after
held_after limit R none zero q h = absurd (both_ways false refl h)
held_after limit R none (suc i) q h =
    held_stand limit R (remaining_after limit true R i) (left_bound limit true R i) (hold_stays_within_lem limit R none i)
    (held_after limit R none i) (next_gone R (remaining_after limit true R i)) refl q h

pub held_is_used_lem : HeldIsUsed
held_is_used_lem limit true R q sound none h = held_after limit R none (length R.clauses) q h
held_is_used_lem limit false R q sound none h =
    absurd (both_ways false refl (sym (ap (λ s. s.held q) (without_hold_lem limit R (length R.clauses))) ∙ h))
