-- Rows that do not name a package stay when it is taken out, so only those of its users are looked at.
use Rattle.std.proofs.Common.{◌≡◌, ℕ, ◌<◌, ◌≤◌, ◌+◌, Bool, true, false, ltb, cond, List, [], ◌∷◌, length, get_or, inl, inr, refl, sym, ◌∙◌, ap, subst, arith}
use Rattle.std.proofs.Common.{filter, Option, Some, None, zero-le}
use Rattle.std.proofs.lemmas.Bool.{both_ways, cases_Bool, cases_eq, cases_lt, cond-true, cond-false, false_from_ne_true, le-ltb}
use Rattle.std.specs.{List.{find, list_any}, Option.{is_some, option_map}}
use Rattle.std.proofs.lemmas.List as lists
use Rattle.clause_pool.specs.{Interned.{Interned, clauses_at}, Clauses.{in_row_order}}
use Rattle.row_book.specs.{Book.{listed_for}, Numbers.{numbers}, Holders.{is_user, users_in, ListsFit}}
use Rattle.listed.specs.Lists.{In, has, here, there}
use Rattle.listed.proofs.Lists.{In_has, any_cases, any_from, filter_cases, find_none, find_some, has_not, In_at}
use Rattle.row_book.proofs.Numbers.{numbers_from, numbers_parts}
use Rattle.clause_flatten.specs.{Ready.{ListsTidy, table_of}, Substitution.{table_passes, table_row, table_without, length_in}}
use Rattle.clause_flatten.specs.{TakingOut.{counted_anew, is_over}, Waiting.{Filed}}
use Rattle.clause_families.specs.Unions.{substituted}
use Rattle.clause_flatten.proofs.{Runs.{eliminated_count, find_nowhere, other_without, own_without, untouched}, Turns.{filed_as}}
use Rattle.clause_flatten.proofs.WorkedRows.{lists_at, not_named, users_below}

find_filter : (f g : ℕ → Bool) (xs : List ℕ) → ((x : ℕ) → In x xs → g x ≡ false → f x ≡ false) → find f (filter g xs) ≡ find f xs
find_filter f g [] k = refl
find_filter f g (x ∷ xs) k = pick (g x) refl (find_filter f g xs (λ y i. k y (there i)))
  where
    pick : (b : Bool) → g x ≡ b → find f (filter g xs) ≡ find f xs → find f (cond b (x ∷ filter g xs) (filter g xs)) ≡ cond (f x) (Some x) (find f xs)
    pick true u h = ap (cond (f x) (Some x)) h
    pick false u h = h ∙ sym (cond-false (f x) (Some x) (find f xs) (k x here u))

module _ (pool : Interned) (rows : List (List ℕ)) (q : ℕ) (q_in : q < length rows) (users : List ℕ) (same : users ≡ users_in pool rows q) where
  abbrev t : List (List (List ℕ))
  t = table_of pool rows

  count : length (table_of pool rows) ≡ length rows
  count = lists.length-map rows (clauses_at pool)

  -- the row of a package that is no user stays
  stays_for : ListsFit pool rows → ListsTidy pool rows → (p : ℕ) → p < length rows → (In p users → ⊥) → table_row (table_without q (table_of pool rows)) p ≡ table_row (table_of pool rows) p
  stays_for fit tidy p m f =
      elim (cases_eq p q) [
        | inl s ↦ ap (table_row (table_without q t)) s ∙ own_without q t (omega (arith, count, q_in)) ∙ ap (table_row t) (sym s)
        | inr ne ↦
            other_without q t p (omega (arith, count)) ne
            ∙ ap (λ xs. in_row_order (substituted p q xs (table_row t q))) (lists_at pool rows p)
            ∙ untouched p q (clauses_at pool (listed_for rows p)) (table_row t q) (fit.in_order p) (not_named pool rows q users same p f) (tidy.apart p) (tidy.minimal p)
            ∙ sym (lists_at pool rows p)
      ]

  counts_stay : ListsFit pool rows → ListsTidy pool rows → (p : ℕ) → has users p ≡ false → length_in (table_without q (table_of pool rows)) p ≡ length_in (table_of pool rows) p
  counts_stay fit tidy p h =
      elim (cases_lt p (length rows)) [
        | inl m ↦ ap length (stays_for fit tidy p m (λ i. both_ways (has users p) h (In_has i)))
        | inr m ↦
            ap length (lists.get_or_past (table_without q t) p [] (omega (arith, eliminated_count q t, count)))
            ∙ sym (ap length (lists.get_or_past t p [] (omega (arith, count))))
      ]

  -- the first row that is over the limit is that of a user
  pub over_all : ListsFit pool rows → ListsTidy pool rows → (limit : ℕ) → ((p : ℕ) → p < length rows → length_in (table_of pool rows) p ≤ limit) →
      find (is_over (table_without q (table_of pool rows)) limit) (numbers (length rows) 0) ≡ find (is_over (table_without q (table_of pool rows)) limit) users
  over_all fit tidy limit within =
      let new : List (List (List ℕ)) = table_without q (table_of pool rows) in
      sym (ap (find (is_over new limit)) same
      ∙ find_filter (is_over new limit) (is_user pool rows q) (numbers (length rows) 0)
      (λ p i h.
      let w : (0 ≤ p) × (p < 0 + length rows) = numbers_parts (length rows) 0 p i in
      let none : has users p ≡ false = has_not users p (λ j. both_ways (is_user pool rows q p) h (user_is p j)) in
      le-ltb limit (length_in new p) (let k : length_in (table_of pool rows) p ≤ limit = within p (omega arith) in omega (arith, counts_stay fit tidy p none))))
    where
      user_is : (p : ℕ) → In p users → is_user pool rows q p ≡ true
      user_is p j = (filter_cases (is_user pool rows q) (numbers (length rows) 0) p (subst (λ xs. In p xs) same j)).1

  -- so that some row passes the limit where that of a user does
  pub table_over : (limit p : ℕ) → In p users → is_over (table_without q (table_of pool rows)) limit p ≡ true → table_passes limit (table_without q (table_of pool rows)) ≡ true
  unfolding table_passes
  table_over limit p i h =
      let new : List (List (List ℕ)) = table_without q (table_of pool rows) in
      let below : p < length rows = users_below pool rows q users same p i in
      any_from (λ p. ltb limit (length_in new p)) (numbers (length new) 0) p
      (numbers_from (length new) 0 p zero-le (omega (arith, eliminated_count q (table_of pool rows), count))) h

  pub table_within : ListsFit pool rows → ListsTidy pool rows → (limit : ℕ) → ((p : ℕ) → p < length rows → length_in (table_of pool rows) p ≤ limit) →
      ((k : ℕ) → k < length users → is_over (table_without q (table_of pool rows)) limit (get_or users k 0) ≡ false) →
      table_passes limit (table_without q (table_of pool rows)) ≡ false
  unfolding table_passes
  table_within fit tidy limit within f =
      let new : List (List (List ℕ)) = table_without q (table_of pool rows) in
      let size : length (table_without q (table_of pool rows)) ≡ length rows = eliminated_count q (table_of pool rows) ∙ count in
      let none : find (is_over new limit) (numbers (length rows) 0) ≡ None =
      over_all fit tidy limit within ∙ find_nowhere (is_over new limit) users f in
      ap (λ n. list_any (λ p. ltb limit (length_in new p)) (numbers n 0)) size
      ∙ false_from_ne_true (list_any (λ p. ltb limit (length_in new p)) (numbers (length rows) 0)) (λ t.
      let w : (p : ℕ) × In p (numbers (length rows) 0) × (ltb limit (length_in new p) ≡ true) = any_cases (λ p. ltb limit (length_in new p)) (numbers (length rows) 0) t in
      both_ways (ltb limit (length_in new w.0)) (find_none (is_over new limit) (numbers (length rows) 0) none w.0 w.1) w.2)

  -- a user is found over the limit where some row is
  pub found_passes : {A : Type 0} (f : A → ℕ) (over : Option A) → ListsFit pool rows → ListsTidy pool rows → (limit : ℕ) → ((p : ℕ) → p < length rows → length_in (table_of pool rows) p ≤ limit) →
      option_map f over ≡ find (is_over (table_without q (table_of pool rows)) limit) users → is_some over ≡ table_passes limit (table_without q (table_of pool rows))
  found_passes f (Some x) fit tidy limit within e =
      let w : In (f x) users × (is_over (table_without q (table_of pool rows)) limit (f x) ≡ true) = find_some (is_over (table_without q (table_of pool rows)) limit) users (f x) (sym e) in
      sym (table_over limit (f x) w.0 w.1)
  found_passes f None fit tidy limit within e =
      sym (table_within fit tidy limit within (λ k l. find_none (is_over (table_without q (table_of pool rows)) limit) users (sym e) (get_or users k 0) (In_at users k 0 l)))

  pub filed_after : ListsFit pool rows → ListsTidy pool rows → (w : List ℕ) (may : ℕ → Bool) (new : List (List (List ℕ))) → new ≡ table_without q (table_of pool rows) →
      Filed w may (counted_anew (length_in (table_of pool rows)) new users) → Filed w may (length_in (table_without q (table_of pool rows)))
  filed_after fit tidy w may new d f =
      filed_as w may may (counted_anew (length_in t) new users) (length_in (table_without q t)) f (λ p. refl)
      (λ p h. elim (cases_Bool (has users p)) [
        | inl u ↦ cond-true (has users p) (length_in new p) (length_in t p) u ∙ ap (λ x. length_in x p) d
        | inr u ↦ cond-false (has users p) (length_in new p) (length_in t p) u ∙ sym (counts_stay fit tidy p u)
      ])
