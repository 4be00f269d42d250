-- Rows as the ids of their clauses: in a pool that grows, with another one in the place of one, and who names a package.
use Rattle.std.proofs.Common.{◌≡◌, ◌≢◌, ℕ, zero, suc, ◌<◌, ◌≤◌, ◌+◌, true, List, [], ◌∷◌, length, slice_set, inl, inr, refl, sym, ◌∙◌, ap, ap₂, subst, arith}
use Rattle.std.proofs.{lemmas.Bool.{cases_eq}, lemmas.List.{get_or-set_same, get_or-set_other, length-map, length-set, map-set}}
use Rattle.clause_pool.specs.{Interned.{Interned, Kept, OfPool, clause_at, clauses_at}, Lists.{InOrder}, Clauses.{in_row_order}}
use Rattle.clause_pool.proofs.{Interned.{clauses_kept, kept_of_pool}, Order.{ordered_order}}
use Rattle.listed.specs.Lists.{In, has, here, Ascending, Inside}
use Rattle.row_book.specs.{Numbers.{numbers}, Book.{listed_for}, Holders.{is_user, users_in, ListsFit}}
use Rattle.row_book.proofs.{Holders.{is_found}, Numbers.{numbers_ascending, numbers_parts}}
use Rattle.listed.proofs.{Lists.{In_has, In_map, In_map_cases, any_cases, any_from, filter_cases, has_In}, Orders.{ascending_filter}}
use Rattle.clause_flatten.specs.{Ready.{ListsTidy, table_of}, Substitution.{table_row, table_turned, table_without}}
use Rattle.clause_families.specs.Unions.{substituted}
use Rattle.clause_flatten.proofs.{Replacing.{new_apart, new_numbers, new_spent, new_thin, same_items}, Runs.{eliminated_count, other_without, own_without}}
use Rattle.clause_families.proofs.Rewritten.{ids_ascend}

pub lists_at : (pool : Interned) (rows : List (List ℕ)) (p : ℕ) → table_row (table_of pool rows) p ≡ clauses_at pool (listed_for rows p)
lists_at pool [] zero = refl
lists_at pool [] (suc p) = refl
lists_at pool (row ∷ rows) zero = refl
lists_at pool (row ∷ rows) (suc p) = lists_at pool rows p

-- Rows in a pool that grows.

module _ (old new : Interned) (rows : List (List ℕ)) (k : Kept old new) (fit : ListsFit old rows) where
  row_same : (p : ℕ) → clauses_at new (listed_for rows p) ≡ clauses_at old (listed_for rows p)
  row_same p = clauses_kept old new k (listed_for rows p) (fit.of_pool p)

  pub table_kept : table_of new rows ≡ table_of old rows
  table_kept =
      same_items (table_of new rows) (table_of old rows) [] (length-map rows (clauses_at new) ∙ sym (length-map rows (clauses_at old)))
      (λ p l. lists_at new rows p ∙ row_same p ∙ sym (lists_at old rows p))

  pub lists_fit_kept : ListsFit new rows
  lists_fit_kept = record {
    is_pool = k.sound fit.is_pool;
    of_pool = λ p. kept_of_pool old new k (listed_for rows p) (fit.of_pool p);
    in_order = λ p. subst InOrder (sym (row_same p)) (fit.in_order p);
    numbers = λ c p i n j. fit.numbers c p i n (subst (λ z. In n z) (k.clauses c (fit.of_pool p c i)).1 j);
  }

  pub lists_tidy_kept : ListsTidy old rows → ListsTidy new rows
  lists_tidy_kept tidy = record {
    apart = λ p c i. tidy.apart p c (subst (λ z. In c z) (row_same p) i);
    minimal = λ p c d i j. tidy.minimal p c d (subst (λ z. In c z) (row_same p) i) (subst (λ z. In d z) (row_same p) j);
  }

-- One row replaced.

module _ (pool : Interned) (rows : List (List ℕ)) (user : ℕ) (ids : List ℕ) (user_in : user < length rows) where
  set_here : (p : ℕ) → p ≡ user → listed_for (slice_set rows user ids) p ≡ ids
  set_here p e = ap (listed_for (slice_set rows user ids)) e ∙ get_or-set_same rows user ids [] user_in

  set_other : (p : ℕ) → p ≢ user → listed_for (slice_set rows user ids) p ≡ listed_for rows p
  set_other p ne = get_or-set_other rows user p ids [] ne

  lists_fit_set : ListsFit pool rows → OfPool pool ids → InOrder (clauses_at pool ids) → ((c : ℕ) → In c ids → (n : ℕ) → In n (clause_at pool c) → n < length rows) → ListsFit pool (slice_set rows user ids)
  lists_fit_set fit of_pool order below = record {
    is_pool = fit.is_pool;
    of_pool = λ p. elim (cases_eq p user) [
      | inl e ↦ subst (OfPool pool) (sym (set_here p e)) of_pool
      | inr ne ↦ subst (OfPool pool) (sym (set_other p ne)) (fit.of_pool p)
    ];
    in_order = λ p. elim (cases_eq p user) [
      | inl e ↦ subst (λ z. InOrder (clauses_at pool z)) (sym (set_here p e)) order
      | inr ne ↦ subst (λ z. InOrder (clauses_at pool z)) (sym (set_other p ne)) (fit.in_order p)
    ];
    numbers = λ c p i n j. subst (λ z. n < z) (sym (length-set rows user ids)) (elim (cases_eq p user) [
      | inl e ↦ below c (subst (λ z. In c z) (set_here p e) i) n j
      | inr ne ↦ fit.numbers c p (subst (λ z. In c z) (set_other p ne) i) n j
    ]);
  }

  lists_tidy_set : ListsTidy pool rows → ((c : List ℕ) → In c (clauses_at pool ids) → In user c → ⊥) →
      ((c d : List ℕ) → In c (clauses_at pool ids) → In d (clauses_at pool ids) → Inside c d → c ≡ d) → ListsTidy pool (slice_set rows user ids)
  lists_tidy_set tidy apart thin = record {
    apart = λ p c i. elim (cases_eq p user) [
      | inl e ↦ subst (λ z. In z c → ⊥) (sym e) (apart c (subst (λ z. In c (clauses_at pool z)) (set_here p e) i))
      | inr ne ↦ tidy.apart p c (subst (λ z. In c (clauses_at pool z)) (set_other p ne) i)
    ];
    minimal = λ p c d i j. elim (cases_eq p user) [
      | inl e ↦ thin c d (subst (λ z. In c (clauses_at pool z)) (set_here p e) i) (subst (λ z. In d (clauses_at pool z)) (set_here p e) j)
      | inr ne ↦ tidy.minimal p c d (subst (λ z. In c (clauses_at pool z)) (set_other p ne) i) (subst (λ z. In d (clauses_at pool z)) (set_other p ne) j)
    ];
  }

-- The row of a user substituted, in a pool that has grown.

module _ (old new : Interned) (rows : List (List ℕ)) (user gone : ℕ) (ids : List ℕ) (k : Kept old new) (fit : ListsFit old rows) (user_in : user < length rows) (of_pool : OfPool new ids)
    (made : clauses_at new ids ≡ in_row_order (substituted user gone (clauses_at old (listed_for rows user)) (clauses_at old (listed_for rows gone)))) where
  abbrev A : ℕ → List (List ℕ)
  A p = clauses_at old (listed_for rows p)

  row_below : (p : ℕ) (c : List ℕ) → In c (A p) → (n : ℕ) → In n c → n < length rows
  row_below p c i n j =
      let w : (id : ℕ) × In id (listed_for rows p) × (c ≡ clause_at old id) = In_map_cases (clause_at old) (listed_for rows p) c i in
      fit.numbers w.0 p w.1 n (subst (λ z. In n z) w.2 j)

  row_up : (p : ℕ) (c : List ℕ) → In c (A p) → Ascending c
  row_up p = ids_ascend old (listed_for rows p) fit.is_pool (fit.of_pool p)

  pub turned_below : (c : ℕ) → In c ids → (n : ℕ) → In n (clause_at new c) → n < length rows
  turned_below c i n j =
      new_numbers user gone (A user) (A gone) (length rows) (row_below user) (row_below gone) (clause_at new c)
      (subst (λ z. In (clause_at new c) z) made (In_map (clause_at new) ids c i)) n j

  pub turned_fit : ListsFit new (slice_set rows user ids)
  turned_fit =
      lists_fit_set new rows user ids user_in (lists_fit_kept old new rows k fit) of_pool
      (subst InOrder (sym made) (ordered_order (substituted user gone (A user) (A gone)))) turned_below

  pub turned_tidy : ListsTidy old rows → ListsTidy new (slice_set rows user ids)
  turned_tidy tidy =
      lists_tidy_set new rows user ids user_in (lists_tidy_kept old new rows k fit tidy)
      (λ c i. new_apart user gone (A user) (A gone) c (subst (λ z. In c z) made i))
      (λ c d i j. new_thin user gone (A user) (A gone) (row_up user) (row_up gone) c d (subst (λ z. In c z) made i) (subst (λ z. In d z) made j))

  pub turned_table : table_of new (slice_set rows user ids) ≡ table_turned user gone (table_of old rows)
  turned_table =
      map-set (clauses_at new) rows user ids
      ∙ ap₂ (λ t r. slice_set t user r) (table_kept old new rows k fit) made
      ∙ ap₂ (λ a b. slice_set (table_of old rows) user (in_row_order (substituted user gone a b))) (sym (lists_at old rows user)) (sym (lists_at old rows gone))

-- Who names a package.

module _ (pool : Interned) (rows : List (List ℕ)) (q : ℕ) (users : List ℕ) (same : users ≡ users_in pool rows q) where
  pub users_below : (p : ℕ) → In p users → p < length rows
  users_below p i =
      let w : (0 ≤ p) × (p < 0 + length rows) = numbers_parts (length rows) 0 p (filter_cases (is_user pool rows q) (numbers (length rows) 0) p (subst (λ z. In p z) same i)).0 in
      omega arith

  pub users_rise : Ascending users
  users_rise = subst Ascending (sym same) (ascending_filter (is_user pool rows q) (numbers (length rows) 0) (numbers_ascending (length rows) 0))

  -- a package that is no user names it in no clause
  pub not_named : (p : ℕ) → (In p users → ⊥) → (c : List ℕ) → In c (clauses_at pool (listed_for rows p)) → In q c → ⊥
  not_named p f c i j =
      let w : (id : ℕ) × In id (listed_for rows p) × (c ≡ clause_at pool id) = In_map_cases (clause_at pool) (listed_for rows p) c i in
      f (subst (λ z. In p z) (sym same)
      (is_found pool rows q p (any_from (λ id. has (clause_at pool id) q) (listed_for rows p) w.0 w.1 (In_has (subst (λ z. In q z) w.2 j)))))

  -- and a user does in some clause
  named : (p : ℕ) → In p users → (c : List ℕ) × In c (clauses_at pool (listed_for rows p)) × In q c
  named p i =
      let w : (id : ℕ) × In id (listed_for rows p) × (has (clause_at pool id) q ≡ true) =
      any_cases (λ id. has (clause_at pool id) q) (listed_for rows p) (filter_cases (is_user pool rows q) (numbers (length rows) 0) p (subst (λ z. In p z) same i)).1 in
      (clause_at pool w.0, In_map (clause_at pool) (listed_for rows p) w.0 w.1, has_In (clause_at pool w.0) q w.2)

  pub not_own : ListsTidy pool rows → In q users → ⊥
  not_own tidy i = let w : (c : List ℕ) × In c (clauses_at pool (listed_for rows q)) × In q c = named q i in tidy.apart q w.0 w.1 w.2

-- no row holds a package any more that was taken out
pub none_left : (start pool : Interned) (first rows : List (List ℕ)) (q : ℕ) → q < length first → ListsTidy start first → table_of pool rows ≡ table_without q (table_of start first) → users_in pool rows q ≡ []
none_left start pool first rows q q_in tidy made =
    let t : List (List (List ℕ)) = table_of start first in
    let long : length (table_of start first) ≡ length first = length-map first (clauses_at start) in
    let size : length rows ≡ length first = sym (length-map rows (clauses_at pool)) ∙ ap length made ∙ eliminated_count q t ∙ long in
    no_items (users_in pool rows q) (λ p i.
    let k : p < length rows = users_below pool rows q (users_in pool rows q) refl p i in
    let w : (c : List ℕ) × In c (clauses_at pool (listed_for rows p)) × In q c = named pool rows q (users_in pool rows q) refl p i in
    let reads : clauses_at pool (listed_for rows p) ≡ table_row (table_without q (table_of start first)) p = sym (lists_at pool rows p) ∙ ap (λ z. table_row z p) made in
    let own : (c : List ℕ) → In c (table_row (table_of start first) q) → In q c → ⊥ = λ c j. tidy.apart q c (subst (λ z. In c z) (lists_at start first q) j) in
    elim (cases_eq p q) [
      | inl e ↦ own w.0 (subst (λ z. In w.0 z) (reads ∙ ap (table_row (table_without q (table_of start first))) e ∙ own_without q t (omega (arith, long, q_in))) w.1) w.2
      | inr ne ↦ new_spent p q (table_row t p) (table_row t q) own w.0 (subst (λ z. In w.0 z) (reads ∙ other_without q t p (omega (arith, long, size)) ne) w.1) w.2
    ])
  where
    no_items : (xs : List ℕ) → ((x : ℕ) → In x xs → ⊥) → xs ≡ []
    no_items [] f = refl
    no_items (x ∷ xs) f = absurd (f x here)
