-- Rows of a pool of which one after another is replaced, and what a package's elimination comes to.
use Rattle.std.proofs.Common.{◌≡◌, ◌≢◌, ℕ, zero, suc, ◌<◌, ◌≤◌, ◌+◌, true, List, [], ◌∷◌, length, get_or, drop, map, slice_set, ◌⊎◌, inl, inr, refl, sym, ◌∙◌}
use Rattle.std.proofs.{Common.{ap, ap₂, subst, arith}, lemmas.Bool.{cases_eq}}
use Rattle.std.proofs.lemmas.List.{get_or-set_same, get_or-set_other, get_or-map, length-set, length-map}
use Rattle.std.specs.List.{list_any}
use Rattle.clause_pool.specs.{Interned.{Interned, IsPool, Kept, row_at}, Clauses.{apart_from, in_row_order}}
use Rattle.clause_pool.proofs.{Lists.{In_at}, Clauses.{apart_cases, minimal_of_parts}, Order.{ordered_parts}}
use Rattle.listed.specs.Lists.{In, here, there, has, Ascending, Inside}
use Rattle.row_book.specs.{Numbers.{numbers}, Book.{RowsFit, RowsTidy, listed_for}, Uses.{row_holds, row_id, users_of, uses_of}}
use Rattle.listed.proofs.{Lists.{In_cases, In_has, In_none, any_cases, any_from, filter_cases, filter_from, has_In, filter_same}, Orders.{ascending_same}}
use Rattle.row_book.proofs.{Books.{row_kept}, Numbers.{at_numbers, map_same, numbers_from, numbers_parts}}
use Rattle.clause_flatten.specs.Substitution.{table_without, table_row}
use Rattle.clause_families.specs.Unions.{clause_without, all_unions_for, substituted}
use Rattle.clause_families.proofs.Unions.{Comes, dropped_parts, joined_ascending, joined_cases, replaced_cases}
use Rattle.clause_flatten.proofs.Runs.{eliminated_count, other_without, own_without}

-- Rows in a pool that grows.

pub id_in : (rows : List ℕ) (p : ℕ) → p < length rows → In (row_id rows p) rows
id_in rows p l = In_at rows p 0 l

module _ (old new : Interned) (rows : List ℕ) (is : IsPool old) (k : Kept old new) (fit : RowsFit old rows) where
  pub at_same : (p : ℕ) → p < length rows → row_at new (row_id rows p) ≡ row_at old (row_id rows p)
  at_same p l = row_kept old new is k (row_id rows p) (fit.of_pool (row_id rows p) (id_in rows p l))

  pub uses_kept : uses_of old rows ≡ uses_of new rows
  unfolding uses_of
  uses_kept =
      map_same (users_of old rows) (users_of new rows) (numbers (length rows) 0)
      (λ n j. filter_same (λ p. row_holds old (row_id rows p) n) (λ p. row_holds new (row_id rows p) n) (numbers (length rows) 0)
      (λ p i. ap (λ z. list_any (λ c. has c n) z) (sym (at_same p (let w : (0 ≤ p) × (p < 0 + length rows) = numbers_parts (length rows) 0 p i in omega arith)))))

  pub fit_kept : RowsFit new rows
  fit_kept = record {
    is_pool = k.sound fit.is_pool;
    of_pool = λ id i. (k.rows id (fit.of_pool id i)).0;
    numbers = λ id i c j. fit.numbers id i c (subst (λ z. In c z) (row_kept old new is k id (fit.of_pool id i)) j);
  }

  pub tidy_kept : RowsTidy old rows → RowsTidy new rows
  tidy_kept tidy = record {
    apart = λ p l c i. tidy.apart p l c (subst (λ z. In c z) (at_same p l) i);
    minimal = λ p l c d i j. tidy.minimal p l c d (subst (λ z. In c z) (at_same p l) i) (subst (λ z. In d z) (at_same p l) j);
  }

-- One row replaced.

set_cases : (xs : List ℕ) (i v x : ℕ) → In x (slice_set xs i v) → (x ≡ v) ⊎ In x xs
set_cases [] i v x j = absurd (In_none j)
set_cases (y ∷ ys) zero v x j = elim (In_cases j) [ inl e ↦ inl e | inr m ↦ inr (there m) ]
set_cases (y ∷ ys) (suc i) v x j =
    elim (In_cases j) [
      | inl e ↦ inr (subst (λ z. In x (z ∷ ys)) e here)
      | inr m ↦ elim (set_cases ys i v x m) [ inl e ↦ inl e | inr n ↦ inr (there n) ]
    ]

module _ (pool : Interned) (rows : List ℕ) (user id : ℕ) (user_in : user < length rows) where
  pub id_set : row_id (slice_set rows user id) user ≡ id
  id_set = get_or-set_same rows user id 0 user_in

  pub id_other : (p : ℕ) → p ≢ user → row_id (slice_set rows user id) p ≡ row_id rows p
  id_other p e = get_or-set_other rows user p id 0 e

  size_set : length (slice_set rows user id) ≡ length rows
  size_set = length-set rows user id

  pub fit_set : RowsFit pool rows → id < length pool.rows → ((c : List ℕ) → In c (row_at pool id) → (n : ℕ) → In n c → n < length rows) → RowsFit pool (slice_set rows user id)
  fit_set fit l f = record {
    is_pool = fit.is_pool;
    of_pool = λ k i. elim (set_cases rows user id k i) [ inl e ↦ subst (λ z. z < length pool.rows) (sym e) l | inr j ↦ fit.of_pool k j ];
    numbers = λ k i c m n o. subst (λ z. n < z) (sym size_set)
        (elim (set_cases rows user id k i) [ inl e ↦ f c (subst (λ z. In c (row_at pool z)) e m) n o | inr j ↦ fit.numbers k j c m n o ]);
  }

  pub tidy_set : RowsTidy pool rows → ((c : List ℕ) → In c (row_at pool id) → In user c → ⊥) →
      ((c d : List ℕ) → In c (row_at pool id) → In d (row_at pool id) → Inside c d → c ≡ d) → RowsTidy pool (slice_set rows user id)
  tidy_set tidy apart thin = record {
    apart = λ p l c i. elim (cases_eq p user) [
      | inl e ↦ subst (λ z. In z c → ⊥) (sym e) (apart c (subst (λ z. In c (row_at pool z)) (ap (row_id (slice_set rows user id)) e ∙ id_set) i))
      | inr ne ↦ tidy.apart p (subst (λ z. p < z) size_set l) c (subst (λ z. In c (row_at pool z)) (id_other p ne) i)
    ];
    minimal = λ p l c d i j. elim (cases_eq p user) [
      | inl e ↦ thin c d (subst (λ z. In c (row_at pool z)) (ap (row_id (slice_set rows user id)) e ∙ id_set) i) (subst (λ z. In d (row_at pool z)) (ap (row_id (slice_set rows user id)) e ∙ id_set) j)
      | inr ne ↦ tidy.minimal p (subst (λ z. p < z) size_set l) c d (subst (λ z. In c (row_at pool z)) (id_other p ne) i) (subst (λ z. In d (row_at pool z)) (id_other p ne) j)
    ];
  }

-- What a substituted row is like.

module _ (p q : ℕ) (A B : List (List ℕ)) where
  came : (c : List ℕ) → In c (in_row_order (substituted p q A B)) → In c (all_unions_for q A B) × (In p c → ⊥)
  came c i = apart_cases p (all_unions_for q A B) c (minimal_of_parts (apart_from p (all_unions_for q A B)) c (ordered_parts (substituted p q A B) c i)).0

  pub new_apart : (c : List ℕ) → In c (in_row_order (substituted p q A B)) → In p c → ⊥
  new_apart c i = (came c i).1

  pub new_numbers : (size : ℕ) → ((c : List ℕ) → In c A → (n : ℕ) → In n c → n < size) → ((c : List ℕ) → In c B → (n : ℕ) → In n c → n < size) →
      (c : List ℕ) → In c (in_row_order (substituted p q A B)) → (n : ℕ) → In n c → n < size
  new_numbers size f g c i n j =
      let from : (T : List ℕ) × In T A × Comes q B T c = replaced_cases q A B c (came c i).0 in
      elim from.2.how [
        | inl kept ↦ f from.0 from.1 n (subst (λ z. In n z) kept.1 j)
        | inr made ↦ elim (joined_cases (clause_without q from.0) made.0 n (subst (λ z. In n z) made.3 j)) [
          | inl a ↦ f from.0 from.1 n (dropped_parts q from.0 n a).0
          | inr b ↦ g made.0 made.1 n b
        ]
      ]

  pub new_up : ((c : List ℕ) → In c A → Ascending c) → ((c : List ℕ) → In c B → Ascending c) → (c : List ℕ) → In c (in_row_order (substituted p q A B)) → Ascending c
  new_up f g c i =
      let from : (T : List ℕ) × In T A × Comes q B T c = replaced_cases q A B c (came c i).0 in
      elim from.2.how [
        | inl kept ↦ subst (λ z. Ascending z) (sym kept.1) (f from.0 from.1)
        | inr made ↦ subst (λ z. Ascending z) (sym made.3) (joined_ascending (clause_without q from.0) made.0 (g made.0 made.1))
      ]

  pub new_thin : ((c : List ℕ) → In c A → Ascending c) → ((c : List ℕ) → In c B → Ascending c) →
      (c d : List ℕ) → In c (in_row_order (substituted p q A B)) → In d (in_row_order (substituted p q A B)) → Inside c d → c ≡ d
  new_thin f g c d i j inside =
      let w : In d (apart_from p (all_unions_for q A B)) × ((S : List ℕ) → In S (apart_from p (all_unions_for q A B)) → Inside S d → Inside d S) =
      minimal_of_parts (apart_from p (all_unions_for q A B)) d (ordered_parts (substituted p q A B) d j) in
      let c_in : In c (apart_from p (all_unions_for q A B)) = (minimal_of_parts (apart_from p (all_unions_for q A B)) c (ordered_parts (substituted p q A B) c i)).0 in
      ascending_same c d (new_up f g c i) (new_up f g d j) inside (w.1 c c_in inside)

  -- nor does it hold the package that is taken out, where that one's own row does not
  pub new_spent : ((c : List ℕ) → In c B → In q c → ⊥) → (c : List ℕ) → In c (in_row_order (substituted p q A B)) → In q c → ⊥
  new_spent f c i j =
      let from : (T : List ℕ) × In T A × Comes q B T c = replaced_cases q A B c (came c i).0 in
      elim from.2.how [
        | inl kept ↦ kept.0 (subst (λ z. In q z) kept.1 j)
        | inr made ↦ elim (joined_cases (clause_without q from.0) made.0 q (subst (λ z. In q z) made.3 j)) [
          | inl a ↦ (dropped_parts q from.0 q a).1 refl
          | inr b ↦ f made.0 made.1 b
        ]
      ]

-- Who names a package.

pub users_at : (pool : Interned) (rows : List ℕ) (n : ℕ) → n < length rows → listed_for (uses_of pool rows) n ≡ users_of pool rows n
unfolding uses_of
users_at pool rows n l = at_numbers (users_of pool rows) [] (length rows) 0 n l ∙ ap (users_of pool rows) (omega arith)

-- the users as they were lent, copied and lent again
pub users_are : (pool : Interned) (rows : List ℕ) (n : ℕ) (uses : List (List ℕ)) (lent copied slice : List ℕ) → n < length rows → uses ≡ uses_of pool rows →
    lent ≡ listed_for uses n → copied ≡ lent → slice ≡ copied → slice ≡ users_of pool rows n
users_are pool rows n uses lent copied slice l e f g h = h ∙ g ∙ f ∙ ap (λ z. listed_for z n) e ∙ users_at pool rows n l

pub user_in : (pool : Interned) (rows : List ℕ) (n p : ℕ) → In p (users_of pool rows n) → p < length rows
user_in pool rows n p i =
    let w : (0 ≤ p) × (p < 0 + length rows) = numbers_parts (length rows) 0 p (filter_cases (λ k. row_holds pool (row_id rows k) n) (numbers (length rows) 0) p i).0 in
    omega arith

pub not_user : (pool : Interned) (rows : List ℕ) (n p : ℕ) → p < length rows → (In p (users_of pool rows n) → ⊥) → (c : List ℕ) → In c (row_at pool (row_id rows p)) → In n c → ⊥
not_user pool rows n p l f c i j =
    f (filter_from (λ k. row_holds pool (row_id rows k) n) (numbers (length rows) 0) p (numbers_from (length rows) 0 p (omega arith) (omega arith))
    (any_from (λ d. has d n) (row_at pool (row_id rows p)) c i (In_has j)))

pub own_user : (pool : Interned) (rows : List ℕ) (n : ℕ) → RowsTidy pool rows → n < length rows → In n (users_of pool rows n) → ⊥
own_user pool rows n tidy l i =
    let w : (c : List ℕ) × In c (row_at pool (row_id rows n)) × (has c n ≡ true) =
    any_cases (λ d. has d n) (row_at pool (row_id rows n)) (filter_cases (λ k. row_holds pool (row_id rows k) n) (numbers (length rows) 0) n i).1 in
    tidy.apart n l w.0 w.1 (has_In w.0 n w.2)

pub not_behind : (xs : List ℕ) (i : ℕ) → Ascending xs → i < length xs → In (get_or xs i 0) (drop (i + 1) xs) → ⊥
not_behind [] i a l j = absurd (omega arith)
not_behind (x ∷ xs) zero a l j = let h : x < x = a.0 x j in omega arith
not_behind (x ∷ xs) (suc i) a l j =
    let e : suc i + 1 ≡ suc (i + 1) = omega arith in
    not_behind xs i a.1 (omega arith) (subst (λ n. In (get_or xs i 0) (drop n (x ∷ xs))) e j)

-- The table of rows once a package is taken out.

pub same_items : {A : Type 0} (xs ys : List A) (d : A) → length xs ≡ length ys → ((i : ℕ) → i < length xs → get_or xs i d ≡ get_or ys i d) → xs ≡ ys
same_items [] [] d e f = refl
same_items [] (y ∷ ys) d e f = absurd (let k : 0 ≡ suc (length ys) = e in omega arith)
same_items (x ∷ xs) [] d e f = absurd (let k : suc (length xs) ≡ 0 = e in omega arith)
same_items (x ∷ xs) (y ∷ ys) d e f =
    let k : suc (length xs) ≡ suc (length ys) = e in
    ap₂ (λ z zs. z ∷ zs) (f 0 (omega arith)) (same_items xs ys d (omega arith) (λ i l. f (suc i) (omega arith)))

module _ (start : Interned) (first : List ℕ) (q : ℕ) (q_in : q < length first) where
  abbrev table : List (List (List ℕ))
  table = map (row_at start) first

  table_size : length table ≡ length first
  table_size = length-map first (row_at start)

  table_at : (p : ℕ) → p < length first → table_row table p ≡ row_at start (row_id first p)
  table_at p l = get_or-map (row_at start) first p 0 [] l

  pub own_eliminated : table_row (table_without q (map (row_at start) first)) q ≡ row_at start (row_id first q)
  own_eliminated = own_without q table (subst (λ z. q < z) (sym table_size) q_in) ∙ table_at q q_in

  pub other_eliminated : (p : ℕ) → p < length first → p ≢ q →
      table_row (table_without q (map (row_at start) first)) p ≡ in_row_order (substituted p q (row_at start (row_id first p)) (row_at start (row_id first q)))
  other_eliminated p l ne =
      other_without q table p (subst (λ z. p < z) (sym table_size) l) ne
      ∙ ap₂ (λ a b. in_row_order (substituted p q a b)) (table_at p l) (table_at q q_in)

  pub table_same : (pool : Interned) (rows : List ℕ) → length rows ≡ length first →
      ((p : ℕ) → p < length first → row_at pool (row_id rows p) ≡ table_row (table_without q (map (row_at start) first)) p) →
      map (row_at pool) rows ≡ table_without q (map (row_at start) first)
  table_same pool rows size f =
      let long : length (map (row_at pool) rows) ≡ length rows = length-map rows (row_at pool) in
      same_items (map (row_at pool) rows) (table_without q table) [] (long ∙ size ∙ sym (eliminated_count q table ∙ table_size))
      (λ p l. get_or-map (row_at pool) rows p 0 [] (subst (λ z. p < z) long l) ∙ f p (subst (λ z. p < z) (long ∙ size) l))
