-- Rows that come into the pool.
use Rattle.std.proofs.Common.{◌≡◌, ℕ, ◌<◌, ◌+◌, List, [], ◌∷◌, ◌++◌, length, get_or, map, inl, inr, refl, sym, ◌∙◌, ap, ap₂, subst, take}
use Rattle.std.proofs.lemmas.List.{length-map, map-append, take_more}
use Rattle.clause_pool.specs.{Interned.{Interned, IsPool, Kept, OfPool, clause_at, clauses_at, row_at}, Lists.{InOrder}}
use Rattle.clause_pool.proofs.{Interned.{clauses_kept, kept_along, kept_of_pool, row_stays}, Lists.{In_place}}
use Rattle.listed.specs.Lists.{In, here, there}
use Rattle.row_book.specs.{Book.{RowsFit, listed_for}, Holders.{ListsFit}}
use Rattle.listed.proofs.Lists.{In_append_cases, In_cases, In_map, In_map_cases, In_none}
use Rattle.clause_flatten.specs.Ready.{table_of}
use Rattle.clause_flatten.proofs.Turning.{lent_row}

-- the row of a package is of the pool and in order, and stays so in a pool that has grown
module _ (start now : Interned) (lists : List (List ℕ)) (n : ℕ) (ids lent : List ℕ) (fit : ListsFit start lists) (k : Kept start now) (l : n < length lists) (e : ids ≡ get_or lists n ids) (f : lent ≡ ids) where
  lent_is : lent ≡ listed_for lists n
  lent_is = lent_row lists n ids lent l e f

  pub lent_there : OfPool start lent
  lent_there = subst (OfPool start) (sym lent_is) (fit.of_pool n)

  pub lent_of_pool : OfPool now lent
  lent_of_pool = kept_of_pool start now k lent lent_there

  pub lent_in_order : InOrder (clauses_at now lent)
  lent_in_order = subst InOrder (sym (clauses_kept start now k lent lent_there)) (subst (λ z. InOrder (clauses_at start z)) (sym lent_is) (fit.in_order n))

-- so many of the rows are in the pool
pub record InPoolTo (start : Interned) (lists : List (List ℕ)) (n : ℕ) (now : Interned) (rows : List ℕ) : Type 0 where
  pub table : map (row_at now) rows ≡ table_of start (take n lists)
  pub of_pool : (id : ℕ) → In id rows → id < length now.rows
  pub kept : Kept start now

rows_stay : (old new : Interned) → IsPool old → Kept old new → (rows : List ℕ) → ((id : ℕ) → In id rows → id < length old.rows) → map (row_at new) rows ≡ map (row_at old) rows
rows_stay old new is k [] f = refl
rows_stay old new is k (id ∷ ids) f = ap₂ (λ x xs. x ∷ xs) (row_stays old new is k id (f id here)) (rows_stay old new is k ids (λ i j. f i (there j)))

-- one more is
pub in_pool_more : (start old new : Interned) (lists : List (List ℕ)) (n : ℕ) (rows after ids : List ℕ) (id : ℕ) → IsPool old → n < length lists → ids ≡ get_or lists n ids → OfPool start ids →
    InPoolTo start lists n old rows → Kept old new → row_at new id ≡ clauses_at old ids → id < length new.rows → after ≡ rows ++ id ∷ [] → InPoolTo start lists (n + 1) new after
in_pool_more start old new lists n rows after ids id is l e of_start t k at within a =
    let read : row_at new id ≡ clauses_at start ids = at ∙ clauses_kept start old t.kept ids of_start in
    record {
      table =
          ap (map (row_at new)) a
          ∙ map-append (row_at new) rows (id ∷ [])
          ∙ ap₂ (λ xs x. xs ++ x ∷ []) (rows_stay old new is k rows t.of_pool ∙ t.table) read
          ∙ sym (ap (table_of start) (take_more lists n ids l ∙ ap (λ z. take n lists ++ z ∷ []) (sym e)) ∙ map-append (clauses_at start) (take n lists) (ids ∷ []));
      of_pool = λ i j. elim (In_append_cases rows (id ∷ []) i (subst (λ xs. In i xs) a j)) [
        | inl o ↦ (k.rows i (t.of_pool i o)).0
        | inr o ↦ elim (In_cases o) [ inl s ↦ subst (λ z. z < length new.rows) (sym s) within | inr none ↦ absurd (In_none none) ]
      ];
      kept = kept_along start old new t.kept k;
    }

-- all are
module _ (start now : Interned) (lists : List (List ℕ)) (n : ℕ) (rows : List ℕ) (all : take n lists ≡ lists) (t : InPoolTo start lists n now rows) where
  pub in_pool_table : map (row_at now) rows ≡ table_of start lists
  in_pool_table = t.table ∙ ap (table_of start) all

  pub in_pool_fit : ListsFit start lists → RowsFit now rows
  in_pool_fit fit = record {
    is_pool = t.kept.sound fit.is_pool;
    of_pool = t.of_pool;
    numbers = λ id i c j n m.
        let size : length rows ≡ length lists = sym (length-map rows (row_at now)) ∙ ap length in_pool_table ∙ length-map lists (clauses_at start) in
        let w : (ids : List ℕ) × In ids lists × (row_at now id ≡ clauses_at start ids) =
        In_map_cases (clauses_at start) lists (row_at now id) (subst (λ z. In (row_at now id) z) in_pool_table (In_map (row_at now) rows id i)) in
        let p : (p : ℕ) × (p < length lists) × (get_or lists p [] ≡ w.0) = In_place lists w.0 [] w.1 in
        let o : (k : ℕ) × In k w.0 × (c ≡ clause_at start k) = In_map_cases (clause_at start) w.0 c (subst (λ z. In c z) w.2 j) in
        subst (λ z. n < z) (sym size) (fit.numbers o.0 p.0 (subst (λ z. In o.0 z) (sym p.2) o.1) n (subst (λ z. In n z) o.2 m));
  }
