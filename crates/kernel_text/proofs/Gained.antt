-- What a pool gains while the clauses of classes, and then their rows, are put into it.
use Rattle.std.proofs.Common.{◌≡◌, ℕ, zero, suc, ◌+◌, ◌<◌, ◌≤◌, List, [], ◌∷◌, ◌++◌, length, get_or, set, take, inl, inr, refl, sym, ap, ◌∙◌, subst}
use Rattle.std.proofs.{Common.{length-append, arith}, lemmas.Bool.{cases_eq, cases_lt}, lemmas.List.{get_or-set_same, get_or-set_other, get_or_push, take_more}}
use Rattle.clause_pool.specs.Interned.{Gains, Interned, IsIdOf, Kept, ids_at}
use Rattle.row_book.specs.Book.{AddsOnly, listed_for}
use Rattle.listed.specs.Lists.{In, here, there}
use Rattle.listed.proofs.Lists.{In_append_cases, In_append_left, In_append_right, In_cases, In_none}
use Rattle.kernel_text.specs.Booking.{GainsClauses, GainsRows}

-- a list that was gained has the id that is told
gained_at : (old new : List (List ℕ)) (list : List ℕ) (id : ℕ) → Gains old list new → IsIdOf new list id → (other : ℕ) → length old ≤ other → other < length new → other ≡ id
gained_at old new list id (inl had) is other g u = absurd (let e : length new ≡ length old = ap length had.1 in omega arith)
gained_at old new list id (inr put) is other g u =
    let e : length new ≡ length old + 1 = ap length put.1 ∙ length-append old (list ∷ []) in
    is.only other u (ap (λ lists. get_or lists other []) put.1 ∙ get_or_push old list [] other (omega arith))

pub no_clauses : (pool : Interned) (table : List (List ℕ)) → GainsClauses pool pool table
no_clauses pool table = record { rows = refl; only = λ id l u. absurd (omega arith) }

-- one more clause, of which the id stands behind those of its class
pub clause_gained : (start old new : Interned) (clause : List ℕ) (table more : List (List ℕ)) (class id : ℕ) → GainsClauses start old table → Gains old.clauses clause new.clauses →
    new.rows ≡ old.rows → IsIdOf new.clauses clause id → class < length table → more ≡ set table class (listed_for table class ++ id ∷ []) → GainsClauses start new more
clause_gained start old new clause table more class id had gains rows is inside made = record {
  rows = rows ∙ had.rows;
  only = λ other l u.
      elim (cases_lt other (length old.clauses)) [
        | inl m ↦ (let w : (n : ℕ) × In other (listed_for table n) = had.only other l m in (w.0, stays w.0 other w.1))
        | inr g ↦ (
          class,
          subst (λ ids. In other ids) (sym own)
              (In_append_right (listed_for table class) (id ∷ []) other (subst (λ k. In other (k ∷ [])) (gained_at old.clauses new.clauses clause id gains is other g u) here)),
        )
      ];
}
  where
    own : listed_for more class ≡ listed_for table class ++ id ∷ []
    own = ap (λ t. listed_for t class) made ∙ get_or-set_same table class (listed_for table class ++ id ∷ []) [] inside

    stays : (n other : ℕ) → In other (listed_for table n) → In other (listed_for more n)
    stays n other i = elim (cases_eq n class) [
      | inl e ↦
          subst (λ k. In other (listed_for more k)) (sym e)
          (subst (λ ids. In other ids) (sym own) (In_append_left (listed_for table class) (id ∷ []) other (subst (λ k. In other (listed_for table k)) e i)))
      | inr ne ↦ subst (λ ids. In other ids) (sym (ap (λ t. listed_for t n) made ∙ get_or-set_other table class n (listed_for table class ++ id ∷ []) [] ne)) i
    ]

-- one more row
pub row_gained : (start old new : Interned) (lists : List (List ℕ)) (i : ℕ) (ids rows more : List ℕ) (row : ℕ) → i < length lists → get_or lists i [] ≡ ids → GainsRows start old (take i lists) rows →
    ((other : ℕ) → In other rows → other < length old.rows) → Kept old new → Gains old.rows ids new.rows → new.clauses ≡ old.clauses → IsIdOf new.rows ids row → more ≡ rows ++ row ∷ [] →
    GainsRows start new (take (i + 1) lists) more
row_gained start old new lists i ids rows more row inside at had within kept gains clauses is pushed = record {
  clauses = clauses ∙ had.clauses;
  only = λ other l u.
      subst (λ xs. In other xs) (sym pushed)
      (elim (cases_lt other (length old.rows)) [
        | inl m ↦ In_append_left rows (row ∷ []) other (had.only other l m)
        | inr g ↦ In_append_right rows (row ∷ []) other (subst (λ k. In other (k ∷ [])) (gained_at old.rows new.rows ids row gains is other g u) here)
      ]);
  each = λ list j.
      elim (In_append_cases (take i lists) (ids ∷ []) list (subst (λ xs. In list xs) lists_more j)) [
        | inl k ↦
            (let w : (other : ℕ) × In other rows × (ids_at old other ≡ list) = had.each list k in
            (w.0, subst (λ xs. In w.0 xs) (sym pushed) (In_append_left rows (row ∷ []) w.0 w.1), (kept.rows w.0 (within w.0 w.1)).1 ∙ w.2))
        | inr k ↦ (row, subst (λ xs. In row xs) (sym pushed) (In_append_right rows (row ∷ []) row here), is.holds ∙ sym (only_list list k))
      ];
}
  where
    lists_more : take (i + 1) lists ≡ take i lists ++ ids ∷ []
    lists_more = take_more lists i [] inside ∙ ap (λ x. take i lists ++ x ∷ []) at

    only_list : (list : List ℕ) → In list (ids ∷ []) → list ≡ ids
    only_list list k = elim (In_cases k) [ inl e ↦ e | inr n ↦ absurd (In_none n) ]

-- a list that has an id is one of the table
in_table : (table : List (List ℕ)) (n id : ℕ) → In id (listed_for table n) → In (listed_for table n) table
in_table [] n id i = absurd (In_none i)
in_table (ids ∷ table) zero id i = here
in_table (ids ∷ table) (suc n) id i = there (in_table table n id i)

-- with the rows of all lists, each gained clause is one of a row
pub rows_alone : (start middle new : Interned) (table : List (List ℕ)) (rows : List ℕ) → GainsClauses start middle table → GainsRows middle new table rows → AddsOnly start new rows
rows_alone start middle new table rows had got = record {
  rows = λ id l u. got.only id (subst (λ lists. length lists ≤ id) (sym had.rows) l) u;
  clauses = λ id l u.
      let w : (n : ℕ) × In id (listed_for table n) = had.only id l (subst (λ lists. id < length lists) got.clauses u) in
      let v : (row : ℕ) × In row rows × (ids_at new row ≡ listed_for table w.0) = got.each (listed_for table w.0) (in_table table w.0 id w.1) in
      (v.0, v.1, subst (λ ids. In id ids) (sym v.2) w.1);
}
