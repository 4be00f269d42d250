-- The row of a user once a package is taken out, in the pool: what its clauses, made of two rows of the pool, tell of the rows.
use Rattle.std.proofs.Common.{◌≡◌, ℕ, ◌<◌, List, length, get_or, slice_set, sym, ◌∙◌, ap, ap₂, subst}
use Rattle.clause_pool.specs.{Interned.{Interned, IsIdOf, Kept, OfPool, clauses_at, ids_at, row_at}, Clauses.{in_row_order}}
use Rattle.clause_pool.proofs.Interned.{kept_along}
use Rattle.listed.specs.Lists.{In, Inside}
use Rattle.row_book.specs.{Book.{RowsFit, RowsTidy}, Uses.{row_id}}
use Rattle.row_book.proofs.Books.{row_ascending}
use Rattle.clause_families.specs.Unions.{substituted}
use Rattle.clause_families.proofs.Families.{item_zero, row_interned}
use Rattle.clause_flatten.proofs.Replacing.{fit_kept, fit_set, id_in, new_apart, new_numbers, new_thin, tidy_kept, tidy_set}

-- the row of a package as it is lent, copied and lent again
pub copied_row : (pool : Interned) (rows : List ℕ) (p id : ℕ) (lent copied slice : List ℕ) → p < length rows → id ≡ get_or rows p id → lent ≡ ids_at pool id → copied ≡ lent → slice ≡ copied →
    slice ≡ ids_at pool (row_id rows p)
copied_row pool rows p id lent copied slice l e f g h = h ∙ g ∙ f ∙ ap (ids_at pool) (sym (item_zero rows p id l e))

module _ (old : Interned) (rows : List ℕ) (fit : RowsFit old rows) (tidy : RowsTidy old rows) (user gone : ℕ) (user_in : user < length rows) (gone_in : gone < length rows) (row own : List ℕ)
    (row_is : row ≡ ids_at old (row_id rows user)) (own_is : own ≡ ids_at old (row_id rows gone)) where
  at : (p : ℕ) → p < length rows → row_id rows p < length old.rows
  at p l = fit.of_pool (row_id rows p) (id_in rows p l)

  pub row_minimal : (c d : List ℕ) → In c (clauses_at old row) → In d (clauses_at old row) → Inside c d → c ≡ d
  row_minimal c d i j = tidy.minimal user user_in c d (subst (λ z. In c (clauses_at old z)) row_is i) (subst (λ z. In d (clauses_at old z)) row_is j)

  module _ (mid new : Interned) (clauses slice : List ℕ) (id : ℕ) (k : Kept old mid) (m : Kept mid new) (made : clauses_at mid clauses ≡ in_row_order (substituted user gone (clauses_at old row) (clauses_at old own)))
      (of_pool : OfPool mid clauses) (is_slice : slice ≡ clauses) (there : IsIdOf new.rows slice id) where
    abbrev A : List (List ℕ)
    A = row_at old (row_id rows user)

    abbrev B : List (List ℕ)
    B = row_at old (row_id rows gone)

    pub id_is : row_at new id ≡ in_row_order (substituted user gone (row_at old (row_id rows user)) (row_at old (row_id rows gone)))
    id_is =
        row_interned mid new slice id m (subst (OfPool mid) (sym is_slice) of_pool) there ∙ ap (clauses_at mid) is_slice ∙ made
        ∙ ap₂ (λ a b. in_row_order (substituted user gone (clauses_at old a) (clauses_at old b))) row_is own_is

    pub id_numbers : (c : List ℕ) → In c (row_at new id) → (n : ℕ) → In n c → n < length rows
    id_numbers c i n j =
        new_numbers user gone A B (length rows) (fit.numbers (row_id rows user) (id_in rows user user_in)) (fit.numbers (row_id rows gone) (id_in rows gone gone_in)) c (subst (λ z. In c z) id_is i) n j

    pub id_fits : RowsFit new (slice_set rows user id)
    id_fits = fit_set new rows user id user_in (fit_kept old new rows fit.is_pool (kept_along old mid new k m) fit) there.within id_numbers

    pub id_tidies : RowsTidy new (slice_set rows user id)
    id_tidies =
        tidy_set new rows user id user_in (tidy_kept old new rows fit.is_pool (kept_along old mid new k m) fit tidy)
        (λ c i. new_apart user gone A B c (subst (λ z. In c z) id_is i))
        (λ c d i j. new_thin user gone A B (row_ascending old fit.is_pool (row_id rows user) (at user user_in)) (row_ascending old fit.is_pool (row_id rows gone) (at gone gone_in))
        c d (subst (λ z. In c z) id_is i) (subst (λ z. In d z) id_is j))
