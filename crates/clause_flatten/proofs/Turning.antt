-- What becomes of rows when the row of one user is substituted, as the calls lend and make its parts.
use Rattle.std.proofs.{Common.{◌≡◌, ℕ, ◌<◌, List, [], ◌++◌, length, get_or, slice_set, sym, ◌∙◌, ap, ap₂, subst}, lemmas.List.{get_or_default}}
use Rattle.clause_pool.specs.{Interned.{Interned, Kept, OfPool, clause_at, clauses_at}, Lists.{InOrder}, Clauses.{apart_from, in_row_order, minimal_of}}
use Rattle.clause_pool.proofs.Interned.{kept_same}
use Rattle.listed.specs.Lists.{In}
use Rattle.row_book.specs.{Book.{listed_for}, Holders.{Holders, TellsRows}}
use Rattle.row_book.proofs.Holders.{tells_part}
use Rattle.clause_families.specs.{Families.{IncludesOneOf, Useful, all_unions}, Unions.{substituted}}
use Rattle.clause_flatten.specs.{Ready.{AreReady, table_of}, Substitution.{table_turned}}
use Rattle.clause_families.proofs.Rewritten.{shortened, unions_minimal, useful_there}
use Rattle.clause_flatten.proofs.WorkedRows.{lists_fit_kept, lists_tidy_kept, turned_below, turned_fit, turned_table, turned_tidy}

-- the row of a package as it is lent
pub lent_row : (rows : List (List ℕ)) (p : ℕ) (row lent : List ℕ) → p < length rows → row ≡ get_or rows p row → lent ≡ row → lent ≡ listed_for rows p
lent_row rows p row lent l e f = f ∙ e ∙ get_or_default rows p row [] l

-- the same row where it is handed on to be changed
pub slot_lent : (rows : List (List ℕ)) (p : ℕ) (row lent : List ℕ) → p < length rows → row ≡ get_or rows p row → lent ≡ listed_for rows p → get_or rows p row ≡ lent
slot_lent rows p row lent l e f = get_or_default rows p row [] l ∙ sym f

module _ (old : Interned) (rows : List (List ℕ)) (table : Holders) (ready : AreReady old rows table) where
  -- in a pool that has grown
  pub ready_kept : (new : Interned) (after : Holders) → Kept old new → TellsRows new rows after → AreReady new rows after
  ready_kept new after k tells = record {
    fit = lists_fit_kept old new rows k ready.fit;
    tidy = lists_tidy_kept old new rows k ready.fit ready.tidy;
    table = tells;
  }

  module _ (user gone : ℕ) (user_in : user < length rows) (row others useful slice : List ℕ) (row_is : row ≡ listed_for rows user) (others_is : others ≡ listed_for rows gone)
      (is_slice : slice ≡ useful) (u : Useful old user (IncludesOneOf (apart_from gone (clauses_at old row))) others useful) where
    of_row : OfPool old row
    of_row = subst (OfPool old) (sym row_is) (ready.fit.of_pool user)

    of_others : OfPool old others
    of_others = subst (OfPool old) (sym others_is) (ready.fit.of_pool gone)

    apart : (c : List ℕ) → In c (clauses_at old row) → In user c → ⊥
    apart c i = ready.tidy.apart user c (subst (λ z. In c (clauses_at old z)) row_is i)

    same : in_row_order (substituted user gone (clauses_at old row) (clauses_at old others)) ≡ in_row_order (substituted user gone (clauses_at old (listed_for rows user)) (clauses_at old (listed_for rows gone)))
    same = ap₂ (λ a b. in_row_order (substituted user gone (clauses_at old a) (clauses_at old b))) row_is others_is

    -- no clause that is useful holds the package
    pub useful_apart : (c : List ℕ) → In c (clauses_at old slice) → In gone c → ⊥
    useful_apart c i = ready.tidy.apart gone c (subst (λ z. In c (clauses_at old z)) others_is (useful_there old user gone row others useful slice ready.fit.is_pool of_row of_others apart is_slice u c i))

    -- where none is, the row only loses clauses
    module _ (none : useful ≡ []) (ids left : List ℕ) (is_left : ids ≡ left) (left_is : clauses_at old left ≡ apart_from gone (clauses_at old row)) (part : (id : ℕ) → In id left → In id row) where
      ids_part : (id : ℕ) → In id ids → In id row
      ids_part id i = part id (subst (λ z. In id z) is_left i)

      of_ids : OfPool old ids
      of_ids id i = of_row id (ids_part id i)

      made : clauses_at old ids ≡ in_row_order (substituted user gone (clauses_at old (listed_for rows user)) (clauses_at old (listed_for rows gone)))
      made =
          ap (clauses_at old) is_left ∙ left_is
          ∙ shortened old user gone row others useful apart u ready.fit.is_pool of_row of_others none
          (subst (λ z. InOrder (clauses_at old z)) (sym row_is) (ready.fit.in_order user))
          (λ c d i j. ready.tidy.minimal user c d (subst (λ z. In c (clauses_at old z)) row_is i) (subst (λ z. In d (clauses_at old z)) row_is j))
          ∙ same

      pub left_table : table_of old (slice_set rows user ids) ≡ table_turned user gone (table_of old rows)
      left_table = turned_table old old rows user gone ids (kept_same old) ready.fit user_in of_ids made

      pub left_ready : AreReady old (slice_set rows user ids) table
      left_ready = record {
        fit = turned_fit old old rows user gone ids (kept_same old) ready.fit user_in of_ids made;
        tidy = turned_tidy old old rows user gone ids (kept_same old) ready.fit user_in of_ids made ready.tidy;
        table = tells_part old rows user ids table user_in (λ id i. subst (λ z. In id z) row_is (ids_part id i)) ready.table;
      }

    -- else it has unions
    module _ (new : Interned) (k : Kept old new) (ids unions : List ℕ) (is_unions : ids ≡ unions) (of_unions : OfPool new unions)
        (unions_are : clauses_at new unions ≡ minimal_of (in_row_order (apart_from gone (clauses_at old row) ++ all_unions gone (clauses_at old row) (clauses_at old slice)))) where
      of_new : OfPool new ids
      of_new = subst (OfPool new) (sym is_unions) of_unions

      pub new_made : clauses_at new ids ≡ in_row_order (substituted user gone (clauses_at old (listed_for rows user)) (clauses_at old (listed_for rows gone)))
      new_made = ap (clauses_at new) is_unions ∙ unions_are ∙ unions_minimal old user gone row others useful slice ready.fit.is_pool of_row of_others apart is_slice u ∙ same

      pub new_below : (c : ℕ) → In c ids → (n : ℕ) → In n (clause_at new c) → n < length rows
      new_below = turned_below old new rows user gone ids k ready.fit user_in of_new new_made

      pub new_table : table_of new (slice_set rows user ids) ≡ table_turned user gone (table_of old rows)
      new_table = turned_table old new rows user gone ids k ready.fit user_in of_new new_made

      pub new_ready : (after : Holders) → TellsRows new (slice_set rows user ids) after → AreReady new (slice_set rows user ids) after
      new_ready after tells = record {
        fit = turned_fit old new rows user gone ids k ready.fit user_in of_new new_made;
        tidy = turned_tidy old new rows user gone ids k ready.fit user_in of_new new_made ready.tidy;
        table = tells;
      }
