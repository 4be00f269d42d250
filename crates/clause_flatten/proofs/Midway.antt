-- The rows in the middle of an elimination: those of some users are replaced.
use Rattle.std.proofs.Common.{◌≡◌, ◌≢◌, ℕ, ◌<◌, ◌+◌, List, [], ◌∷◌, length, get_or, drop, drop-cons, add-one, map, ◌⊎◌, inl, inr, refl, sym, ◌∙◌, ap, ap₂}
use Rattle.std.proofs.{Common.{subst}, lemmas.Bool.{cases_eq}}
use Rattle.listed.proofs.Lists.{In_drop, In_cases, In_none, decided_in}
use Rattle.clause_pool.specs.{Interned.{Interned, IsPool, Kept, row_at}, Clauses.{in_row_order}}
use Rattle.clause_pool.proofs.{Lists.{In_at}, Interned.{kept_along, kept_same}}
use Rattle.listed.specs.Lists.{In, here, there, Ascending}
use Rattle.row_book.specs.{Book.{RowsFit, RowsTidy}, Uses.{row_id, users_of}}
use Rattle.row_book.proofs.{Books.{row_kept}, Users.{users_ascend}}
use Rattle.clause_flatten.specs.Substitution.{table_without, table_row}
use Rattle.clause_families.specs.Unions.{substituted}
use Rattle.clause_flatten.proofs.{Replacing.{id_in, not_behind, not_user, other_eliminated, own_eliminated, own_user, table_same, user_in}, Runs.{untouched}}

pub record Midway (start : Interned) (first : List ℕ) (q : ℕ) (pool : Interned) (rows : List ℕ) (done : List ℕ) : Type 0 where
  pub size : length rows ≡ length first
  pub kept : Kept start pool
  pub fit : RowsFit pool rows
  pub tidy : RowsTidy pool rows
  pub changed : (p : ℕ) → In p done → row_at pool (row_id rows p) ≡ in_row_order (substituted p q (row_at start (row_id first p)) (row_at start (row_id first q)))
  pub same : (p : ℕ) → (In p done → ⊥) → row_id rows p ≡ row_id first p

-- no user is done yet
pub midway_none : (start : Interned) (first : List ℕ) (q : ℕ) (done : List ℕ) → done ≡ [] → RowsFit start first → RowsTidy start first → Midway start first q start first done
midway_none start first q done none fit tidy = record {
  size = refl;
  kept = kept_same start;
  fit = fit;
  tidy = tidy;
  changed = λ p i. absurd (In_none (subst (λ z. In p z) none i));
  same = λ p f. refl;
}

-- what the replacing of one row keeps, whether it is refused or not
pub record Around (pool : Interned) (rows : List ℕ) (user : ℕ) (next : Interned) (after : List ℕ) : Type 0 where
  pub size : length after ≡ length rows
  pub kept : Kept pool next
  pub fit : RowsFit next after
  pub tidy : RowsTidy next after
  pub others : (p : ℕ) → p ≢ user → row_id after p ≡ row_id rows p
  pub stay : (p : ℕ) → p < length rows → p ≢ user → row_at next (row_id after p) ≡ row_at pool (row_id rows p)

module _ (start : Interned) (first : List ℕ) (q : ℕ) (is : IsPool start) (fit : RowsFit start first) (tidy : RowsTidy start first) (q_in : q < length first)
    (users : List ℕ) (users_is : users ≡ users_of start first q) where
  pub below : (p : ℕ) → In p users → p < length first
  below p i = user_in start first q p (subst (λ z. In p z) users_is i)

  not_own : (p : ℕ) → In p users → p ≢ q
  not_own p i e = own_user start first q tidy q_in (subst (λ z. In z (users_of start first q)) e (subst (λ z. In p z) users_is i))

  -- a user stands once
  fresh : (i : ℕ) → i < length users → In (get_or users i 0) (drop (i + 1) users) → ⊥
  fresh i l = not_behind users i (subst (λ z. Ascending z) (sym users_is) (users_ascend start first q)) l

  -- a row that is not done reads as it did at the start
  reads : (pool : Interned) (rows : List ℕ) (done : List ℕ) → Midway start first q pool rows done → (p : ℕ) → p < length first → (In p done → ⊥) →
      row_at pool (row_id rows p) ≡ row_at start (row_id first p)
  reads pool rows done m p l f = ap (row_at pool) (m.same p f) ∙ row_kept start pool is m.kept (row_id first p) (fit.of_pool (row_id first p) (id_in first p l))

  module _ (i : ℕ) (l : i < length users) (pool : Interned) (rows : List ℕ) (m : Midway start first q pool rows (drop (i + 1) users))
      (next : Interned) (after : List ℕ) (a : Around pool rows (get_or users i 0) next after) where
    still_changed : (p : ℕ) → In p (drop (i + 1) users) → row_at next (row_id after p) ≡ in_row_order (substituted p q (row_at start (row_id first p)) (row_at start (row_id first q)))
    still_changed p j =
        a.stay p (subst (λ z. p < z) (sym m.size) (below p (In_drop (i + 1) users p j))) (λ e. fresh i l (subst (λ z. In z (drop (i + 1) users)) e j)) ∙ m.changed p j

    pub midway_refused : after ≡ rows → Midway start first q next after (drop (i + 1) users)
    midway_refused e = record {
      size = a.size ∙ m.size;
      kept = kept_along start pool next m.kept a.kept;
      fit = a.fit;
      tidy = a.tidy;
      changed = still_changed;
      same = λ p f. ap (λ z. row_id z p) e ∙ m.same p f;
    }

    pub midway_step : row_at next (row_id after (get_or users i 0)) ≡ in_row_order (substituted (get_or users i 0) q (row_at pool (row_id rows (get_or users i 0))) (row_at pool (row_id rows q))) →
        Midway start first q next after (drop i users)
    midway_step made =
        let user : ℕ = get_or users i 0 in
        let grown : drop i users ≡ user ∷ drop (i + 1) users = drop-cons users i 0 l ∙ ap (λ n. user ∷ drop n users) (sym (add-one i)) in
        let user_there : In user users = In_at users i 0 l in
        record {
          size = a.size ∙ m.size;
          kept = kept_along start pool next m.kept a.kept;
          fit = a.fit;
          tidy = a.tidy;
          changed = λ p j. elim (In_cases (subst (λ z. In p z) grown j)) [
            | inr k ↦ still_changed p k
            | inl e ↦
                subst (λ z. row_at next (row_id after z) ≡ in_row_order (substituted z q (row_at start (row_id first z)) (row_at start (row_id first q)))) (sym e)
                (made ∙ ap₂ (λ x y. in_row_order (substituted user q x y)) (reads pool rows (drop (i + 1) users) m user (below user user_there) (fresh i l))
                (reads pool rows (drop (i + 1) users) m q q_in (λ o. not_own q (In_drop (i + 1) users q o) refl)))
          ];
          same = λ p f.
              a.others p (λ e. f (subst (λ z. In p z) (sym grown) (subst (λ z. In p (z ∷ drop (i + 1) users)) e here)))
              ∙ m.same p (λ o. f (subst (λ z. In p z) (sym grown) (there o)));
        }

  module _ (pool : Interned) (rows : List ℕ) where
    pub each_row : (i : ℕ) → Midway start first q pool rows (drop i users) → (p : ℕ) → p < length first →
        (row_id rows p ≡ row_id first p) ⊎ (row_at pool (row_id rows p) ≡ table_row (table_without q (map (row_at start) first)) p)
    each_row i m p l =
        elim (decided_in p (drop i users)) [
          | inl j ↦ inr (m.changed p j ∙ sym (other_eliminated start first q q_in p l (not_own p (In_drop i users p j))))
          | inr f ↦ inl (m.same p f)
        ]

    pub all_rows : (i : ℕ) → drop i users ≡ users → Midway start first q pool rows (drop i users) → map (row_at pool) rows ≡ table_without q (map (row_at start) first)
    all_rows i all half =
        let m : Midway start first q pool rows users = subst (λ z. Midway start first q pool rows z) all half in
        table_same start first q q_in pool rows m.size (λ p l.
        elim (cases_eq p q) [
          | inl e ↦
              subst (λ z. row_at pool (row_id rows z) ≡ table_row (table_without q (map (row_at start) first)) z) (sym e)
              (reads pool rows users m q q_in (λ o. not_own q o refl) ∙ sym (own_eliminated start first q q_in))
          | inr ne ↦ elim (decided_in p users) [
            | inl j ↦ m.changed p j ∙ sym (other_eliminated start first q q_in p l ne)
            | inr f ↦
                reads pool rows users m p l f
                ∙ sym (untouched p q (row_at start (row_id first p)) (row_at start (row_id first q)) (is.in_order (row_id first p) (fit.of_pool (row_id first p) (id_in first p l)))
                (not_user start first q p l (λ o. f (subst (λ z. In p z) (sym users_is) o))) (tidy.apart p l) (tidy.minimal p l))
                ∙ sym (other_eliminated start first q q_in p l ne)
          ]
        ])
