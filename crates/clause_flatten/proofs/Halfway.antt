-- A table in the middle of an elimination: the rows of some users are substituted.
use Rattle.std.proofs.Common.{◌≡◌, ℕ, ◌<◌, ◌+◌, List, [], ◌∷◌, length, get_or, drop, drop-cons, add-one, inl, inr, refl, sym, ◌∙◌, ap, ap₂, subst}
use Rattle.std.proofs.{lemmas.Bool.{cases_eq}, lemmas.List.{get_or-set_same, get_or-set_other, length-set}}
use Rattle.listed.proofs.Lists.{In_drop, In_cases, In_none, decided_in}
use Rattle.clause_pool.proofs.Lists.{In_at}
use Rattle.listed.specs.Lists.{In, here, there, Ascending, Inside}
use Rattle.clause_pool.specs.{Lists.{InOrder}, Clauses.{in_row_order}}
use Rattle.clause_flatten.specs.Substitution.{table_row, table_turned, table_without}
use Rattle.clause_families.specs.Unions.{substituted}
use Rattle.clause_flatten.proofs.{Replacing.{not_behind, same_items}, Runs.{eliminated_count, other_without, own_without, untouched}}

pub record Halfway (start : List (List (List ℕ))) (q : ℕ) (done : List ℕ) (now : List (List (List ℕ))) : Type 0 where
  pub size : length now ≡ length start
  pub changed : (p : ℕ) → In p done → table_row now p ≡ in_row_order (substituted p q (table_row start p) (table_row start q))
  pub same : (p : ℕ) → (In p done → ⊥) → table_row now p ≡ table_row start p

-- no user is done yet
pub halfway_none : (start : List (List (List ℕ))) (q : ℕ) (done : List ℕ) → done ≡ [] → Halfway start q done start
halfway_none start q done none = record {
  size = refl;
  changed = λ p i. absurd (In_none (subst (λ z. In p z) none i));
  same = λ p f. refl;
}

module _ (start : List (List (List ℕ))) (q : ℕ) (users : List ℕ) (below : (p : ℕ) → In p users → p < length start) (rise : Ascending users) (not_own : In q users → ⊥) where
  -- one more is
  pub halfway_step : (i : ℕ) → i < length users → (now : List (List (List ℕ))) → Halfway start q (drop (i + 1) users) now → Halfway start q (drop i users) (table_turned (get_or users i 0) q now)
  halfway_step i l now m =
      let user : ℕ = get_or users i 0 in
      let new : List (List ℕ) = in_row_order (substituted (get_or users i 0) q (table_row now (get_or users i 0)) (table_row now q)) in
      let grown : drop i users ≡ user ∷ drop (i + 1) users = drop-cons users i 0 l ∙ ap (λ n. user ∷ drop n users) (sym (add-one i)) in
      let fresh : In (get_or users i 0) (drop (i + 1) users) → ⊥ = not_behind users i rise l in
      let user_in : get_or users i 0 < length now = subst (λ n. get_or users i 0 < n) (sym m.size) (below user (In_at users i 0 l)) in
      record {
        size = length-set now user new ∙ m.size;
        changed = λ p j. elim (In_cases (subst (λ z. In p z) grown j)) [
          | inl e ↦
              subst (λ z. table_row (table_turned (get_or users i 0) q now) z ≡ in_row_order (substituted z q (table_row start z) (table_row start q))) (sym e)
              (get_or-set_same now user new [] user_in
              ∙ ap₂ (λ a b. in_row_order (substituted user q a b)) (m.same user fresh) (m.same q (λ o. not_own (In_drop (i + 1) users q o))))
          | inr k ↦ get_or-set_other now user p new [] (λ e. fresh (subst (λ z. In z (drop (i + 1) users)) e k)) ∙ m.changed p k
        ];
        same = λ p f.
            get_or-set_other now user p new [] (λ e. f (subst (λ z. In p z) (sym grown) (subst (λ z. In p (z ∷ drop (i + 1) users)) e here)))
            ∙ m.same p (λ o. f (subst (λ z. In p z) (sym grown) (there o)));
      }

  module _ (q_in : q < length start) (named : (p : ℕ) → (In p users → ⊥) → (c : List ℕ) → In c (table_row start p) → In q c → ⊥) (order : (p : ℕ) → InOrder (table_row start p))
      (apart : (p : ℕ) (c : List ℕ) → In c (table_row start p) → In p c → ⊥)
      (minimal : (p : ℕ) (c d : List ℕ) → In c (table_row start p) → In d (table_row start p) → Inside c d → c ≡ d) where
    -- all are
    pub halfway_all : (now : List (List (List ℕ))) → Halfway start q users now → now ≡ table_without q start
    halfway_all now m =
        same_items now (table_without q start) [] (m.size ∙ sym (eliminated_count q start)) (λ p l.
        let k : p < length start = subst (λ n. p < n) m.size l in
        elim (cases_eq p q) [
          | inl e ↦ subst (λ z. table_row now z ≡ table_row (table_without q start) z) (sym e) (m.same q not_own ∙ sym (own_without q start q_in))
          | inr ne ↦ elim (decided_in p users) [
            | inl j ↦ m.changed p j ∙ sym (other_without q start p k ne)
            | inr f ↦ m.same p f ∙ sym (untouched p q (table_row start p) (table_row start q) (order p) (named p f) (apart p) (minimal p)) ∙ sym (other_without q start p k ne)
          ]
        ])
