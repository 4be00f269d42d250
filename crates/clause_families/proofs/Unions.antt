-- Clauses with a number dropped, unions of clauses, and what stands for a clause after substitution.
use Rattle.std.proofs.Common.{◌≡◌, ◌≢◌, ℕ, ◌<◌, ◌≤◌, Bool, true, false, not, eqb, cond, List, [], ◌∷◌, ◌⊎◌, inl, inr, refl, sym, subst, eqb-true, ne_eqb, arith}
use Rattle.std.proofs.{Common.{ltb, map}, lemmas.Bool.{both_ways, not_from_false, not-true, ltb-true, ltb-false, eqb-true, eqb-false}}
use Rattle.listed.specs.Lists.{In, has, here, there, Ascending}
use Rattle.clause_families.specs.Unions.{clause_without, inserted, union_of, all_unions_for, unions_for}
use Rattle.listed.proofs.Lists.{In_append_cases, In_append_left, In_append_right, In_cases, In_has, In_map, In_map_cases, In_none, filter_cases, filter_from}
use Rattle.listed.proofs.Lists.{has_In, has_not}

-- one number dropped from a list
pub dropped_parts : (x : ℕ) (T : List ℕ) (n : ℕ) → In n (clause_without x T) → In n T × (n ≢ x)
dropped_parts x T n i =
    let w : In n T × (not (eqb n x) ≡ true) = filter_cases (λ m. not (eqb m x)) T n i in
    (w.0, eqb-false n x (not-true (eqb n x) w.1))

pub dropped_from : (x : ℕ) (T : List ℕ) (n : ℕ) → In n T → n ≢ x → In n (clause_without x T)
dropped_from x T n i e = filter_from (λ m. not (eqb m x)) T n i (not_from_false (eqb n x) (ne_eqb n x e))

-- one more number
pub inserted_cases : (k : ℕ) (xs : List ℕ) (n : ℕ) → In n (inserted k xs) → (n ≡ k) ⊎ In n xs
inserted_cases k [] n i = In_cases i
inserted_cases k (m ∷ ms) n i = pick (ltb k m) (eqb k m) (inserted_cases k ms n) i
  where
    pick : (b c : Bool) → (In n (inserted k ms) → (n ≡ k) ⊎ In n ms) →
        In n (cond b (k ∷ (m ∷ ms)) (cond c (m ∷ ms) (m ∷ inserted k ms))) → (n ≡ k) ⊎ In n (m ∷ ms)
    pick true c f j = In_cases j
    pick false true f j = inr j
    pick false false f j =
        elim (In_cases j) [
          | inl e ↦ inr (subst (λ x. In n (x ∷ ms)) e here)
          | inr l ↦ elim (f l) [ inl e ↦ inl e | inr r ↦ inr (there r) ]
        ]

pub inserted_old : (k : ℕ) (xs : List ℕ) (n : ℕ) → In n xs → In n (inserted k xs)
inserted_old k [] n i = absurd (In_none i)
inserted_old k (m ∷ ms) n i = pick (ltb k m) (eqb k m) (inserted_old k ms n)
  where
    pick : (b c : Bool) → (In n ms → In n (inserted k ms)) → In n (cond b (k ∷ (m ∷ ms)) (cond c (m ∷ ms) (m ∷ inserted k ms)))
    pick true c f = there i
    pick false true f = i
    pick false false f = elim (In_cases i) [ inl e ↦ subst (λ x. In n (x ∷ inserted k ms)) e here | inr j ↦ there (f j) ]

pub inserted_new : (k : ℕ) (xs : List ℕ) → In k (inserted k xs)
inserted_new k [] = here
inserted_new k (m ∷ ms) = pick (ltb k m) (eqb k m) refl (inserted_new k ms)
  where
    pick : (b c : Bool) → eqb k m ≡ c → In k (inserted k ms) → In k (cond b (k ∷ (m ∷ ms)) (cond c (m ∷ ms) (m ∷ inserted k ms)))
    pick true c e f = here
    pick false true e f = subst (λ x. In k (x ∷ ms)) (eqb-true k m e) here
    pick false false e f = there f

pub inserted_ascending : (k : ℕ) (xs : List ℕ) → Ascending xs → Ascending (inserted k xs)
inserted_ascending k [] a = ((λ y i. absurd (In_none i)), tt)
inserted_ascending k (m ∷ ms) a = pick (ltb k m) (eqb k m) refl refl (inserted_ascending k ms a.1)
  where
    pick : (b c : Bool) → ltb k m ≡ b → eqb k m ≡ c → Ascending (inserted k ms) → Ascending (cond b (k ∷ (m ∷ ms)) (cond c (m ∷ ms) (m ∷ inserted k ms)))
    pick true c e g f =
        let l : k < m = ltb-true k m e in
        ((λ y i. elim (In_cases i) [ inl h ↦ omega (arith, h) | inr j ↦ let u : m < y = a.0 y j in omega arith ]), a)
    pick false true e g f = a
    pick false false e g f =
        let l : m ≤ k = ltb-false k m e in
        let ne : k ≢ m = eqb-false k m g in
        ((λ y i. elim (inserted_cases k ms y i) [ inl h ↦ omega (arith, h, ne) | inr j ↦ a.0 y j ]), f)

-- a union
pub joined_cases : (xs ys : List ℕ) (n : ℕ) → In n (union_of xs ys) → In n xs ⊎ In n ys
joined_cases [] ys n i = inr i
joined_cases (x ∷ xs) ys n i =
    elim (inserted_cases x (union_of xs ys) n i) [
      | inl e ↦ inl (subst (λ k. In n (k ∷ xs)) e here)
      | inr j ↦ elim (joined_cases xs ys n j) [ inl l ↦ inl (there l) | inr r ↦ inr r ]
    ]

pub joined_left : (xs ys : List ℕ) (n : ℕ) → In n xs → In n (union_of xs ys)
joined_left [] ys n i = absurd (In_none i)
joined_left (x ∷ xs) ys n i =
    elim (In_cases i) [
      | inl e ↦ subst (λ k. In k (inserted x (union_of xs ys))) (sym e) (inserted_new x (union_of xs ys))
      | inr j ↦ inserted_old x (union_of xs ys) n (joined_left xs ys n j)
    ]

pub joined_right : (xs ys : List ℕ) (n : ℕ) → In n ys → In n (union_of xs ys)
joined_right [] ys n i = i
joined_right (x ∷ xs) ys n i = inserted_old x (union_of xs ys) n (joined_right xs ys n i)

pub joined_ascending : (xs ys : List ℕ) → Ascending ys → Ascending (union_of xs ys)
joined_ascending [] ys a = a
joined_ascending (x ∷ xs) ys a = inserted_ascending x (union_of xs ys) (joined_ascending xs ys a)

-- what stands for a clause
pub record Comes (q : ℕ) (B : List (List ℕ)) (T c : List ℕ) : Type 0 where
  pub how : ((In q T → ⊥) × (c ≡ T)) ⊎ ((U : List ℕ) × In U B × In q T × (c ≡ union_of (clause_without q T) U))

spread_cases : (q : ℕ) (B : List (List ℕ)) (T c : List ℕ) → In c (unions_for q B T) → Comes q B T c
spread_cases q B T c i = pick (has T q) refl i
  where
    pick : (b : Bool) → has T q ≡ b → In c (cond b (map (λ U. union_of (clause_without q T) U) B) (T ∷ [])) → Comes q B T c
    pick true e j =
        let w : (U : List ℕ) × In U B × (c ≡ union_of (clause_without q T) U) = In_map_cases (λ U. union_of (clause_without q T) U) B c j in
        record { how = inr (w.0, w.1, has_In T q e, w.2) }
    pick false e j =
        record { how = inl ((λ l. both_ways (has T q) e (In_has l)), elim (In_cases j) [ inl h ↦ h | inr k ↦ absurd (In_none k) ]) }

spread_kept : (q : ℕ) (B : List (List ℕ)) (T : List ℕ) → (In q T → ⊥) → In T (unions_for q B T)
spread_kept q B T f = subst (λ b. In T (cond b (map (λ U. union_of (clause_without q T) U) B) (T ∷ []))) (sym (has_not T q f)) here

spread_joined : (q : ℕ) (B : List (List ℕ)) (T U : List ℕ) → In q T → In U B → In (union_of (clause_without q T) U) (unions_for q B T)
spread_joined q B T U i j =
    subst (λ b. In (union_of (clause_without q T) U) (cond b (map (λ U. union_of (clause_without q T) U) B) (T ∷ []))) (sym (In_has i)) (In_map (λ U. union_of (clause_without q T) U) B U j)

pub replaced_cases : (q : ℕ) (A B : List (List ℕ)) (c : List ℕ) → In c (all_unions_for q A B) → (T : List ℕ) × In T A × Comes q B T c
replaced_cases q [] B c i = absurd (In_none i)
replaced_cases q (T ∷ A) B c i =
    elim (In_append_cases (unions_for q B T) (all_unions_for q A B) c i) [
      | inl l ↦ (T, here, spread_cases q B T c l)
      | inr r ↦ let w : (S : List ℕ) × In S A × Comes q B S c = replaced_cases q A B c r in (w.0, there w.1, w.2)
    ]

replaced_at : (q : ℕ) (A B : List (List ℕ)) (T c : List ℕ) → In T A → In c (unions_for q B T) → In c (all_unions_for q A B)
replaced_at q [] B T c i j = absurd (In_none i)
replaced_at q (S ∷ A) B T c i j =
    elim (In_cases i) [
      | inl e ↦ In_append_left (unions_for q B S) (all_unions_for q A B) c (subst (λ k. In c (unions_for q B k)) e j)
      | inr k ↦ In_append_right (unions_for q B S) (all_unions_for q A B) c (replaced_at q A B T c k j)
    ]

pub replaced_kept : (q : ℕ) (A B : List (List ℕ)) (T : List ℕ) → In T A → (In q T → ⊥) → In T (all_unions_for q A B)
replaced_kept q A B T i f = replaced_at q A B T T i (spread_kept q B T f)

pub replaced_joined : (q : ℕ) (A B : List (List ℕ)) (T U : List ℕ) → In T A → In q T → In U B → In (union_of (clause_without q T) U) (all_unions_for q A B)
replaced_joined q A B T U i j k = replaced_at q A B T (union_of (clause_without q T) U) i (spread_joined q B T U j k)
