-- What sets hit, and the members of a set as a list.
use Rattle.std.proofs.Common.{◌≡◌, ℕ, zero, suc, ◌<◌, ◌≤◌, ◌+◌, true, not, cond, List, [], ◌∷◌, ◌⊎◌, inl, inr, sym, ◌∙◌, ap, subst, arith}
use Rattle.std.proofs.lemmas.Bool.{and_parts, and_from, not_from_false, not-true, both_ways, cases_Bool, cases_eq}
use Rattle.std.specs.List.{list_any}
use Rattle.listed.proofs.Lists.{In_cases, In_none, In_has, has_not, any_from, any_cases, Decided, in_cond_rest, in_cond_first, in_cond_cases}
use Rattle.listed.proofs.Orders.{ascending_cond}
use Rattle.row_book.specs.Sets.{NumSet, Hit, Is, minus}
use Rattle.listed.specs.Lists.{In, here, there, has, Ascending}

-- what a set hits, as a test
pub hit_any : (A : NumSet) (c : List ℕ) → list_any A c ≡ true → Hit (Is A) c
hit_any A c h =
    let w : (n : ℕ) × In n c × (A n ≡ true) = any_cases A c h in
    record { by = w.0; inside = w.1; alive = w.2 }

pub any_hit : (A : NumSet) (c : List ℕ) → Hit (Is A) c → list_any A c ≡ true
any_hit A c h = any_from A c h.by h.inside h.alive

pub minus_parts : (V : NumSet) (T : List ℕ) (n : ℕ) → Is (minus V T) n → Is V n × (In n T → ⊥)
minus_parts V T n h =
    let w : (V n ≡ true) × (not (has T n) ≡ true) = and_parts (V n) (not (has T n)) h in
    (w.0, λ i. both_ways (has T n) (not-true (has T n) w.1) (In_has i))

pub minus_from : (V : NumSet) (T : List ℕ) (n : ℕ) → Is V n → (In n T → ⊥) → Is (minus V T) n
minus_from V T n h f = and_from (V n) (not (has T n)) h (not_from_false (has T n) (has_not T n f))

-- a set hits a clause or not
pub decided_hit : (X : NumSet) (c : List ℕ) → Decided (Hit (Is X) c)
decided_hit X [] = inr (λ h. In_none h.inside)
decided_hit X (m ∷ ms) =
    elim (cases_Bool (X m)) [
      | inl y ↦ inl (record { by = m; inside = here; alive = y })
      | inr f ↦ elim (decided_hit X ms) [
        | inl h ↦ inl (record { by = h.by; inside = there h.inside; alive = h.alive })
        | inr g ↦ inr (λ h. elim (In_cases h.inside) [
          | inl e ↦ both_ways (X m) f (subst (λ k. X k ≡ true) e h.alive)
          | inr i ↦ g (record { by = h.by; inside = i; alive = h.alive })
        ])
      ]
    ]

-- each clause is hit, or one is not
pub hits_or : (X : NumSet) (cs : List (List ℕ)) → ((c : List ℕ) → In c cs → Hit (Is X) c) ⊎ ((c : List ℕ) × In c cs × (Hit (Is X) c → ⊥))
hits_or X [] = inl (λ c i. absurd (In_none i))
hits_or X (c ∷ cs) =
    elim (decided_hit X c) [
      | inl h ↦ elim (hits_or X cs) [
        | inl a ↦ inl (λ d i. elim (In_cases i) [ inl e ↦ subst (λ k. Hit (Is X) k) (sym e) h | inr j ↦ a d j ])
        | inr b ↦ inr (b.0, there b.1, b.2)
      ]
      | inr f ↦ inr (c, here, f)
    ]

-- the members of a set from s on, n numbers long
pub members_from : NumSet → ℕ → ℕ → List ℕ
members_from X zero s = []
members_from X (suc n) s = cond (X s) (s ∷ members_from X n (suc s)) (members_from X n (suc s))

pub members_from_parts : (X : NumSet) (n s m : ℕ) → In m (members_from X n s) → Is X m × (s ≤ m)
unfolding members_from
members_from_parts X zero s m i = absurd (In_none i)
members_from_parts X (suc n) s m i =
    elim (in_cond_cases (X s) m s (members_from X n (suc s)) i) [
      | inl h ↦ (ap X h.0 ∙ h.1, omega (arith, h.0))
      | inr j ↦ let w : Is X m × (suc s ≤ m) = members_from_parts X n (suc s) m j in (w.0, omega arith)
    ]

pub members_from_from : (X : NumSet) (n s m : ℕ) → Is X m → s ≤ m → m < s + n → In m (members_from X n s)
unfolding members_from
members_from_from X zero s m h l u = absurd (omega arith)
members_from_from X (suc n) s m h l u =
    elim (cases_eq m s) [
      | inl e ↦ in_cond_first (X s) m s (members_from X n (suc s)) (ap X (sym e) ∙ h) e
      | inr ne ↦ in_cond_rest (X s) m s (members_from X n (suc s)) (members_from_from X n (suc s) m h (omega (arith, ne)) (omega arith))
    ]

pub members_from_ascending : (X : NumSet) (n s : ℕ) → Ascending (members_from X n s)
unfolding members_from
members_from_ascending X zero s = tt
members_from_ascending X (suc n) s =
    ascending_cond (X s) s (members_from X n (suc s))
    (λ y i. let w : Is X y × (suc s ≤ y) = members_from_parts X n (suc s) y i in omega arith)
    (members_from_ascending X n (suc s))
