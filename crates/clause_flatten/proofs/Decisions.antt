-- Support is decided: all sets of packages can be tried.
use Rattle.std.proofs.Common.{◌≡◌, ◌≢◌, ℕ, zero, suc, ◌<◌, true, false, List, [], ◌∷◌, ◌⊎◌, inl, inr, refl, sym, ◌∙◌, subst, arith, length}
use Rattle.std.proofs.lemmas.Bool.{both_ways, cases_Bool, cases_eq, false_from_ne_true}
use Rattle.listed.proofs.Lists.{decided_and, Decided, In_cases, In_none}
use Rattle.row_book.specs.{Sets.{Hit, Is, NumSet, plus, without}, Repository.{Repository, Satisfied, clauses_of}, Support.{Alive, Support}}
use Rattle.listed.specs.Lists.{In, here, there}
use Rattle.row_book.proofs.Sets.{Hit-mono, plus_cases, plus_new, plus_old, without_from, without_parts}
use Rattle.clause_flatten.proofs.Supports.{alive_map}

decided_or : {A B : Type 0} → Decided A → Decided B → Decided (A ⊎ B)
decided_or (inl a) b = inl (inl a)
decided_or (inr f) (inl b) = inl (inr b)
decided_or (inr f) (inr g) = inr (λ w. elim w [ inl a ↦ f a | inr b ↦ g b ])

decided_if : {A B : Type 0} → Decided A → Decided B → Decided (A → B)
decided_if a (inl b) = inl (λ x. b)
decided_if (inl a) (inr g) = inr (λ f. g (f a))
decided_if (inr f) (inr g) = inl (λ a. absurd (f a))

decided_is : (X : NumSet) (n : ℕ) → Decided (Is X n)
decided_is X n = elim (cases_Bool (X n)) [ inl y ↦ inl y | inr f ↦ inr (both_ways (X n) f) ]

decided_isnt : (X : NumSet) (n : ℕ) → Decided (X n ≡ false)
decided_isnt X n = elim (cases_Bool (X n)) [ inl y ↦ inr (λ f. both_ways (X n) f y) | inr f ↦ inl f ]

-- each number below n
decided_below : (n : ℕ) (P : ℕ → Type 0) → ((k : ℕ) → Decided (P k)) → Decided ((k : ℕ) → k < n → P k)
decided_below zero P d = inl (λ k h. absurd (omega arith))
decided_below (suc n) P d =
    elim (decided_below n P d) [
      | inr f ↦ inr (λ g. f (λ k h. g k (omega arith)))
      | inl g ↦ elim (d n) [
        | inr f ↦ inr (λ a. f (a n (omega arith)))
        | inl y ↦ inl (λ k h. elim (cases_eq k n) [ inl e ↦ subst P (sym e) y | inr ne ↦ g k (omega (arith, ne)) ])
      ]
    ]

decided_clause : (A : ℕ → Type 0) → ((n : ℕ) → Decided (A n)) → (c : List ℕ) → Decided (Hit A c)
decided_clause A d [] = inr (λ h. In_none h.inside)
decided_clause A d (m ∷ ms) =
    elim (d m) [
      | inl y ↦ inl (record { by = m; inside = here; alive = y })
      | inr f ↦ elim (decided_clause A d ms) [
        | inl h ↦ inl (record { by = h.by; inside = there h.inside; alive = h.alive })
        | inr g ↦ inr (λ h. elim (In_cases h.inside) [
          | inl e ↦ f (subst A e h.alive)
          | inr i ↦ g (record { by = h.by; inside = i; alive = h.alive })
        ])
      ]
    ]

decided_each : (P : List ℕ → Type 0) → ((c : List ℕ) → Decided (P c)) → (cs : List (List ℕ)) → Decided ((c : List ℕ) → In c cs → P c)
decided_each P d [] = inl (λ c i. absurd (In_none i))
decided_each P d (c ∷ cs) =
    elim (d c) [
      | inr f ↦ inr (λ g. f (g c here))
      | inl y ↦ elim (decided_each P d cs) [
        | inr f ↦ inr (λ g. f (λ b i. g b (there i)))
        | inl a ↦ inl (λ b i. elim (In_cases i) [ inl e ↦ subst P (sym e) y | inr j ↦ a b j ])
      ]
    ]

decided_satisfied : (R : Repository) (A : ℕ → Type 0) → ((n : ℕ) → Decided (A n)) → (p : ℕ) → Decided (Satisfied R A p)
decided_satisfied R A d p = decided_each (Hit A) (decided_clause A d) (clauses_of R p)

decided_alive : (X J : NumSet) (p n : ℕ) → Decided (Alive X J p n)
decided_alive X J p n = decided_or (decided_is X n) (decided_or (decided_is J n) (cases_eq n p))

-- some set below n
decided_set : (n : ℕ) (P : NumSet → Type 0) → ((X : NumSet) → Decided (P X)) → Decided ((X : NumSet) × ((k : ℕ) → Is X k → k < n) × P X)
decided_set zero P d =
    let none : NumSet = λ k. false in
    elim (d none) [
      | inl y ↦ inl (none, (λ k h. absurd (both_ways false refl h)), y)
      | inr f ↦ inr (λ w. f (subst P (same w.0 none (λ k. false_from_ne_true (w.0 k) (λ h. let l : k < 0 = w.1 k h in omega arith))) w.2))
    ]
  where
    same : (X Y : NumSet) → ((k : ℕ) → X k ≡ Y k) → X ≡ Y
    same X Y e = λ i. λ k. e k i
decided_set (suc n) P d =
    elim (decided_set n P d) [
      | inl w ↦ inl (w.0, (λ k h. let l : k < n = w.1 k h in omega arith), w.2)
      | inr f ↦ elim (decided_set n (λ X. P (plus X n)) (λ X. d (plus X n))) [
        | inl w ↦ inl (plus w.0 n, (λ k h. elim (plus_cases w.0 n k h) [ inl a ↦ let l : k < n = w.1 k a in omega arith | inr e ↦ omega (arith, e) ]), w.2)
        | inr g ↦ inr (λ w. elim (cases_Bool (w.0 n)) [
          | inr no_n ↦ f (
            w.0,
            (λ k h. let l : k < suc n = w.1 k h in elim (cases_eq k n) [
              | inl e ↦ absurd (both_ways (w.0 k) (subst (λ m. w.0 m ≡ false) (sym e) no_n) h)
              | inr ne ↦ omega (arith, ne)
            ]),
            w.2,
          )
          | inl yes_n ↦ g (
            without w.0 n,
            (λ k h. let l : k < suc n = w.1 k (without_parts w.0 n k h).0 in let ne : k ≢ n = (without_parts w.0 n k h).1 in omega (arith, ne)),
            subst P (back w.0 n yes_n) w.2,
          )
        ])
      ]
    ]
  where
    at : (X : NumSet) (n : ℕ) → Is X n → (k : ℕ) → X k ≡ plus (without X n) n k
    at X n h k = elim (cases_eq k n) [
      | inl e ↦ subst (λ m. X m ≡ true) (sym e) h ∙ sym (plus_new (without X n) n k e)
      | inr ne ↦ elim (cases_Bool (X k)) [
        | inl y ↦ y ∙ sym (plus_old (without X n) n k (without_from X n k y ne))
        | inr f ↦ f ∙ sym (false_from_ne_true (plus (without X n) n k) (λ t. elim (plus_cases (without X n) n k t) [
          | inl a ↦ both_ways (X k) f (without_parts X n k a).0
          | inr e ↦ ne e
        ]))
      ]
    ]

    back : (X : NumSet) (n : ℕ) → Is X n → X ≡ plus (without X n) n
    back X n h = λ i. λ k. at X n h k i

-- what the helpers J have to do
record Helps (R : Repository) (V : NumSet) (p : ℕ) (X J : NumSet) : Type 0 where
  own : Satisfied R (Alive X J p) p
  others : (n : ℕ) → n < length R.clauses → Is J n → (V n ≡ false) × Satisfied R (Alive X J p) n

decided_helps : (R : Repository) (V : NumSet) (p : ℕ) (X J : NumSet) → Decided (Helps R V p X J)
decided_helps R V p X J =
    let alive : (n : ℕ) → Decided (Alive X J p n) = decided_alive X J p in
    elim (decided_and (decided_satisfied R (Alive X J p) alive p)
    (decided_below (length R.clauses) (λ n. Is J n → (V n ≡ false) × Satisfied R (Alive X J p) n)
    (λ n. decided_if (decided_is J n) (decided_and (decided_isnt V n) (decided_satisfied R (Alive X J p) alive n))))) [
      | inl w ↦ inl (record { own = w.0; others = w.1 })
      | inr f ↦ inr (λ h. f (h.own, h.others))
    ]

pub decided_support : (R : Repository) (V : NumSet) (p : ℕ) (X : NumSet) → Decided (Support R V p X)
decided_support R V p X =
    elim (decided_set (length R.clauses) (Helps R V p X) (decided_helps R V p X)) [
      | inl w ↦ inl (record {
        helpers = w.0;
        packages = w.1;
        outside = λ n j. (w.2.others n (w.1 n j) j).0;
        own = w.2.own;
        others = λ n j. (w.2.others n (w.1 n j) j).1;
      })
      | inr f ↦ inr (λ s. f (s.helpers, s.packages, record { own = s.own; others = λ n l j. (s.outside n j, s.others n j) }))
    ]

pub support_absorbs : (R : Repository) (V : NumSet) (p : ℕ) (X : NumSet) → Support R V p (plus X p) → Support R V p X
support_absorbs R V p X s =
    let more : (n : ℕ) → Alive (plus X p) s.helpers p n → Alive X s.helpers p n =
    alive_map (plus X p) X s.helpers s.helpers p p (λ n a. elim (plus_cases X p n a) [ inl x ↦ inl x | inr e ↦ inr (inr e) ]) (λ n b. inr (inl b)) (inr (inr refl)) in
    record {
      helpers = s.helpers;
      packages = s.packages;
      outside = s.outside;
      own = λ c i. Hit-mono more (s.own c i);
      others = λ n j c i. Hit-mono more (s.others n j c i);
    }
