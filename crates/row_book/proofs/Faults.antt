-- What the tests of a set of packages find.
use Rattle.std.proofs.Common.{◌≡◌, ℕ, zero, suc, ◌<◌, ◌≤◌, ◌+◌, Bool, true, false, ◌&&◌, ltb, List, [], ◌∷◌, ◌++◌, length, take, get_or, Some, None, cond, ◌⊎◌}
use Rattle.std.proofs.{Common.{inl, inr, refl, sym, ◌∙◌, ap, subst, arith}, lemmas.Bool.{and_parts, and_from, both_ways, cases_lt, cases_eq, lt-ltb, ltb-true}}
use Rattle.std.specs.List.{find, list_any}
use Rattle.std.proofs.lemmas.List as lists
use Rattle.std.proofs.lemmas.List.{length-map, map_more}
use Rattle.clause_pool.specs.Interned.{Interned, clause_at, clauses_at}
use Rattle.row_book.specs.{Sets.{NumSet, Is, Hit, HitsAll}, Book.{listed_for, AreConflicts}, Flags.{flag}}
use Rattle.row_book.specs.Health.{IsFirstUnhit, IsClash, HasNoClash, IsFirstClash}
use Rattle.listed.specs.Lists.{In, here, there, Ascending}
use Rattle.listed.proofs.Lists.{In_cases, In_none, In_has, has_In, In_append_cases, In_map, find_some, find_none}
use Rattle.row_book.proofs.{Lists.{hit_any, any_hit}, Flags.{flag_in}}

-- the clauses before a place
before_place : {A : Type 0} (xs : List A) (k j : ℕ) (d : A) → j < k → k < length xs → In (get_or xs j d) (take k xs)
before_place [] k j d l m = absurd (omega arith)
before_place (x ∷ xs) zero j d l m = absurd (omega arith)
before_place (x ∷ xs) (suc k) zero d l m = here
before_place (x ∷ xs) (suc k) (suc j) d l m = there (before_place xs k j d (omega arith) (omega arith))

module _ (pool : Interned) (ids : List ℕ) (I : NumSet) where
  pub hits_more : (i id : ℕ) → i < length ids → id ≡ get_or ids i id → HitsAll I (clauses_at pool (take i ids)) → list_any I (clause_at pool id) ≡ true →
      HitsAll I (clauses_at pool (take (i + 1) ids))
  hits_more i id l e before now c j =
      let more : clauses_at pool (take (i + 1) ids) ≡ clauses_at pool (take i ids) ++ clause_at pool (get_or ids i id) ∷ [] = map_more (clause_at pool) ids i id l in
      elim (In_append_cases (clauses_at pool (take i ids)) (clause_at pool (get_or ids i id) ∷ []) c (subst (λ cs. In c cs) more j)) [
        | inl k ↦ before c k
        | inr k ↦ elim (In_cases k) [
          | inl f ↦ subst (λ d. Hit (Is I) d) (sym (f ∙ ap (clause_at pool) (sym e))) (hit_any I (clause_at pool id) now)
          | inr m ↦ absurd (In_none m)
        ]
      ]

  pub unhit_first : (k id : ℕ) → k < length ids → id ≡ get_or ids k id → HitsAll I (clauses_at pool (take k ids)) → list_any I (clause_at pool id) ≡ false →
      IsFirstUnhit (clauses_at pool ids) I k
  unhit_first k id l e before now =
      let at : (j : ℕ) → j < length ids → get_or (clauses_at pool ids) j [] ≡ clause_at pool (get_or ids j id) = λ j m. lists.get_or-map (clause_at pool) ids j id [] m in
      record {
        within = let n : length (clauses_at pool ids) ≡ length ids = length-map ids (clause_at pool) in omega arith;
        unhit = λ h. both_ways (list_any I (clause_at pool id)) now
            (any_hit I (clause_at pool id) (subst (λ c. Hit (Is I) c) (at k l ∙ ap (clause_at pool) (sym e)) h));
        before = λ j m. subst (λ c. Hit (Is I) c) (sym (at j (omega arith)))
            (before (clause_at pool (get_or ids j id)) (In_map (clause_at pool) (take k ids) (get_or ids j id) (before_place ids k j id m l)));
      }

-- the first conflict of a package with a greater one
find_least : (p : ℕ → Bool) (xs : List ℕ) (y : ℕ) → Ascending xs → find p xs ≡ Some y → (z : ℕ) → In z xs → p z ≡ true → y ≤ z
find_least p [] y a e z i h = absurd (In_none i)
find_least p (x ∷ xs) y a e z i h = pick (p x) refl (λ f j. find_least p xs y a.1 f z j h) e (In_cases i)
  where
    pick : (b : Bool) → p x ≡ b → (find p xs ≡ Some y → In z xs → y ≤ z) → cond b (Some x) (find p xs) ≡ Some y → (z ≡ x) ⊎ In z xs → y ≤ z
    pick true u f g (inl same) = let k : x ≡ y = cc in omega arith
    pick true u f g (inr j) = let k : x ≡ y = cc in let l : x < z = a.0 z j in omega arith
    pick false u f g (inl same) = absurd (both_ways (p x) u (ap p (sym same) ∙ h))
    pick false u f g (inr j) = f g j

module _ (conflicts : List (List ℕ)) (flags : List Bool) where
  clash_parts : (m n : ℕ) → IsClash conflicts (flag flags) m n → In n (listed_for conflicts m) × ((ltb m n && flag flags n) ≡ true)
  clash_parts m n x = (has_In (listed_for conflicts m) n x.conflict, and_from (ltb m n) (flag flags n) (lt-ltb m n x.ordered) x.second)

  pub no_clash_more : (i : ℕ) → ((m n : ℕ) → m < i → IsClash conflicts (flag flags) m n → ⊥) →
      find (λ n. ltb i n && flag flags n) (listed_for conflicts i) ≡ None →
      (m n : ℕ) → m < i + 1 → IsClash conflicts (flag flags) m n → ⊥
  no_clash_more i before none m n l x =
      elim (cases_eq m i) [
        | inl e ↦
            let w : In n (listed_for conflicts i) × ((ltb i n && flag flags n) ≡ true) = subst (λ k. In n (listed_for conflicts k) × ((ltb k n && flag flags n) ≡ true)) e (clash_parts m n x) in
            both_ways (ltb i n && flag flags n) (find_none (λ n. ltb i n && flag flags n) (listed_for conflicts i) none n w.0) w.1
        | inr ne ↦ before m n (omega (arith, ne)) x
      ]

  pub no_clash_skip : (i : ℕ) → ((m n : ℕ) → m < i → IsClash conflicts (flag flags) m n → ⊥) → flag flags i ≡ false →
      (m n : ℕ) → m < i + 1 → IsClash conflicts (flag flags) m n → ⊥
  no_clash_skip i before down m n l x =
      elim (cases_eq m i) [
        | inl e ↦ both_ways (flag flags i) down (ap (flag flags) (sym e) ∙ x.first)
        | inr ne ↦ before m n (omega (arith, ne)) x
      ]

  pub no_clash_all : (size : ℕ) → length flags ≡ size → ((m n : ℕ) → m < size → IsClash conflicts (flag flags) m n → ⊥) → HasNoClash conflicts (flag flags)
  no_clash_all size e each m n x = let l : m < length flags = flag_in flags m x.first in each m n (omega arith) x

  pub clash_first : (i y : ℕ) → AreConflicts conflicts → flag flags i ≡ true → ((m n : ℕ) → m < i → IsClash conflicts (flag flags) m n → ⊥) →
      find (λ n. ltb i n && flag flags n) (listed_for conflicts i) ≡ Some y → IsFirstClash conflicts (flag flags) i y
  clash_first i y are up before found =
      let w : In y (listed_for conflicts i) × ((ltb i y && flag flags y) ≡ true) = find_some (λ n. ltb i n && flag flags n) (listed_for conflicts i) y found in
      let v : (ltb i y ≡ true) × (flag flags y ≡ true) = and_parts (ltb i y) (flag flags y) w.1 in
      record {
        clash = record { ordered = ltb-true i y v.0; first = up; second = v.1; conflict = In_has w.0 };
        least = λ a b x. elim (cases_lt a i) [
          | inl l ↦ absurd (before a b l x)
          | inr g ↦ elim (cases_eq i a) [
            | inl e ↦
                let u : In b (listed_for conflicts i) × ((ltb i b && flag flags b) ≡ true) = subst (λ k. In b (listed_for conflicts k) × ((ltb k b && flag flags b) ≡ true)) (sym e) (clash_parts a b x) in
                inr (e, find_least (λ n. ltb i n && flag flags n) (listed_for conflicts i) y (are.ascending i) found b u.0 u.1)
            | inr ne ↦ inl (omega (arith, ne))
          ]
        ];
      }
