-- The union of two ascending clauses by merging.
use Rattle.std.proofs.Common.{◌≡◌, ◌≢◌, ℕ, ◌<◌, ◌≤◌, ◌+◌, ◌-◌, not, eqb, cond, List, [], ◌∷◌, ◌++◌, ◌⊎◌, inl, inr, sym, ◌∙◌, ap, ap₂, subst, length, get_or}
use Rattle.std.proofs.{Common.{take, drop, arith, add-one, append_assoc, append-nil, eq-eqb, ne_eqb, length-drop, drop-cons}, lemmas.List.{drop_all, take_all}}
use Rattle.listed.proofs.{Orders.{rest_ascends, ascending_filter, ascending_same}, Lists.{In_none, filter_cases}}
use Rattle.listed.specs.Lists.{Ascending}
use Rattle.clause_families.specs.{Unions.{clause_without, union_of}, Laws.{Merges}}
use Rattle.clause_families.proofs.{UnionMerges.{union_merges_lem}, Unions.{joined_ascending, joined_cases, joined_left}}

-- what is left begins with the literal at the place
left_at : (xs : List ℕ) (i x : ℕ) → i < length xs → x ≡ get_or xs i 0 → drop i xs ≡ x ∷ drop (i + 1) xs
left_at xs i x l e = drop-cons xs i 0 l ∙ ap₂ (λ y ys. y ∷ ys) (sym e) (ap (λ n. drop n xs) (sym (add-one i)))

with_nothing : (xs : List ℕ) → Ascending xs → union_of xs [] ≡ xs
with_nothing xs a =
    ascending_same (union_of xs []) xs (joined_ascending xs [] tt) a
    (λ n i. elim (joined_cases xs [] n i) [ inl l ↦ l | inr r ↦ absurd (In_none r) ])
    (λ n i. joined_left xs [] n i)

dropped_more : (spent x : ℕ) (xs : List ℕ) → x ≢ spent → clause_without spent (x ∷ xs) ≡ x ∷ clause_without spent xs
dropped_more spent x xs ne = ap (λ b. cond (not b) (x ∷ clause_without spent xs) (clause_without spent xs)) (ne_eqb x spent ne)

dropped_less : (spent x : ℕ) (xs : List ℕ) → x ≡ spent → clause_without spent (x ∷ xs) ≡ clause_without spent xs
dropped_less spent x xs e = ap (λ b. cond (not b) (x ∷ clause_without spent xs) (clause_without spent xs)) (eq-eqb x spent e)

dropped_up : (spent : ℕ) (xs : List ℕ) → Ascending xs → Ascending (clause_without spent xs)
dropped_up spent xs a = ascending_filter (λ n. not (eqb n spent)) xs a

-- the literals so far, and the union of what is left, are the union
pub record Merging (spent : ℕ) (clause other literals : List ℕ) (i j : ℕ) : Type 0 where
  pub own_in : i ≤ length clause
  pub other_in : j ≤ length other
  pub union : union_of (clause_without spent clause) other ≡ literals ++ union_of (clause_without spent (drop i clause)) (drop j other)

module _ (spent : ℕ) (clause other : List ℕ) (up : Ascending clause) (other_up : Ascending other) where
  module _ (literals : List ℕ) (i j : ℕ) (m : Merging spent clause other literals i j) where
    -- nothing is left of one of the clauses
    pub merge_ends : (length clause ≤ i) ⊎ (length other ≤ j) → (first second : List ℕ) →
        first ≡ literals ++ clause_without spent (take (length clause - i) (drop i clause)) → second ≡ first ++ take (length other - j) (drop j other) →
        second ≡ union_of (clause_without spent clause) other
    merge_ends done first second f s =
        let own : take (length clause - i) (drop i clause) ≡ drop i clause = take_all (length clause - i) (drop i clause) (omega (arith, length-drop i clause)) in
        let rest : take (length other - j) (drop j other) ≡ drop j other = take_all (length other - j) (drop j other) (omega (arith, length-drop j other)) in
        let left : union_of (clause_without spent (drop i clause)) (drop j other) ≡ clause_without spent (drop i clause) ++ drop j other =
        elim done [
          | inl l ↦ let none : drop i clause ≡ [] = drop_all i clause l in
              ap (λ z. union_of (clause_without spent z) (drop j other)) none ∙ sym (ap (λ z. clause_without spent z ++ drop j other) none)
          | inr l ↦ let none : drop j other ≡ [] = drop_all j other l in
              ap (λ z. union_of (clause_without spent (drop i clause)) z) none ∙ with_nothing (clause_without spent (drop i clause)) (dropped_up spent (drop i clause) (rest_ascends i clause up))
              ∙ sym (append-nil (clause_without spent (drop i clause))) ∙ sym (ap (λ z. clause_without spent (drop i clause) ++ z) none)
        ] in
        s ∙ ap₂ (λ x y. x ++ y) (f ∙ ap (λ z. literals ++ clause_without spent z) own) rest
        ∙ append_assoc literals (clause_without spent (drop i clause)) (drop j other)
        ∙ ap (λ z. literals ++ z) (sym left) ∙ sym m.union

    module _ (own : ℕ) (l : i < length clause) (own_is : own ≡ get_or clause i 0) where
      at_own : drop i clause ≡ own ∷ drop (i + 1) clause
      at_own = left_at clause i own l own_is

      up_own : Ascending (own ∷ drop (i + 1) clause)
      up_own = subst Ascending at_own (rest_ascends i clause up)

      -- the spent package is passed
      pub merge_spent : own ≡ spent → Merging spent clause other literals (i + 1) j
      merge_spent e = record {
        own_in = omega arith;
        other_in = m.other_in;
        union = m.union ∙ ap (λ z. literals ++ union_of z (drop j other)) (ap (clause_without spent) at_own ∙ dropped_less spent own (drop (i + 1) clause) e);
      }

      module _ (next : ℕ) (u : j < length other) (next_is : next ≡ get_or other j 0) (ne : own ≢ spent) where
        at_next : drop j other ≡ next ∷ drop (j + 1) other
        at_next = left_at other j next u next_is

        up_next : Ascending (next ∷ drop (j + 1) other)
        up_next = subst Ascending at_next (rest_ascends j other other_up)

        own_left : clause_without spent (drop i clause) ≡ own ∷ clause_without spent (drop (i + 1) clause)
        own_left = ap (clause_without spent) at_own ∙ dropped_more spent own (drop (i + 1) clause) ne

        up_left : Ascending (own ∷ clause_without spent (drop (i + 1) clause))
        up_left = ((λ y k. up_own.0 y (filter_cases (λ n. not (eqb n spent)) (drop (i + 1) clause) y k).0), dropped_up spent (drop (i + 1) clause) up_own.1)

        merges : Merges own next (clause_without spent (drop (i + 1) clause)) (drop (j + 1) other)
        merges = union_merges_lem own next (clause_without spent (drop (i + 1) clause)) (drop (j + 1) other) up_left up_next

        heads : union_of (clause_without spent (drop i clause)) (drop j other) ≡ union_of (own ∷ clause_without spent (drop (i + 1) clause)) (next ∷ drop (j + 1) other)
        heads = ap₂ (λ x y. union_of x y) own_left at_next

        put : (x : ℕ) (rest more : List ℕ) → more ≡ literals ++ x ∷ [] → union_of (own ∷ clause_without spent (drop (i + 1) clause)) (next ∷ drop (j + 1) other) ≡ x ∷ rest →
            union_of (clause_without spent clause) other ≡ more ++ rest
        put x rest more is e = m.union ∙ ap (λ z. literals ++ z) (heads ∙ e) ∙ sym (append_assoc literals (x ∷ []) rest) ∙ ap (λ z. z ++ rest) (sym is)

        pub merge_own : own < next → (more : List ℕ) → more ≡ literals ++ own ∷ [] → Merging spent clause other more (i + 1) j
        merge_own h more is = record {
          own_in = omega arith;
          other_in = m.other_in;
          union = put own (union_of (clause_without spent (drop (i + 1) clause)) (next ∷ drop (j + 1) other)) more is (merges.less h)
              ∙ ap (λ z. more ++ union_of (clause_without spent (drop (i + 1) clause)) z) (sym at_next);
        }

        pub merge_next : next < own → (more : List ℕ) → more ≡ literals ++ next ∷ [] → Merging spent clause other more i (j + 1)
        merge_next h more is = record {
          own_in = m.own_in;
          other_in = omega arith;
          union = put next (union_of (own ∷ clause_without spent (drop (i + 1) clause)) (drop (j + 1) other)) more is (merges.more h)
              ∙ ap (λ z. more ++ union_of z (drop (j + 1) other)) (sym own_left);
        }

        pub merge_both : own ≡ next → (more : List ℕ) → more ≡ literals ++ own ∷ [] → Merging spent clause other more (i + 1) (j + 1)
        merge_both h more is = record {
          own_in = omega arith;
          other_in = omega arith;
          union = put own (union_of (clause_without spent (drop (i + 1) clause)) (drop (j + 1) other)) more is (merges.same h);
        }
