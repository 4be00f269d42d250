-- What one list has and another does not, while both are walked.
use Rattle.std.proofs.Common.{◌≡◌, ℕ, ◌<◌, ◌+◌, ◌-◌, true, List, [], ◌∷◌, ◌++◌, ◌⊎◌, inl, inr, refl, sym, ◌∙◌, ap, subst, length, get_or, take, drop}
use Rattle.std.proofs.{Common.{length-drop, arith}, lemmas.List.{take_all, take_more, take-append-drop}}
use Rattle.clause_pool.specs.Interned.{Interned, clause_at, clauses_at}
use Rattle.listed.specs.Lists.{In, here, has}
use Rattle.row_book.specs.Uses.{HoldsDifference, some_holds}
use Rattle.listed.proofs.Lists.{In_append_cases, In_append_left, In_append_right, In_cases, In_map, In_map_cases, In_none, any_cases, any_from}

-- nothing was walked yet
pub difference_none : (first second found : List ℕ) → found ≡ [] → HoldsDifference (take 0 first) second found
difference_none first second found e = record {
  part = λ x i. absurd (In_none (subst (λ z. In x z) e i));
  rest = λ x i. absurd (In_none (subst (λ z. In x z) (take_zero first) i));
}
  where
    take_zero : (xs : List ℕ) → take 0 xs ≡ []
    take_zero [] = refl
    take_zero (x ∷ xs) = refl

-- an element of what was walked is one of before, or the new one
walked : (first : List ℕ) (i x y : ℕ) → i < length first → x ≡ get_or first i x → In y (take (i + 1) first) → In y (take i first) ⊎ (y ≡ x)
walked first i x y l e j =
    elim (In_append_cases (take i first) (x ∷ []) y (subst (λ z. In y z) (take_more first i x l ∙ ap (λ z. take i first ++ z ∷ []) (sym e)) j)) [
      | inl a ↦ inl a
      | inr b ↦ elim (In_cases b) [ inl s ↦ inr s | inr m ↦ absurd (In_none m) ]
    ]

-- what was walked stays so, and the new element is among it
still_walked : (first : List ℕ) (i x y : ℕ) → i < length first → x ≡ get_or first i x → In y (take i first) ⊎ (y ≡ x) → In y (take (i + 1) first)
still_walked first i x y l e s =
    subst (λ z. In y z) (sym (take_more first i x l ∙ ap (λ z. take i first ++ z ∷ []) (sym e)))
    (elim s [
      | inl a ↦ In_append_left (take i first) (x ∷ []) y a
      | inr b ↦ In_append_right (take i first) (x ∷ []) y (subst (λ z. In y (z ∷ [])) b here)
    ])

-- the next element is in both lists
pub difference_same : (first second found : List ℕ) (i x : ℕ) → i < length first → x ≡ get_or first i x → In x second
    → HoldsDifference (take i first) second found → HoldsDifference (take (i + 1) first) second found
difference_same first second found i x l e both d = record {
  part = λ y j. still_walked first i x y l e (inl (d.part y j));
  rest = λ y j. elim (walked first i x y l e j) [ inl a ↦ d.rest y a | inr s ↦ inr (subst (λ z. In z second) (sym s) both) ];
}

-- the next element is noted
pub difference_more : (first second found more : List ℕ) (i x : ℕ) → i < length first → x ≡ get_or first i x → more ≡ found ++ x ∷ []
    → HoldsDifference (take i first) second found → HoldsDifference (take (i + 1) first) second more
difference_more first second found more i x l e is d = record {
  part = λ y j. elim (In_append_cases found (x ∷ []) y (subst (λ z. In y z) is j)) [
    | inl a ↦ still_walked first i x y l e (inl (d.part y a))
    | inr b ↦ elim (In_cases b) [ inl s ↦ still_walked first i x y l e (inr s) | inr m ↦ absurd (In_none m) ]
  ];
  rest = λ y j. elim (walked first i x y l e j) [
    | inl a ↦ elim (d.rest y a) [ inl b ↦ inl (subst (λ z. In y z) (sym is) (In_append_left found (x ∷ []) y b)) | inr b ↦ inr b ]
    | inr s ↦ inl (subst (λ z. In y z) (sym is) (In_append_right found (x ∷ []) y (subst (λ z. In y (z ∷ [])) s here)))
  ];
}

-- all that was not walked is noted
pub difference_rest : (first second found more : List ℕ) (i : ℕ) → more ≡ found ++ take (length first - i) (drop i first)
    → HoldsDifference (take i first) second found → HoldsDifference first second more
difference_rest first second found more i lent d =
    let left : take (length first - i) (drop i first) ≡ drop i first = take_all (length first - i) (drop i first) (omega (arith, length-drop i first)) in
    let is : more ≡ found ++ drop i first = lent ∙ ap (λ z. found ++ z) left in
    let whole : take i first ++ drop i first ≡ first = take-append-drop i first in
    record {
      part = λ y j. subst (λ z. In y z) whole (elim (In_append_cases found (drop i first) y (subst (λ z. In y z) is j)) [
        | inl a ↦ In_append_left (take i first) (drop i first) y (d.part y a)
        | inr b ↦ In_append_right (take i first) (drop i first) y b
      ]);
      rest = λ y j. elim (In_append_cases (take i first) (drop i first) y (subst (λ z. In y z) (sym whole) j)) [
        | inl a ↦ elim (d.rest y a) [ inl b ↦ inl (subst (λ z. In y z) (sym is) (In_append_left found (drop i first) y b)) | inr b ↦ inr b ]
        | inr b ↦ inl (subst (λ z. In y z) (sym is) (In_append_right found (drop i first) y b))
      ];
    }

-- What the clauses of such a list hold.

holder : (pool : Interned) (ids : List ℕ) (n : ℕ) → some_holds (clauses_at pool ids) n ≡ true → (id : ℕ) × In id ids × (has (clause_at pool id) n ≡ true)
holder pool ids n h =
    let w : (c : List ℕ) × In c (clauses_at pool ids) × (has c n ≡ true) = any_cases (λ c. has c n) (clauses_at pool ids) h in
    let o : (id : ℕ) × In id ids × (w.0 ≡ clause_at pool id) = In_map_cases (clause_at pool) ids w.0 w.1 in
    (o.0, o.1, ap (λ c. has c n) (sym o.2) ∙ w.2)

held : (pool : Interned) (ids : List ℕ) (n id : ℕ) → In id ids → has (clause_at pool id) n ≡ true → some_holds (clauses_at pool ids) n ≡ true
held pool ids n id i h = any_from (λ c. has c n) (clauses_at pool ids) (clause_at pool id) (In_map (clause_at pool) ids id i) h

pub difference_held : (pool : Interned) (first second found : List ℕ) (n : ℕ) → HoldsDifference first second found
    → some_holds (clauses_at pool found) n ≡ true → some_holds (clauses_at pool first) n ≡ true
difference_held pool first second found n d h =
    let w : (id : ℕ) × In id found × (has (clause_at pool id) n ≡ true) = holder pool found n h in
    held pool first n w.0 (d.part w.0 w.1) w.2

pub difference_all : (pool : Interned) (first second found : List ℕ) (n : ℕ) → HoldsDifference first second found
    → some_holds (clauses_at pool first) n ≡ true → (some_holds (clauses_at pool found) n ≡ true) ⊎ (some_holds (clauses_at pool second) n ≡ true)
difference_all pool first second found n d h =
    let w : (id : ℕ) × In id first × (has (clause_at pool id) n ≡ true) = holder pool first n h in
    elim (d.rest w.0 w.1) [
      | inl a ↦ inl (held pool found n w.0 a w.2)
      | inr b ↦ inr (held pool second n w.0 b w.2)
    ]
