-- What trimming gives.
use Rattle.std.proofs.Common.{◌≡◌, ℕ, Bool, true, false, eqb, List, [], ◌∷◌, ◌++◌, length, refl, ap, sym, ◌∙◌, arith, inl, inr, subst, Some, None}
use Rattle.std.proofs.{lemmas.Bool.{cases_Bool, or_cases, not-false, eqb-true}, lemmas.Option.{same_Some}}
use Rattle.std.specs.List.{list_any, find, flat_map}
use Rattle.row_book.specs.{Sets.{NumSet, Within, plus}, Repository.{Repository, Healthy}, Flattening.{packages}}
use Rattle.listed.specs.Lists.{In, here, there}
use Rattle.listed.proofs.Lists.{In_cases, In_none}
use Rattle.row_book.proofs.{Lists.{hit_any}, Numbers.{numbers_from}}
use Rattle.install_lift.specs.{Trimming.{member_clauses, is_unhit, first_need, Trims, IsHealthyPart, TrimIsHealthy, TrimIsOne}, Trimming.Trims.{ends, puts}}

pub find_in : (p : List ℕ → Bool) (xs : List (List ℕ)) (x : List ℕ) → find p xs ≡ Some x → In x xs × (p x ≡ true)
find_in p [] x h = cc
find_in p (y ∷ ys) x h = elim (cases_Bool (p y)) [
  | inl t ↦ let e : y ≡ x = cc (rw t at h) in (subst (λ z. In z (y ∷ ys)) e here, subst (λ z. p z ≡ true) e t)
  | inr f ↦ let rest = find_in p ys x (rw f at h) in (there rest.0, rest.1)
]

pub find_num : (p : ℕ → Bool) (xs : List ℕ) (x : ℕ) → find p xs ≡ Some x → In x xs × (p x ≡ true)
find_num p [] x h = cc
find_num p (y ∷ ys) x h = elim (cases_Bool (p y)) [
  | inl t ↦ let e : y ≡ x = cc (rw t at h) in (subst (λ z. In z (y ∷ ys)) e here, subst (λ z. p z ≡ true) e t)
  | inr f ↦ let rest = find_num p ys x (rw f at h) in (there rest.0, rest.1)
]

find_no : (p : List ℕ → Bool) (xs : List (List ℕ)) → find p xs ≡ None → (x : List ℕ) → In x xs → p x ≡ false
find_no p [] h x i = absurd (In_none i)
find_no p (y ∷ ys) h x i = elim (cases_Bool (p y)) [
  | inl t ↦ absurd (cc (rw t at h))
  | inr f ↦ elim (In_cases i) [ inl e ↦ subst (λ z. p z ≡ false) (sym e) f | inr j ↦ find_no p ys (rw f at h) x j ]
]

in_front : (xs ys : List (List ℕ)) (n : List ℕ) → In n xs → In n (xs ++ ys)
in_front [] ys n i = absurd (In_none i)
in_front (x ∷ xs) ys n i = elim (In_cases i) [ inl e ↦ subst (λ z. In z (x ∷ (xs ++ ys))) (sym e) here | inr j ↦ there (in_front xs ys n j) ]

in_back : (xs ys : List (List ℕ)) (n : List ℕ) → In n ys → In n (xs ++ ys)
in_back [] ys n i = i
in_back (x ∷ xs) ys n i = there (in_back xs ys n i)

in_flat : (f : ℕ → List (List ℕ)) (xs : List ℕ) (p : ℕ) (c : List ℕ) → In p xs → In c (f p) → In c (flat_map f xs)
in_flat f [] p c i j = absurd (In_none i)
in_flat f (x ∷ xs) p c i j = elim (In_cases i) [
  | inl e ↦ in_front (f x) (flat_map f xs) c (subst (λ z. In c (f z)) e j)
  | inr k ↦ in_back (f x) (flat_map f xs) c (in_flat f xs p c k j)
]

-- nothing open: the set is healthy
trimmed : (R : Repository) (goals : List (List ℕ)) (chosen S : NumSet) → Healthy R chosen → first_need R goals S ≡ None → Within S chosen → IsHealthyPart R goals chosen S
trimmed R goals chosen S healthy none part = record {
  healthy = record {
    packages = λ n i. healthy.packages n (part n i);
    abundance = λ n i c j. hit_any S c (not_open c (in_back goals (flat_map (member_clauses R S) (packages R)) c
        (in_flat (member_clauses R S) (packages R) n c (numbers_from (length R.clauses) 0 n (omega arith) (let lt = healthy.packages n (part n i) in omega (arith, lt))) (rw i j))));
    peace = λ m n i j. healthy.peace m n (part m i) (part n j);
  };
  hits = λ g i. hit_any S g (not_open g (in_front goals (flat_map (member_clauses R S) (packages R)) g i));
  part = part;
}
  where
    not_open : (c : List ℕ) → In c (goals ++ flat_map (member_clauses R S) (packages R)) → list_any S c ≡ true
    not_open c i = not-false (list_any S c) (find_no (is_unhit S) (goals ++ flat_map (member_clauses R S) (packages R)) none c i)

pub plus_part : (S chosen : NumSet) (n : ℕ) → Within S chosen → chosen n ≡ true → Within (plus S n) chosen
plus_part S chosen n part t m h = elim (or_cases (S m) (eqb m n) h) [ inl a ↦ part m a | inr b ↦ subst (λ z. chosen z ≡ true) (sym (eqb-true m n b)) t ]

trims_part : (R : Repository) (goals : List (List ℕ)) (chosen S T : NumSet) → Healthy R chosen → Within S chosen → Trims R goals chosen S T → IsHealthyPart R goals chosen T
trims_part R goals chosen S T healthy part (ends none) = trimmed R goals chosen S healthy none part
trims_part R goals chosen S T healthy part (puts c n first least rest) = trims_part R goals chosen (plus S n) T healthy (plus_part S chosen n part (find_num chosen c n least).1) rest

pub trim_is_healthy : TrimIsHealthy
trim_is_healthy R goals chosen T healthy hits is = trims_part R goals chosen (λ n. false) T healthy (λ n h. absurd (cc h)) is

trims_one : (R : Repository) (goals : List (List ℕ)) (chosen A S T : NumSet) → Trims R goals chosen A S → Trims R goals chosen A T → T ≡ S
trims_one R goals chosen A S T (ends none) (ends other) = refl
trims_one R goals chosen A S T (ends none) (puts c n first least rest) = absurd (cc (none, first))
trims_one R goals chosen A S T (puts c n first least rest) (ends none) = absurd (cc (none, first))
trims_one R goals chosen A S T (puts c n first least rest) (puts d m second other more) =
    let e : c ≡ d = same_Some c d (sym first ∙ second) in
    let f : n ≡ m = same_Some n m (sym least ∙ ap (find chosen) e ∙ other) in
    trims_one R goals chosen (plus A n) S T rest (subst (λ k. Trims R goals chosen (plus A k) T) (sym f) more)

pub trim_is_one : TrimIsOne
trim_is_one R goals chosen S T a b = trims_one R goals chosen (λ n. false) S T a b
