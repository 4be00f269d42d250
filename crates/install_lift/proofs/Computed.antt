-- What is computed is the lift, and the trim.
use Rattle.std.proofs.Common.{◌≡◌, ℕ, zero, suc, ◌+◌, ◌<◌, ◌≤◌, Bool, true, false, not, ◌&&◌, ◌||◌, eqb, cond, List, [], ◌∷◌, ◌++◌, ◌⊎◌, length, refl, ap, sym}
use Rattle.std.proofs.{Common.{◌∙◌, arith, inl, inr, subst, Option, Some, None}, Math.ListN.{get_or-eq_default}}
use Rattle.std.proofs.lemmas.Bool.{cases_Bool, cases_eq, cases_lt, and_parts, and_from, or_right, both_ways, false_from_ne_true, not-true, not_from_false}
use Rattle.std.proofs.lemmas.Bool.{eqb-true, eq-eqb}
use Rattle.std.specs.{List.{list_any, find, flat_map}, Option.{option_and_then}}
use Rattle.listed.proofs.Lists.{none_in, In_none, In_at, In_has, In_append_cases, has_In, any_from, any_cases, any_none, all_from, all_at}
use Rattle.listed.proofs.Bools.{cases_Option, lighter}
use Rattle.row_book.specs.{Sets.{NumSet, Is, Within, HitsAll, plus, union}, Numbers.{subsets}}
use Rattle.row_book.specs.{Repository.{Repository, Healthy, clauses_of, conflicts_of, against}, Flattening.{packages}}
use Rattle.row_book.specs.Rounds.{RoundStep, FlatStep, MergeStep, IdleStep}
use Rattle.listed.specs.Lists.{In, here, has}
use Rattle.row_book.proofs.{Lists.{any_hit, members_from, members_from_parts, members_from_from, members_from_ascending}, Numbers.{subsets_has, subsets_parts}}
use Rattle.clause_pool.proofs.Lists.{In_place}
use Rattle.clause_flatten.specs.Laws.{Served, Lifts}
use Rattle.install_lift.specs.{Raising.{is_served}, Lifting.{is_free, are_served, supported, lift_through, lift_of, IsLiftThrough, IsLift}, Laws.{LiftIsOf}}
use Rattle.install_lift.specs.Trimming.{member_clauses, is_unhit, first_need, next_put, with_put, trim_after, trim_of, Trims, IsTrim, TrimIsOf}
use Rattle.install_lift.specs.Trimming.Trims.{ends, puts}
use Rattle.install_lift.proofs.{Lowering.{served_row, row_served, hit_more}, Lifted.{lifts_one}, Trimmed.{find_in, find_num, plus_part}}

empty_has : (xs : List ℕ) → eqb (length xs) 0 ≡ true → (m : ℕ) → has xs m ≡ false
empty_has [] h m = refl
empty_has (x ∷ xs) h m = let e = eqb-true (length (x ∷ xs)) 0 h in absurd (omega arith)

-- the test of a package without conflicts, and the fact
free_from : (R : Repository) (p : ℕ) → ((m : ℕ) → (against R p m ≡ false) × (against R m p ≡ false)) → is_free R p ≡ true
free_from R p h =
    and_from (eqb (length (conflicts_of R p)) 0) (not (list_any (λ ms. has ms p) R.conflicts))
    (none_in (conflicts_of R p) (λ m. (h m).0))
    (not_from_false (list_any (λ ms. has ms p) R.conflicts) (false_from_ne_true (list_any (λ ms. has ms p) R.conflicts) (λ t.
    let w = any_cases (λ ms. has ms p) R.conflicts t in
    let at = In_place R.conflicts w.0 [] w.1 in
    both_ways (against R at.0 p) (h at.0).1 (subst (λ ms. has ms p ≡ true) (sym at.2) w.2))))

free_to : (R : Repository) (p m : ℕ) → is_free R p ≡ true → (against R p m ≡ false) × (against R m p ≡ false)
free_to R p m h =
    let both = and_parts (eqb (length (conflicts_of R p)) 0) (not (list_any (λ ms. has ms p) R.conflicts)) h in (
      empty_has (conflicts_of R p) both.0 m,
      elim (cases_lt m (length R.conflicts)) [
        | inl lt ↦ any_none (λ ms. has ms p) R.conflicts (not-true (list_any (λ ms. has ms p) R.conflicts) both.1) (conflicts_of R m) (In_at R.conflicts m [] lt)
        | inr ge ↦ ap (λ ms. has ms p) (get_or-eq_default R.conflicts [] ge)
      ],
    )

-- a served list within which a package stands
pub record IsServedBy (R : Repository) (I : NumSet) (p : ℕ) : Type 0 where
  pub list : List ℕ
  pub inside : In list (subsets (length R.clauses))
  pub member : In p list
  pub served : are_served R I list ≡ true

served_by : (R : Repository) (I : NumSet) (p : ℕ) → Is (supported R I) p → IsServedBy R I p
unfolding supported
served_by R I p h =
    let w = any_cases (λ J. has J p && are_served R I J) (subsets (length R.clauses)) h in
    let both = and_parts (has w.0 p) (are_served R I w.0) w.2 in
    record { list = w.0; inside = w.1; member = has_In w.0 p both.0; served = both.1 }

by_served : (R : Repository) (I : NumSet) (p : ℕ) (J : List ℕ) → In J (subsets (length R.clauses)) → In p J → are_served R I J ≡ true → Is (supported R I) p
unfolding supported
by_served R I p J i j s = any_from (λ K. has K p && are_served R I K) (subsets (length R.clauses)) J i (and_from (has J p) (are_served R I J) (In_has j) s)

-- each member of a served list
member_free : (R : Repository) (I : NumSet) (J : List ℕ) (p : ℕ) → are_served R I J ≡ true → In p J → (is_free R p ≡ true) × (is_served I (has J) (clauses_of R p) ≡ true)
member_free R I J p s j = and_parts (is_free R p) (is_served I (has J) (clauses_of R p)) (all_at (λ q. is_free R q && is_served I (has J) (clauses_of R q)) J s p j)

-- a served set as a list
abbrev listed : Repository → NumSet → List ℕ
listed R K = members_from K (length R.clauses) 0

in_listed : (R : Repository) (K : NumSet) (p : ℕ) → Is K p → p < length R.clauses → In p (listed R K)
in_listed R K p k lt = members_from_from K (length R.clauses) 0 p k (omega arith) (omega arith)

listed_served : (R : Repository) (I K : NumSet) → Served R I K → are_served R I (listed R K) ≡ true
listed_served R I K served = all_from (λ q. is_free R q && is_served I (has (listed R K)) (clauses_of R q)) (listed R K) (λ p i.
    let k : Is K p = (members_from_parts K (length R.clauses) 0 p i).0 in
    and_from (is_free R p) (is_served I (has (listed R K)) (clauses_of R p)) (free_from R p (λ m. served.free p m k))
    (row_served I (has (listed R K)) (clauses_of R p) (λ c j. hit_more I K (has (listed R K)) c (λ n h. In_has (in_listed R K n h (served.packages n h))) (served.abundance p k c j))))

listed_inside : (R : Repository) (K : NumSet) → ((n : ℕ) → Is K n → n < length R.clauses) → In (listed R K) (subsets (length R.clauses))
listed_inside R K within = subsets_has (length R.clauses) (listed R K) (members_from_ascending K (length R.clauses) 0) (λ m i. within m (members_from_parts K (length R.clauses) 0 m i).0)

-- the union of all served sets is the greatest
supported_lifts : (R : Repository) (I : NumSet) → Lifts R I (supported R I)
supported_lifts R I = record {
  served = record {
    packages = λ n h. let b = served_by R I n h in (subsets_parts (length R.clauses) b.list b.inside).1 n b.member;
    free = λ n m h. let b = served_by R I n h in free_to R n m (member_free R I b.list n b.served b.member).0;
    abundance = λ n h c i.
        let b = served_by R I n h in
        hit_more I (has b.list) (supported R I) c (λ m k. by_served R I m b.list b.inside (has_In b.list m k) b.served)
        (served_row I (has b.list) (clauses_of R n) (member_free R I b.list n b.served b.member).1 c i);
  };
  greatest = λ K served n k. by_served R I n (listed R K) (listed_inside R K served.packages) (in_listed R K n k (served.packages n k)) (listed_served R I K served);
}

-- step by step
through_of : (s : RoundStep) (I T : NumSet) → IsLiftThrough s I T → T ≡ lift_through s I
through_of (FlatStep before) I T h = h.2 ∙ ap (union I) (lifts_one before I h.0 (supported before I) h.1 (supported_lifts before I))
through_of (MergeStep class_of) I T h = h
through_of (IdleStep step) I T h = h

pub lifts_of : (steps : List RoundStep) (I T : NumSet) → IsLift steps I T → T ≡ lift_of steps I
lifts_of [] I T h = h
lifts_of (s ∷ ss) I T h = through_of s h.0 T h.2 ∙ ap (lift_through s) (lifts_of ss I h.0 h.1)

of_through : (s : RoundStep) (I : NumSet) → IsLiftThrough s I (lift_through s I)
of_through (FlatStep before) I = (supported before I, supported_lifts before I, refl)
of_through (MergeStep class_of) I = refl
of_through (IdleStep step) I = refl

of_lifts : (steps : List RoundStep) (I : NumSet) → IsLift steps I (lift_of steps I)
of_lifts [] I = refl
of_lifts (s ∷ ss) I = (lift_of ss I, of_lifts ss I, of_through s (lift_of ss I))

pub lift_is_of : LiftIsOf
lift_is_of steps I T = (lifts_of steps I T, (λ e. subst (IsLift steps I) (sym e) (of_lifts steps I)))

-- how many of so many packages are not in the set
abbrev outside : ℕ → NumSet → ℕ
outside zero S = 0
outside (suc n) S = cond (S n) 0 1 + outside n S

outside_most : (n : ℕ) (S : NumSet) → outside n S ≤ n
outside_most zero S = omega arith
outside_most (suc n) S = let a = one (S n) in let b = outside_most n S in omega (arith, a, b)
  where
    one : (b : Bool) → cond b 0 1 ≤ 1
    one true = omega arith
    one false = omega arith

outside_grows : (n : ℕ) (S : NumSet) (p : ℕ) → outside n (plus S p) ≤ outside n S
outside_grows zero S p = omega arith
outside_grows (suc n) S p = let a = lighter (S n) (eqb n p) in let b = outside_grows n S p in omega (arith, a, b)

outside_less : (n : ℕ) (S : NumSet) (p : ℕ) → p < n → S p ≡ false → outside n (plus S p) < outside n S
outside_less zero S p lt e = absurd (omega arith)
outside_less (suc n) S p lt e = elim (cases_eq n p) [
  | inl same ↦
      let rest = outside_grows n S p in
      let now : (S n || eqb n p) ≡ true = or_right (S n) (eqb n p) (eq-eqb n p same) in
      let was : S n ≡ false = ap S same ∙ e in
      rw (now, was) (omega (arith, rest))
  | inr ne ↦ let a = lighter (S n) (eqb n p) in let b = outside_less n S p (omega arith) e in omega (arith, a, b)
]

after_stays : (k : ℕ) (R : Repository) (goals : List (List ℕ)) (chosen S : NumSet) → next_put R goals chosen S ≡ None → trim_after k R goals chosen S ≡ S
after_stays zero R goals chosen S h = refl
after_stays (suc k) R goals chosen S h = ap (λ o. trim_after k R goals chosen (with_put S o)) h ∙ after_stays k R goals chosen S h

-- a package that is put in was not there
was_out : (R : Repository) (goals : List (List ℕ)) (chosen S : NumSet) (c : List ℕ) (n : ℕ) → first_need R goals S ≡ Some c → find chosen c ≡ Some n → S n ≡ false
was_out R goals chosen S c n first least =
    let open_need : is_unhit S c ≡ true = (find_in (is_unhit S) (goals ++ flat_map (member_clauses R S) (packages R)) c first).1 in
    any_none S c (not-true (list_any S c) open_need) n (find_num chosen c n least).0

trims_of : (R : Repository) (goals : List (List ℕ)) (chosen : NumSet) → Healthy R chosen → (k : ℕ) (S T : NumSet) → outside (length R.clauses) S ≤ k → Trims R goals chosen S T → T ≡ trim_after k R goals chosen S
trims_of R goals chosen healthy k S T le (ends none) = sym (after_stays k R goals chosen S (ap (option_and_then (find chosen)) none))
trims_of R goals chosen healthy zero S T le (puts c n first least rest) =
    let less = outside_less (length R.clauses) S n (healthy.packages n (find_num chosen c n least).1) (was_out R goals chosen S c n first least) in
    absurd (omega arith)
trims_of R goals chosen healthy (suc k) S T le (puts c n first least rest) =
    let less = outside_less (length R.clauses) S n (healthy.packages n (find_num chosen c n least).1) (was_out R goals chosen S c n first least) in
    let next : next_put R goals chosen S ≡ Some n = ap (option_and_then (find chosen)) first ∙ least in
    subst (λ o. T ≡ trim_after k R goals chosen (with_put S o)) (sym next) (trims_of R goals chosen healthy k (plus S n) T (omega arith) rest)

pub trimmed_of : (R : Repository) (goals : List (List ℕ)) (chosen T : NumSet) → Healthy R chosen → IsTrim R goals chosen T → T ≡ trim_of R goals chosen
unfolding trim_of
trimmed_of R goals chosen T healthy is = trims_of R goals chosen healthy (length R.clauses) (λ n. false) T (outside_most (length R.clauses) (λ n. false)) is

-- a clause of one of the packages
flat_cases : (f : ℕ → List (List ℕ)) (xs : List ℕ) (c : List ℕ) → In c (flat_map f xs) → (p : ℕ) × In c (f p)
flat_cases f [] c i = absurd (In_none i)
flat_cases f (x ∷ xs) c i = elim (In_append_cases (f x) (flat_map f xs) c i) [ inl a ↦ (x, a) | inr b ↦ flat_cases f xs c b ]

member_has : (R : Repository) (S : NumSet) (p : ℕ) (c : List ℕ) → In c (member_clauses R S p) → Is S p × In c (clauses_of R p)
member_has R S p c i = elim (cases_Bool (S p)) [ inl t ↦ (t, rw t at i) | inr f ↦ absurd (In_none (rw f at i)) ]

-- an open need has a chosen member
need_hit : (R : Repository) (goals : List (List ℕ)) (chosen S : NumSet) (c : List ℕ) → Healthy R chosen → HitsAll chosen goals → Within S chosen → first_need R goals S ≡ Some c → list_any chosen c ≡ true
need_hit R goals chosen S c healthy hits part first =
    elim (In_append_cases goals (flat_map (member_clauses R S) (packages R)) c (find_in (is_unhit S) (goals ++ flat_map (member_clauses R S) (packages R)) c first).0) [
      | inl g ↦ any_hit chosen c (hits c g)
      | inr m ↦
          let w = flat_cases (member_clauses R S) (packages R) c m in
          let own = member_has R S w.0 c w.1 in
          any_hit chosen c (healthy.abundance w.0 (part w.0 own.0) c own.1)
    ]

find_there : (p : ℕ → Bool) (xs : List ℕ) → list_any p xs ≡ true → (n : ℕ) × (find p xs ≡ Some n)
find_there p [] h = absurd (cc h)
find_there p (x ∷ xs) h = elim (cases_Bool (p x)) [
  | inl t ↦ (x, ap (λ b. cond b (Some x) (find p xs)) t)
  | inr f ↦ let w = find_there p xs (rw f at h) in (w.0, ap (λ b. cond b (Some x) (find p xs)) f ∙ w.1)
]

trims_there : (R : Repository) (goals : List (List ℕ)) (chosen : NumSet) → Healthy R chosen → HitsAll chosen goals → (k : ℕ) (S : NumSet) → Within S chosen → outside (length R.clauses) S ≤ k → Trims R goals chosen S (trim_after k R goals chosen S)
trims_there R goals chosen healthy hits zero S part le = elim (cases_Option (first_need R goals S)) [
  | inl none ↦ ends none
  | inr some ↦
      let w = find_there chosen some.0 (need_hit R goals chosen S some.0 healthy hits part some.1) in
      let less = outside_less (length R.clauses) S w.0 (healthy.packages w.0 (find_num chosen some.0 w.0 w.1).1) (was_out R goals chosen S some.0 w.0 some.1 w.1) in
      absurd (omega arith)
]
trims_there R goals chosen healthy hits (suc k) S part le = elim (cases_Option (first_need R goals S)) [
  | inl none ↦ subst (Trims R goals chosen S) (sym (after_stays (suc k) R goals chosen S (ap (option_and_then (find chosen)) none))) (ends none)
  | inr some ↦
      let w = find_there chosen some.0 (need_hit R goals chosen S some.0 healthy hits part some.1) in
      let up = (find_num chosen some.0 w.0 w.1).1 in
      let less = outside_less (length R.clauses) S w.0 (healthy.packages w.0 up) (was_out R goals chosen S some.0 w.0 some.1 w.1) in
      let next : next_put R goals chosen S ≡ Some w.0 = ap (option_and_then (find chosen)) some.1 ∙ w.1 in
      puts some.0 w.0 some.1 w.1 (subst (λ o. Trims R goals chosen (plus S w.0) (trim_after k R goals chosen (with_put S o))) (sym next)
      (trims_there R goals chosen healthy hits k (plus S w.0) (plus_part S chosen w.0 part up) (omega arith)))
]

of_trims : (R : Repository) (goals : List (List ℕ)) (chosen : NumSet) → Healthy R chosen → HitsAll chosen goals → IsTrim R goals chosen (trim_of R goals chosen)
unfolding trim_of
of_trims R goals chosen healthy hits = trims_there R goals chosen healthy hits (length R.clauses) (λ n. false) (λ n h. absurd (cc h)) (outside_most (length R.clauses) (λ n. false))

pub trim_is_of : TrimIsOf
trim_is_of R goals chosen T healthy hits = (trimmed_of R goals chosen T healthy, (λ e. subst (IsTrim R goals chosen) (sym e) (of_trims R goals chosen healthy hits)))
