-- The state of a set of packages as a function: it is one, and there is no other.
use Rattle.std.proofs.Common.{◌≡◌, ℕ, zero, suc, ◌<◌, ◌≤◌, ◌⊎◌, Bool, true, false, not, ◌&&◌, List, [], ◌∷◌, ◌++◌, length, map, filter, Some, None, inl, inr}
use Rattle.std.proofs.{Common.{refl, sym, ap, ap₂, subst, ◌∙◌, arith, zero-le}, Math.Nat.{eq-or-lt_of_le}}
use Rattle.std.proofs.lemmas.Bool.{both_ways, cases_Bool, cases_lt, not-true, and_from, and_parts}
use Rattle.std.specs.{Prelude.{⊤, find, slice_index_or}, List.{list_all, list_any}}
use Rattle.listed.proofs.Bools.{cases_Option}
use Rattle.listed.proofs.Lists.{In_append_cases, In_at, In_cases, In_map_cases, In_none, all_at, filter_cases, filter_from, find_none, find_some}
use Rattle.row_book.specs.{Numbers.{numbers}, Flattening.{packages}, Health.{AllSatisfied, IsClash, IsFirstUnhit, UnhitFirst}}
use Rattle.row_book.specs.{Repository.{Repository, Satisfied, against, clauses_of}, Sets.{Hit, Is, NumSet}, Sound.{OfPackages, SoundRepository}}
use Rattle.row_book.specs.Thinning.{all_pairs, conflicting_pairs}
use Rattle.listed.specs.Lists.{In, here, there}
use Rattle.row_book.proofs.{Lists.{any_hit, hit_any}, Numbers.{numbers_from, numbers_parts}}
use Rattle.kernel_rounds.proofs.Thins.{pairs_has}
use Rattle.status_check.specs.{Report.{IsStateOf}, declared.report.OwnState.{OwnState}}
use Rattle.status_check.specs.declared.report.OwnState.TheVariants as own
use Rattle.status_check.specs.States.{StatesAreOne, are_both, by_clash, by_unserved, is_unserved, set_state}

-- the first of numbers that passes is the least one
least_found : (p : ℕ → Bool) (n k x y : ℕ) → find p (numbers n k) ≡ Some x → k ≤ y → y < x → p y ≡ false
unfolding numbers
least_found p zero k x y e l m = absurd cc
least_found p (suc n) k x y e l m = elim (cases_Bool (p k)) [
  | inl t ↦ let same : k ≡ x = cc (rw t at e) in absurd (omega (arith, same))
  | inr f ↦ elim (eq-or-lt_of_le l) [
    | inl same ↦ ap p (sym same) ∙ f
    | inr later ↦ least_found p n (suc k) x y (rw f at e) later m
  ]
]

-- one pair stands before the other, by the first and then by the second number, or is the same
abbrev Before : ℕ × ℕ → ℕ × ℕ → Type 0
Before v w = (v.0 < w.0) ⊎ ((v.0 ≡ w.0) × (v.1 ≤ w.1))

abbrev InOrder : List (ℕ × ℕ) → Type 0
InOrder [] = ⊤
InOrder (w ∷ ws) = ((z : ℕ × ℕ) → In z ws → Before w z) × InOrder ws

order_append : (xs ys : List (ℕ × ℕ)) → InOrder xs → InOrder ys → ((x y : ℕ × ℕ) → In x xs → In y ys → Before x y) → InOrder (xs ++ ys)
order_append [] ys o p f = p
order_append (x ∷ xs) ys o p f = (
  λ z i. elim (In_append_cases xs ys z i) [ inl a ↦ o.0 z a | inr b ↦ f x z here b ],
  order_append xs ys o.1 p (λ a b i j. f a b (there i) j),
)

order_filter : (q : ℕ × ℕ → Bool) (xs : List (ℕ × ℕ)) → InOrder xs → InOrder (filter q xs)
order_filter q [] o = tt
order_filter q (x ∷ xs) o = elim (cases_Bool (q x)) [
  | inl t ↦ rw t ((λ z i. o.0 z (filter_cases q xs z i).0), order_filter q xs o.1)
  | inr f ↦ rw f (order_filter q xs o.1)
]

order_row : (a n k : ℕ) → InOrder (map (λ b. (a, b)) (numbers n k))
unfolding numbers
order_row a zero k = tt
order_row a (suc n) k = (
  λ z i.
      let w = In_map_cases (λ b. (a, b)) (numbers n (suc k)) z i in
      let parts = numbers_parts n (suc k) w.0 w.1 in
      subst (λ v. Before (a, k) v) (sym w.2) (inr (refl, omega (arith, parts.0))),
  order_row a n (suc k),
)

-- a pair of numbers from k on
pairs_from : (n k : ℕ) (z : ℕ × ℕ) → In z (all_pairs (numbers n k)) → k ≤ z.0
unfolding numbers
pairs_from zero k z i = absurd (In_none i)
pairs_from (suc n) k z i = elim (In_append_cases (map (λ b. (k, b)) (numbers n (suc k))) (all_pairs (numbers n (suc k))) z i) [
  | inl a ↦ let w = In_map_cases (λ b. (k, b)) (numbers n (suc k)) z a in let same : z.0 ≡ k = ap (λ v. v.0) w.2 in omega (arith, same)
  | inr b ↦ let l = pairs_from n (suc k) z b in omega (arith, l)
]

pairs_apart : (n k : ℕ) (z : ℕ × ℕ) → In z (all_pairs (numbers n k)) → z.0 < z.1
unfolding numbers
pairs_apart zero k z i = absurd (In_none i)
pairs_apart (suc n) k z i = elim (In_append_cases (map (λ b. (k, b)) (numbers n (suc k))) (all_pairs (numbers n (suc k))) z i) [
  | inl a ↦
      let w = In_map_cases (λ b. (k, b)) (numbers n (suc k)) z a in
      let parts = numbers_parts n (suc k) w.0 w.1 in
      let first : z.0 ≡ k = ap (λ v. v.0) w.2 in
      let second : z.1 ≡ w.0 = ap (λ v. v.1) w.2 in
      omega (arith, first, second, parts.0)
  | inr b ↦ pairs_apart n (suc k) z b
]

order_pairs : (n k : ℕ) → InOrder (all_pairs (numbers n k))
unfolding numbers
order_pairs zero k = tt
order_pairs (suc n) k =
    order_append (map (λ b. (k, b)) (numbers n (suc k))) (all_pairs (numbers n (suc k))) (order_row k n (suc k)) (order_pairs n (suc k))
    (λ x y i j.
    let w = In_map_cases (λ b. (k, b)) (numbers n (suc k)) x i in
    let same : x.0 ≡ k = ap (λ v. v.0) w.2 in
    let l = pairs_from n (suc k) y j in
    inl (omega (arith, same, l)))

-- the first pair that passes stands before the others
first_found : (p : ℕ × ℕ → Bool) (xs : List (ℕ × ℕ)) (y z : ℕ × ℕ) → InOrder xs → find p xs ≡ Some y → In z xs → p z ≡ true → Before y z
first_found p [] y z o e i h = absurd (In_none i)
first_found p (x ∷ xs) y z o e i h = elim (cases_Bool (p x)) [
  | inl t ↦ let same : x ≡ y = cc (rw t at e) in subst (λ v. Before v z) same (from (In_cases i))
  | inr f ↦ elim (In_cases i) [
    | inl same ↦ absurd (both_ways (p z) (ap p same ∙ f) h)
    | inr j ↦ first_found p xs y z o.1 (rw f at e) j h
  ]
]
  where
    from : (z ≡ x) ⊎ In z xs → Before x z
    from (inl same) = subst (λ v. Before x v) (sym same) (inr (refl, omega arith))
    from (inr j) = o.0 z j

-- where not all clauses are hit there is a first that is not
first_unhit : (I : NumSet) (cs : List (List ℕ)) → list_all (list_any I) cs ≡ false → (k : ℕ) × IsFirstUnhit cs I k
first_unhit I [] e = absurd (cc e)
first_unhit I (c ∷ cs) e = elim (cases_Bool (list_any I c)) [
  | inl t ↦ let w = first_unhit I cs (rw t at e) in (suc w.0, record { within = let l = w.1.within in omega (arith, l); unhit = w.1.unhit; before = earlier t w.0 w.1.before })
  | inr f ↦ (0, record { within = omega arith; unhit = λ h. both_ways (list_any I c) f (any_hit I c h); before = λ j l. absurd (omega (arith, l)) })
]
  where
    earlier : list_any I c ≡ true → (k : ℕ) → ((j : ℕ) → j < k → Hit (Is I) (slice_index_or cs j [])) → (j : ℕ) → j < suc k → Hit (Is I) (slice_index_or (c ∷ cs) j [])
    earlier t k f zero l = hit_any I c t
    earlier t k f (suc j) l = f j (omega (arith, l))

module _ (R : Repository) (I : NumSet) where
  -- a package of the set that is not unserved has its clauses hit
  served : (n : ℕ) → Is I n → is_unserved R I n ≡ false → Satisfied R (Is I) n
  served n i e c there_it_is = hit_any I c (all_at (list_any I) (clauses_of R n) (up (I n) (list_all (list_any I) (clauses_of R n)) i e) c there_it_is)
    where
      up : (a b : Bool) → a ≡ true → (a && not b) ≡ false → b ≡ true
      up true true h k = refl
      up true false h k = absurd cc
      up false b h k = absurd cc

  -- the state that the function gives
  pub state_there : SoundRepository R → OfPackages R I → IsStateOf R I (set_state R I)
  unfolding set_state
  state_there sound within = elim (cases_Option (find (is_unserved R I) (packages R))) [
    | inr some ↦ subst (IsStateOf R I) (sym (ap (by_unserved R I) some.1)) (unhit some.0 some.1)
    | inl none ↦ subst (IsStateOf R I) (sym (ap (by_unserved R I) none)) (peaceful (all_served none))
  ]
    where
      unhit : (n : ℕ) → find (is_unserved R I) (packages R) ≡ Some n → IsStateOf R I (own.Unhit n)
      unhit n e =
          let found = (find_some (is_unserved R I) (packages R) n e).1 in
          let chosen : Is I n = (and_parts (I n) (not (list_all (list_any I) (clauses_of R n))) found).0 in
          let w = first_unhit I (clauses_of R n) (not-true (list_all (list_any I) (clauses_of R n)) ((and_parts (I n) (not (list_all (list_any I) (clauses_of R n))) found).1)) in
          (w.0, record { chosen = chosen; clause = w.1; lesser = λ q l i. served q i (least_found (is_unserved R I) (length R.clauses) 0 n q e zero-le l) })

      all_served : find (is_unserved R I) (packages R) ≡ None → AllSatisfied R I
      all_served e n i = served n i (find_none (is_unserved R I) (packages R) e n (numbers_from (length R.clauses) 0 n zero-le (let l = within n i in omega (arith, l))))

      -- a conflict within the set is among the pairs
      listed : (m n : ℕ) → IsClash R.conflicts I m n → In (m, n) (conflicting_pairs R)
      listed m n c = filter_from (λ w. against R w.0 w.1) (all_pairs (packages R)) (m, n) (pairs_has (length R.clauses) 0 m n zero-le c.ordered (let l = within n c.second in omega (arith, l))) c.conflict

      clash : AllSatisfied R I → (w : ℕ × ℕ) → find (are_both I) (conflicting_pairs R) ≡ Some w → IsStateOf R I (own.Clash w.0 w.1)
      clash all w e =
          let found = find_some (are_both I) (conflicting_pairs R) w e in
          let pair = filter_cases (λ v. against R v.0 v.1) (all_pairs (packages R)) w found.0 in
          record {
            satisfied = all;
            clash = record {
              clash = record {
                ordered = pairs_apart (length R.clauses) 0 w pair.0;
                first = (and_parts (I w.0) (I w.1) found.1).0;
                second = (and_parts (I w.0) (I w.1) found.1).1;
                conflict = pair.1;
              };
              least = λ a b c.
                  first_found (are_both I) (conflicting_pairs R) w (a, b) (order_filter (λ v. against R v.0 v.1) (all_pairs (packages R)) (order_pairs (length R.clauses) 0)) e (listed a b c)
                  (and_from (I a) (I b) c.first c.second);
            };
          }

      no_clash : find (are_both I) (conflicting_pairs R) ≡ None → (m n : ℕ) → IsClash R.conflicts I m n → ⊥
      no_clash e m n c = both_ways (are_both I (m, n)) (find_none (are_both I) (conflicting_pairs R) e (m, n) (listed m n c)) (and_from (I m) (I n) c.first c.second)

      peace : find (are_both I) (conflicting_pairs R) ≡ None → (m n : ℕ) → Is I m → Is I n → against R m n ≡ false
      peace e m n i j = elim (cases_Bool (against R m n)) [
        | inr f ↦ f
        | inl t ↦ absurd (elim (cases_lt m n) [
          | inl l ↦ no_clash e m n record { ordered = l; first = i; second = j; conflict = t }
          | inr le ↦ elim (eq-or-lt_of_le le) [
            | inl same ↦ both_ways (against R m m) (sound.conflicts.apart m) (subst (λ k. against R m k ≡ true) same t)
            | inr l ↦ no_clash e n m record { ordered = l; first = j; second = i; conflict = sound.conflicts.either_way m n t }
          ]
        ])
      ]

      peaceful : AllSatisfied R I → IsStateOf R I (by_unserved R I None)
      peaceful all = elim (cases_Option (find (are_both I) (conflicting_pairs R))) [
        | inr some ↦ subst (λ o. IsStateOf R I (by_clash o)) (sym some.1) (clash all some.0 some.1)
        | inl none ↦ subst (λ o. IsStateOf R I (by_clash o)) (sym none) record { packages = within; abundance = all; peace = peace none }
      ]

  -- a package with a clause that is not hit is not served
  unserved : (n k : ℕ) → UnhitFirst R I n k → Satisfied R (Is I) n → ⊥
  unserved n k w all = w.clause.unhit (all (slice_index_or (clauses_of R n) k []) (In_at (clauses_of R n) k [] w.clause.within))

  -- one least package, and one first conflict
  one_unhit : (m n j k : ℕ) → UnhitFirst R I m j → UnhitFirst R I n k → m ≡ n
  one_unhit m n j k v w = elim (cases_lt m n) [
    | inl l ↦ absurd (unserved m j v (w.lesser m l v.chosen))
    | inr le ↦ elim (eq-or-lt_of_le le) [
      | inl same ↦ sym same
      | inr l ↦ absurd (unserved n k w (v.lesser n l w.chosen))
    ]
  ]

  one_pair : (a b c d : ℕ) → (a < c) ⊎ ((a ≡ c) × (b ≤ d)) → (c < a) ⊎ ((c ≡ a) × (d ≤ b)) → own.Clash a b ≡ own.Clash c d
  one_pair a b c d (inl l) (inl m) = absurd (omega arith)
  one_pair a b c d (inl l) (inr m) = absurd (let e = m.0 in omega (arith, e))
  one_pair a b c d (inr l) (inl m) = absurd (let e = l.0 in omega (arith, e))
  one_pair a b c d (inr l) (inr m) = let p = l.1 in let q = m.1 in ap₂ (λ x y. own.Clash x y) l.0 (let e : b ≡ d = omega (arith, p, q) in e)

  -- a set has one state
  pub one_state : (s t : OwnState) → IsStateOf R I s → IsStateOf R I t → s ≡ t
  one_state own.Healthy own.Healthy v w = refl
  one_state own.Healthy (own.Unhit n) v w = absurd (unserved n w.0 w.1 (v.abundance n w.1.chosen))
  one_state own.Healthy (own.Clash m n) v w = absurd (both_ways (against R m n) (v.peace m n w.clash.clash.first w.clash.clash.second) w.clash.clash.conflict)
  one_state (own.Unhit n) own.Healthy v w = absurd (unserved n v.0 v.1 (w.abundance n v.1.chosen))
  one_state (own.Unhit m) (own.Unhit n) v w = ap (λ k. own.Unhit k) (one_unhit m n v.0 w.0 v.1 w.1)
  one_state (own.Unhit m) (own.Clash a b) v w = absurd (unserved m v.0 v.1 (w.satisfied m v.1.chosen))
  one_state (own.Clash m n) own.Healthy v w = absurd (both_ways (against R m n) (w.peace m n v.clash.clash.first v.clash.clash.second) v.clash.clash.conflict)
  one_state (own.Clash a b) (own.Unhit m) v w = absurd (unserved m w.0 w.1 (v.satisfied m w.1.chosen))
  one_state (own.Clash a b) (own.Clash c d) v w = one_pair a b c d (v.clash.least c d w.clash.clash) (w.clash.least a b v.clash.clash)

pub states_are_one : StatesAreOne
states_are_one R I state sound within =
    let there = state_there R I sound within in
    ((λ is. one_state R I state (set_state R I) is there), (λ same. subst (IsStateOf R I) (sym same) there))
