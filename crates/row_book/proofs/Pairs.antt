-- Pairs in order, and the lists of conflicts that they make.
use Rattle.std.proofs.Common.{◌≡◌, ◌≢◌, ℕ, zero, suc, ◌<◌, ◌≤◌, ◌+◌, Bool, true, false, ◌&&◌, ◌||◌, eqb, ltb, nat_cmp, cond, List, [], ◌∷◌, ◌++◌, length, map}
use Rattle.std.proofs.Common.{filter, take, Some, get_or, ◌⊎◌, inl, inr, refl, sym, ◌∙◌, ap, subst, eq-eqb, eqb-true, add-one, zero-add, arith}
use Rattle.std.proofs.lemmas.Bool.{or_cases, or_left, or_right, and_parts, and_from, cases_eq, cases_lt, both_ways, false≢true, ltb-false, eqb-false}
use Rattle.std.proofs.{lemmas.List.{ext_get_or, get_or_past, take_more}, lemmas.List.Elements.{All-from_get_or}}
use Rattle.std.proofs.lemmas.List.Sorted.{All-permutation, list_any-IsPermutation}
use Rattle.std.specs.{List.{slice_get, All}, List.Sorted.{IsPermutation}, Ordering.{is_lt, ordering_then}}
use Rattle.std.specs.declared.cmp.Ordering.TheVariants.{Less, Equal, Greater}
use Rattle.listed.proofs.Orders.{ascending_push, ascending_same, ascending_filter}
use Rattle.listed.proofs.Lists.{In_cases, In_none, In_at, In_has, has_In, has_not, any_from, any_cases, In_append_cases, In_append_left, In_append_right}
use Rattle.listed.proofs.Lists.{filter_from, filter_cases, in_take}
use Rattle.row_book.specs.{declared.pair.Pair.{Pair}, Numbers.{numbers}, Book.{listed_for, are_paired, lists_of_pairs, AreConflicts, PairsFit}}
use Rattle.row_book.specs.Pairs.{NoLater, Rising, is_last, with_last, Entered, ListsPairs}
use Rattle.listed.specs.Lists.{In, here, there, Ascending}
use Rattle.row_book.proofs.{Numbers.{numbers_from, numbers_parts, numbers_ascending, length_numbers, at_numbers}, Books.{in_listed}}

-- the order of pairs
no_later_from : (x y : Pair) → is_lt (ordering_then (nat_cmp y.low x.low) (nat_cmp y.high x.high)) ≡ false → NoLater x y
no_later_from x y h = pick (ltb y.low x.low) (eqb y.low x.low) (ltb y.high x.high) (eqb y.high x.high) refl refl refl h
  where
    pick : (a b c d : Bool) → ltb y.low x.low ≡ a → eqb y.low x.low ≡ b → ltb y.high x.high ≡ c → is_lt (ordering_then (cond a Less (cond b Equal Greater)) (cond c Less (cond d Equal Greater))) ≡ false → NoLater x y
    pick true b c d u v w h = absurd (false≢true (sym h))
    pick false true true d u v w h = absurd (false≢true (sym h))
    pick false true false d u v w h = inr (sym (eqb-true y.low x.low v), ltb-false y.high x.high w)
    pick false false c d u v w h =
        let le : x.low ≤ y.low = ltb-false y.low x.low u in
        let ne : y.low ≢ x.low = eqb-false y.low x.low v in
        inl (omega arith)

no_later_trans : (x y z : Pair) → NoLater x y → NoLater y z → NoLater x z
no_later_trans x y z (inl l) (inl m) = inl (omega arith)
no_later_trans x y z (inl l) (inr m) = let e : y.low ≡ z.low = m.0 in inl (omega arith)
no_later_trans x y z (inr l) (inl m) = let e : x.low ≡ y.low = l.0 in inl (omega arith)
no_later_trans x y z (inr l) (inr m) = inr (l.0 ∙ m.0, let a : x.high ≤ y.high = l.1 in let b : y.high ≤ z.high = m.1 in omega arith)

rising_from : (xs : List Pair) (d : Pair) → ((k : ℕ) → suc k < length xs → NoLater (get_or xs k d) (get_or xs (suc k) d)) → Rising xs
rising_from [] d f = tt
rising_from (x ∷ []) d f = ((λ y i. absurd (In_none i)), tt)
rising_from (x ∷ (y ∷ ys)) d f =
    let first : NoLater x y = f 0 (omega arith) in
    let rest : Rising (y ∷ ys) = rising_from (y ∷ ys) d (λ k l. f (suc k) (omega arith)) in (
      (λ z i. elim (In_cases i) [
        | inl e ↦ subst (λ w. NoLater x w) (sym e) first
        | inr j ↦ no_later_trans x y z first (rest.0 z j)
      ]),
      rest,
    )

abbrev no_pair : Pair
no_pair = record { low = 0; high = 0 }

pub rising_sorted : (xs : List Pair) →
    ((k : ℕ) (d : Pair) → 0 ≤ k → k + 1 < length xs → is_lt (ordering_then (nat_cmp (get_or xs (k + 1) d).low (get_or xs k d).low) (nat_cmp (get_or xs (k + 1) d).high (get_or xs k d).high)) ≡ false) →
    Rising xs
rising_sorted xs f =
    rising_from xs no_pair (λ k l. subst (λ n. NoLater (get_or xs k no_pair) (get_or xs n no_pair)) (add-one k)
    (no_later_from (get_or xs k no_pair) (get_or xs (k + 1) no_pair) (f k no_pair (omega arith) (omega arith))))

rising_at : (xs : List Pair) (d : Pair) → Rising xs → (i : ℕ) → i < length xs → (y : Pair) → In y (take i xs) → NoLater y (get_or xs i d)
rising_at [] d r i l y j = absurd (omega arith)
rising_at (x ∷ xs) d r zero l y j = absurd (In_none j)
rising_at (x ∷ xs) d r (suc i) l y j =
    elim (In_cases j) [
      | inl e ↦ subst (λ z. NoLater z (get_or xs i d)) (sym e) (r.0 (get_or xs i d) (In_at xs i d (omega arith)))
      | inr k ↦ rising_at xs d r.1 i (omega arith) y k
    ]

-- a list that ends in a number
pub is_last_at : (xs : List ℕ) (k x n : ℕ) → k + 1 ≡ length xs → Some x ≡ slice_get xs k → eqb x n ≡ is_last xs n
is_last_at [] k x n e s = absurd (omega arith)
is_last_at (y ∷ []) zero x n e s = let same : x ≡ y = cc in ap (λ z. eqb z n) same
is_last_at (y ∷ []) (suc k) x n e s = absurd (omega arith)
is_last_at (y ∷ (z ∷ zs)) zero x n e s = absurd (omega arith)
is_last_at (y ∷ (z ∷ zs)) (suc k) x n e s = is_last_at (z ∷ zs) k x n (omega arith) s

is_last_in : (xs : List ℕ) (n : ℕ) → is_last xs n ≡ true → In n xs
is_last_in [] n h = absurd (false≢true h)
is_last_in (x ∷ []) n h = subst (λ z. In n (z ∷ [])) (sym (eqb-true x n h)) here
is_last_in (x ∷ (y ∷ ys)) n h = there (is_last_in (y ∷ ys) n h)

last_of_all : (xs : List ℕ) (n : ℕ) → Ascending xs → ((q : ℕ) → In q xs → q ≤ n) → In n xs → is_last xs n ≡ true
last_of_all [] n a f i = absurd (In_none i)
last_of_all (x ∷ []) n a f i = elim (In_cases i) [ inl e ↦ eq-eqb x n (sym e) | inr j ↦ absurd (In_none j) ]
last_of_all (x ∷ (y ∷ ys)) n a f i =
    elim (In_cases i) [
      | inl e ↦ let l : x < y = a.0 y here in let m : y ≤ n = f y (there here) in absurd (omega arith)
      | inr j ↦ last_of_all (y ∷ ys) n a.1 (λ q k. f q (there k)) j
    ]

-- a number put behind a list
with_cases : (xs : List ℕ) (n q : ℕ) → In q (with_last xs n) → In q xs ⊎ (q ≡ n)
with_cases xs n q i = pick (is_last xs n) i
  where
    pick : (b : Bool) → In q (cond b xs (xs ++ n ∷ [])) → In q xs ⊎ (q ≡ n)
    pick true j = inl j
    pick false j = elim (In_append_cases xs (n ∷ []) q j) [
      | inl k ↦ inl k
      | inr k ↦ elim (In_cases k) [ inl e ↦ inr e | inr m ↦ absurd (In_none m) ]
    ]

with_old : (xs : List ℕ) (n q : ℕ) → In q xs → In q (with_last xs n)
with_old xs n q i = pick (is_last xs n)
  where
    pick : (b : Bool) → In q (cond b xs (xs ++ n ∷ []))
    pick true = i
    pick false = In_append_left xs (n ∷ []) q i

with_new : (xs : List ℕ) (n : ℕ) → In n (with_last xs n)
with_new xs n = pick (is_last xs n) refl
  where
    pick : (b : Bool) → is_last xs n ≡ b → In n (cond b xs (xs ++ n ∷ []))
    pick true e = is_last_in xs n e
    pick false e = In_append_right xs (n ∷ []) n here

with_ascending : (xs : List ℕ) (n : ℕ) → Ascending xs → ((q : ℕ) → In q xs → q ≤ n) → Ascending (with_last xs n)
with_ascending xs n a f = pick (is_last xs n) refl
  where
    pick : (b : Bool) → is_last xs n ≡ b → Ascending (cond b xs (xs ++ n ∷ []))
    pick true e = a
    pick false e = ascending_push xs n a (λ q i.
        let le : q ≤ n = f q i in
        let ne : q ≢ n = λ s. both_ways (is_last xs n) e (last_of_all xs n a f (subst (λ m. In m xs) s i)) in
        omega arith)

-- a pair of the two packages
abbrev IsOf : ℕ → ℕ → Pair → Type 0
IsOf p q pair = ((pair.low ≡ p) × (pair.high ≡ q)) ⊎ ((pair.low ≡ q) × (pair.high ≡ p))

abbrev pub is_of : ℕ → ℕ → Pair → Bool
is_of p q pair = (eqb pair.low p && eqb pair.high q) || (eqb pair.low q && eqb pair.high p)

both_from : (a b c d : ℕ) → a ≡ b → c ≡ d → (eqb a b && eqb c d) ≡ true
both_from a b c d e f = and_from (eqb a b) (eqb c d) (eq-eqb a b e) (eq-eqb c d f)

both_parts : (a b c d : ℕ) → (eqb a b && eqb c d) ≡ true → (a ≡ b) × (c ≡ d)
both_parts a b c d h =
    let w : (eqb a b ≡ true) × (eqb c d ≡ true) = and_parts (eqb a b) (eqb c d) h in
    (eqb-true a b w.0, eqb-true c d w.1)

paired_from : (pairs : List Pair) (p q : ℕ) (pair : Pair) → In pair pairs → IsOf p q pair → are_paired pairs p q ≡ true
paired_from pairs p q pair i (inl w) =
    any_from (is_of p q) pairs pair i (or_left (eqb pair.low p && eqb pair.high q) (eqb pair.low q && eqb pair.high p) (both_from pair.low p pair.high q w.0 w.1))
paired_from pairs p q pair i (inr w) =
    any_from (is_of p q) pairs pair i (or_right (eqb pair.low p && eqb pair.high q) (eqb pair.low q && eqb pair.high p) (both_from pair.low q pair.high p w.0 w.1))

pub paired_cases : (pairs : List Pair) (p q : ℕ) → are_paired pairs p q ≡ true → (pair : Pair) × In pair pairs × IsOf p q pair
paired_cases pairs p q h =
    let w : (pair : Pair) × In pair pairs × (is_of p q pair ≡ true) = any_cases (is_of p q) pairs h in (
      w.0,
      w.1,
      elim (or_cases (eqb w.0.low p && eqb w.0.high q) (eqb w.0.low q && eqb w.0.high p) w.2) [
        | inl a ↦ inl (both_parts w.0.low p w.0.high q a)
        | inr b ↦ inr (both_parts w.0.low q w.0.high p b)
      ],
    )

-- one more pair, that no earlier one comes after
module _ (table new : List (List ℕ)) (size : ℕ) (pairs : List Pair) (pair : Pair)
    (lists : ListsPairs table size pairs) (entered : Entered table new pair.low pair.high) (lt : pair.low < pair.high)
    (each : (x : Pair) → In x pairs → x.low < x.high) (last : (x : Pair) → In x pairs → NoLater x pair) where
  earlier_paired : (p q : ℕ) → are_paired pairs p q ≡ true → are_paired (pairs ++ pair ∷ []) p q ≡ true
  earlier_paired p q h =
      let w : (x : Pair) × In x pairs × IsOf p q x = paired_cases pairs p q h in
      paired_from (pairs ++ pair ∷ []) p q w.0 (In_append_left pairs (pair ∷ []) w.0 w.1) w.2

  now_paired : (p q : ℕ) → IsOf p q pair → are_paired (pairs ++ pair ∷ []) p q ≡ true
  now_paired p q o = paired_from (pairs ++ pair ∷ []) p q pair (In_append_right pairs (pair ∷ []) pair here) o

  high_bound : (q : ℕ) → In q (listed_for table pair.high) → q ≤ pair.low
  high_bound q i =
      let w : (x : Pair) × In x pairs × IsOf pair.high q x = paired_cases pairs pair.high q (lists.only pair.high q i) in
      bound w.0 w.2 (last w.0 w.1)
    where
      bound : (x : Pair) → IsOf pair.high q x → NoLater x pair → q ≤ pair.low
      bound x (inl o) (inl l) = let e : x.low ≡ pair.high = o.0 in absurd (omega arith)
      bound x (inl o) (inr l) = let e : x.low ≡ pair.high = o.0 in let f : x.low ≡ pair.low = l.0 in absurd (omega arith)
      bound x (inr o) (inl l) = let e : x.low ≡ q = o.0 in omega arith
      bound x (inr o) (inr l) = let e : x.low ≡ q = o.0 in let f : x.low ≡ pair.low = l.0 in omega arith

  low_bound : (q : ℕ) → In q (listed_for table pair.low) → q ≤ pair.high
  low_bound q i =
      let w : (x : Pair) × In x pairs × IsOf pair.low q x = paired_cases pairs pair.low q (lists.only pair.low q i) in
      bound w.0 (each w.0 w.1) w.2 (last w.0 w.1)
    where
      bound : (x : Pair) → x.low < x.high → IsOf pair.low q x → NoLater x pair → q ≤ pair.high
      bound x up (inl o) (inl l) = let e : x.low ≡ pair.low = o.0 in absurd (omega arith)
      bound x up (inl o) (inr l) = let e : x.high ≡ q = o.1 in let f : x.high ≤ pair.high = l.1 in omega arith
      bound x up (inr o) n = let e : x.low ≡ q = o.0 in let f : x.high ≡ pair.low = o.1 in omega arith

  grown : (p q : ℕ) → In q (listed_for table p) → In q (listed_for new p)
  grown p q i =
      elim (cases_eq p pair.low) [
        | inl e ↦ subst (λ k. In q (listed_for new k)) (sym e) (subst (λ xs. In q xs) (sym entered.low) (with_old (listed_for table pair.low) pair.high q (subst (λ k. In q (listed_for table k)) e i)))
        | inr n ↦ elim (cases_eq p pair.high) [
          | inl e ↦ subst (λ k. In q (listed_for new k)) (sym e) (subst (λ xs. In q xs) (sym entered.high) (with_old (listed_for table pair.high) pair.low q (subst (λ k. In q (listed_for table k)) e i)))
          | inr m ↦ subst (λ xs. In q xs) (sym (entered.other p n m)) i
        ]
      ]

  pub lists_more : ListsPairs new size (pairs ++ pair ∷ [])
  lists_more = record {
    count = entered.count ∙ lists.count;
    ascending = λ p. elim (cases_eq p pair.low) [
      | inl e ↦ subst (λ k. Ascending (listed_for new k)) (sym e) (subst (λ xs. Ascending xs) (sym entered.low) (with_ascending (listed_for table pair.low) pair.high (lists.ascending pair.low) low_bound))
      | inr n ↦ elim (cases_eq p pair.high) [
        | inl e ↦ subst (λ k. Ascending (listed_for new k)) (sym e) (subst (λ xs. Ascending xs) (sym entered.high) (with_ascending (listed_for table pair.high) pair.low (lists.ascending pair.high) high_bound))
        | inr m ↦ subst (λ xs. Ascending xs) (sym (entered.other p n m)) (lists.ascending p)
      ]
    ];
    has_all = λ p q h.
        let w : (x : Pair) × In x (pairs ++ pair ∷ []) × IsOf p q x = paired_cases (pairs ++ pair ∷ []) p q h in
        elim (In_append_cases pairs (pair ∷ []) w.0 w.1) [
          | inl i ↦ grown p q (lists.has_all p q (paired_from pairs p q w.0 i w.2))
          | inr i ↦ elim (In_cases i) [
            | inl e ↦ both p q (subst (λ x. IsOf p q x) e w.2)
            | inr j ↦ absurd (In_none j)
          ]
        ];
    only = λ p q i. elim (cases_eq p pair.low) [
      | inl e ↦ elim (with_cases (listed_for table pair.low) pair.high q (subst (λ xs. In q xs) entered.low (subst (λ k. In q (listed_for new k)) e i))) [
        | inl j ↦ earlier_paired p q (lists.only p q (subst (λ k. In q (listed_for table k)) (sym e) j))
        | inr f ↦ now_paired p q (inl (sym e, sym f))
      ]
      | inr n ↦ elim (cases_eq p pair.high) [
        | inl e ↦ elim (with_cases (listed_for table pair.high) pair.low q (subst (λ xs. In q xs) entered.high (subst (λ k. In q (listed_for new k)) e i))) [
          | inl j ↦ earlier_paired p q (lists.only p q (subst (λ k. In q (listed_for table k)) (sym e) j))
          | inr f ↦ now_paired p q (inr (sym f, sym e))
        ]
        | inr m ↦ earlier_paired p q (lists.only p q (subst (λ xs. In q xs) (entered.other p n m) i))
      ]
    ];
  }
    where
      both : (p q : ℕ) → IsOf p q pair → In q (listed_for new p)
      both p q (inl o) =
          subst (λ k. In q (listed_for new k)) o.0 (subst (λ k. In k (listed_for new pair.low)) o.1
          (subst (λ xs. In pair.high xs) (sym entered.low) (with_new (listed_for table pair.low) pair.high)))
      both p q (inr o) =
          subst (λ k. In q (listed_for new k)) o.1 (subst (λ k. In k (listed_for new pair.high)) o.0
          (subst (λ xs. In pair.low xs) (sym entered.high) (with_new (listed_for table pair.high) pair.low)))

-- a step of the loop over the pairs
pub lists_step : (table new : List (List ℕ)) (size : ℕ) (pairs : List Pair) (i : ℕ) (d : Pair) → i < length pairs → Rising pairs → PairsFit pairs size →
    ListsPairs table size (take i pairs) → Entered table new (get_or pairs i d).low (get_or pairs i d).high → ListsPairs new size (take (i + 1) pairs)
lists_step table new size pairs i d l up fit lists entered =
    subst (λ ps. ListsPairs new size ps) (sym (take_more pairs i d l))
    (lists_more table new size (take i pairs) (get_or pairs i d) lists entered (fit.ordered (get_or pairs i d) (In_at pairs i d l))
    (λ x j. fit.ordered x (in_take pairs i x j)) (λ x j. rising_at pairs d up i l x j))

-- pairs in another order
pub in_permuted : (xs ys : List Pair) → IsPermutation xs ys → (P : Pair → Type 0) → ((x : Pair) → In x xs → P x) → (y : Pair) → In y ys → P y
in_permuted xs ys same P f y i =
    let all : All P ys = All-permutation P xs ys same (All-from_get_or P xs no_pair (λ k l. f (get_or xs k no_pair) (In_at xs k no_pair l))) in
    at ys y i all
  where
    at : (zs : List Pair) (z : Pair) → In z zs → All P zs → P z
    at [] z j a = absurd (In_none j)
    at (w ∷ zs) z j a = elim (In_cases j) [
      | inl e ↦ subst P (sym e) (a 0 no_pair (omega arith))
      | inr k ↦ at zs z k (λ n d l. a (suc n) d (omega arith))
    ]

pub fit_permuted : (xs ys : List Pair) (size : ℕ) → IsPermutation xs ys → PairsFit xs size → PairsFit ys size
fit_permuted xs ys size same fit = record {
  ordered = in_permuted xs ys same (λ pair. pair.low < pair.high) fit.ordered;
  below = in_permuted xs ys same (λ pair. pair.high < size) fit.below;
}

-- a table that has the conflicts of the pairs is the table of the pairs
pub lists_all : (table : List (List ℕ)) (size : ℕ) (xs ys : List Pair) → IsPermutation xs ys → PairsFit xs size → ListsPairs table size ys → table ≡ lists_of_pairs xs size
unfolding lists_of_pairs
lists_all table size xs ys same fit lists =
    let wanted : ℕ → List ℕ = λ p. filter (are_paired xs p) (numbers size 0) in
    ext_get_or [] table (map wanted (numbers size 0)) (lists.count ∙ sym (length_numbers wanted size 0)) (λ p l.
    let within : p < size = subst (λ n. p < n) lists.count l in
    let as_before : (q : ℕ) → are_paired xs p q ≡ are_paired ys p q = λ q. list_any-IsPermutation (is_of p q) xs ys same in
    let here_too : listed_for table p ≡ wanted p =
    ascending_same (listed_for table p) (wanted p) (lists.ascending p) (ascending_filter (are_paired xs p) (numbers size 0) (numbers_ascending size 0))
    (λ q i.
    let h : are_paired xs p q ≡ true = as_before q ∙ lists.only p q i in
    let w : (pair : Pair) × In pair xs × IsOf p q pair = paired_cases xs p q h in
    filter_from (are_paired xs p) (numbers size 0) q
    (numbers_from size 0 q (omega arith) (below_size w.0 q p (fit.ordered w.0 w.1) (fit.below w.0 w.1) w.2)) h)
    (λ q i. lists.has_all p q (sym (as_before q) ∙ (filter_cases (are_paired xs p) (numbers size 0) q i).1)) in
    here_too ∙ ap wanted (sym (zero-add p)) ∙ sym (at_numbers wanted [] size 0 p within))
  where
    below_size : (pair : Pair) (q p : ℕ) → pair.low < pair.high → pair.high < size → IsOf p q pair → q < 0 + size
    below_size pair q p l b (inl o) = let e : pair.high ≡ q = o.1 in omega arith
    below_size pair q p l b (inr o) = let e : pair.low ≡ q = o.0 in omega arith

pub length_pairs : (pairs : List Pair) (size : ℕ) → length (lists_of_pairs pairs size) ≡ size
unfolding lists_of_pairs
length_pairs pairs size = length_numbers (λ p. filter (are_paired pairs p) (numbers size 0)) size 0

pub at_pairs : (pairs : List Pair) (size p : ℕ) → p < size → listed_for (lists_of_pairs pairs size) p ≡ filter (are_paired pairs p) (numbers size 0)
unfolding lists_of_pairs
at_pairs pairs size p l =
    at_numbers (λ k. filter (are_paired pairs k) (numbers size 0)) [] size 0 p l ∙ ap (λ k. filter (are_paired pairs k) (numbers size 0)) (zero-add p)

-- each list of the pairs is ascending, either way round, and without the package itself
module _ (pairs : List Pair) (size : ℕ) (fit : PairsFit pairs size) where
  parts : (p q : ℕ) → In q (listed_for (lists_of_pairs pairs size) p) → (p < size) × (q < size) × (are_paired pairs p q ≡ true)
  parts p q i =
      let l : p < size = subst (λ n. p < n) (length_pairs pairs size) (in_listed (lists_of_pairs pairs size) p q i) in
      let w : In q (numbers size 0) × (are_paired pairs p q ≡ true) = filter_cases (are_paired pairs p) (numbers size 0) q (subst (λ xs. In q xs) (at_pairs pairs size p l) i) in
      let b : (0 ≤ q) × (q < 0 + size) = numbers_parts size 0 q w.0 in
      (l, omega arith, w.1)

  turned : (p q : ℕ) → In q (listed_for (lists_of_pairs pairs size) p) → In p (listed_for (lists_of_pairs pairs size) q)
  turned p q i =
      let w : (p < size) × (q < size) × (are_paired pairs p q ≡ true) = parts p q i in
      let x : (pair : Pair) × In pair pairs × IsOf p q pair = paired_cases pairs p q w.2 in
      let back : are_paired pairs q p ≡ true = paired_from pairs q p x.0 x.1 (elim x.2 [ inl o ↦ inr o | inr o ↦ inl o ]) in
      subst (λ xs. In p xs) (sym (at_pairs pairs size q w.1))
      (filter_from (are_paired pairs q) (numbers size 0) p (numbers_from size 0 p (omega arith) (let l : p < size = w.0 in omega arith)) back)

  alone : (p : ℕ) → In p (listed_for (lists_of_pairs pairs size) p) → ⊥
  alone p i =
      let x : (pair : Pair) × In pair pairs × IsOf p p pair = paired_cases pairs p p (parts p p i).2 in
      let l : x.0.low < x.0.high = fit.ordered x.0 x.1 in
      elim x.2 [
        | inl o ↦ let e : x.0.low ≡ p = o.0 in let f : x.0.high ≡ p = o.1 in omega arith
        | inr o ↦ let e : x.0.low ≡ p = o.0 in let f : x.0.high ≡ p = o.1 in omega arith
      ]

  pub pairs_conflict : AreConflicts (lists_of_pairs pairs size)
  pairs_conflict = record {
    ascending = λ p. elim (cases_lt p size) [
      | inl l ↦ subst (λ xs. Ascending xs) (sym (at_pairs pairs size p l)) (ascending_filter (are_paired pairs p) (numbers size 0) (numbers_ascending size 0))
      | inr g ↦ subst (λ xs. Ascending xs) (sym (get_or_past (lists_of_pairs pairs size) p [] (let e : length (lists_of_pairs pairs size) ≡ size = length_pairs pairs size in omega arith))) tt
    ];
    either_way = λ p q h. In_has (turned p q (has_In (listed_for (lists_of_pairs pairs size) p) q h));
    apart = λ p. has_not (listed_for (lists_of_pairs pairs size) p) p (alone p);
  }

pub fit_more : (x : Pair) (xs : List Pair) (size : ℕ) → x.low < x.high → x.high < size → PairsFit xs size → PairsFit (x ∷ xs) size
fit_more x xs size l b fit = record {
  ordered = λ pair i. elim (In_cases i) [ inl e ↦ subst (λ y. y.low < y.high) (sym e) l | inr j ↦ fit.ordered pair j ];
  below = λ pair i. elim (In_cases i) [ inl e ↦ subst (λ y. y.high < size) (sym e) b | inr j ↦ fit.below pair j ];
}
