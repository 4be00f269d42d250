-- The pairs that are found package by package are those of the packages that conflict.
use Rattle.std.proofs.Common.{◌≡◌, ◌≢◌, ℕ, zero, suc, ◌+◌, ◌<◌, ◌≤◌, ◌++◌, ◌⊎◌, Bool, true, ◌&&◌, ◌||◌, eqb, List, [], ◌∷◌, length, get_or, map, filter, take}
use Rattle.std.proofs.Common.{inl, inr, refl, sym, ap, ap₂, subst, ◌∙◌, eq-eqb, eqb-true, arith}
use Rattle.std.specs.Prelude.{max, min}
use Rattle.std.specs.Cmp.{both_ways as bool_same}
use Rattle.std.specs.{List.{range_with_len}, Str.{bytes_eq}}
use Rattle.std.proofs.lemmas.Bool.{and_from, and_parts, cases_lt, or_cases, or_left, or_right}
use Rattle.std.proofs.{Math.Nat.{min-eq_left, min-eq_right, max-eq_left, max-eq_right}, lemmas.List.{get_or-take, length-take, take_more}}
use Rattle.relation_fields.specs.{Meeting.{meets}, declared.packages.Home.{Home}, declared.packages.PackageFacts.{PackageFacts}, declared.relations.Atom.{Atom}}
use Rattle.row_book.specs.{Book.{are_paired, lists_of_pairs, PairsFit}, Numbers.{numbers}, declared.pair.Pair.{Pair}}
use Rattle.listed.specs.Lists.{In, here}
use Rattle.listed.proofs.Lists.{any_cases, any_from, In_append_cases, In_append_left, In_append_right, In_cases, In_none, filter_same}
use Rattle.row_book.proofs.{Numbers.{map_same}, Pairs.{is_of}}
use Rattle.repo_model.specs.{Meeting.{meeting}, Pairs.{is_named, pair_of, Adds, IsAgainst, IsFound, IsPairWithEarlier, IsPairWith}}
use Rattle.repo_model.specs.{Repository.{in_conflict, packages_of, conflicting_with, stands_against}, Stanzas.{no_stanza, stanza_at}}
use Rattle.repo_model.proofs.{Chosen.{number_cases, number_from}, Elements.{range_cases}, Form.{conflict_back, same_name}}
use Rattle.repo_model.proofs.Packages.{conflict_by_first, conflict_by_name, conflict_cases}

-- the first elements and the next one
module _ {A : Type 0} (xs : List A) (i : ℕ) (x : A) (within : i < length xs) (is : x ≡ get_or xs i x) where
  pub next_is : take (i + 1) xs ≡ take i xs ++ x ∷ []
  next_is = take_more xs i x within ∙ ap (λ y. take i xs ++ y ∷ []) (sym is)

  pub next_cases : (y : A) → In y (take (i + 1) xs) → In y (take i xs) ⊎ (y ≡ x)
  next_cases y j =
      elim (In_append_cases (take i xs) (x ∷ []) y (subst (λ ys. In y ys) next_is j)) [
        | inl k ↦ inl k
        | inr k ↦ elim (In_cases k) [ inl e ↦ inr e | inr l ↦ absurd (In_none l) ]
      ]

  pub next_old : (y : A) → In y (take i xs) → In y (take (i + 1) xs)
  next_old y j = subst (λ ys. In y ys) (sym next_is) (In_append_left (take i xs) (x ∷ []) y j)

  pub next_new : In x (take (i + 1) xs)
  next_new = subst (λ ys. In x ys) (sym next_is) (In_append_right (take i xs) (x ∷ []) x here)

-- pairs of one kind behind pairs of another
pub adds_none : (kind : Pair → Type 0) (pairs : List Pair) → ((pair : Pair) → kind pair → ⊥) → Adds kind pairs pairs
adds_none kind pairs none pair = ((λ i. inl i), (λ o. elim o [ inl i ↦ i | inr k ↦ absurd (none pair k) ]))

pub adds_more : (first second both : Pair → Type 0) (old mid new : List Pair) → ((pair : Pair) → both pair → first pair ⊎ second pair) → ((pair : Pair) → first pair → both pair) →
    ((pair : Pair) → second pair → both pair) → Adds first old mid → Adds second mid new → Adds both old new
adds_more first second both old mid new parts left right f s pair = (
  (λ i. elim ((s pair).0 i) [
    | inl j ↦ elim ((f pair).0 j) [ inl k ↦ inl k | inr k ↦ inr (left pair k) ]
    | inr k ↦ inr (right pair k)
  ]),
  (λ o. elim o [
    | inl i ↦ (s pair).1 (inl ((f pair).1 (inl i)))
    | inr b ↦ elim (parts pair b) [
      | inl k ↦ (s pair).1 (inl ((f pair).1 (inr k)))
      | inr k ↦ (s pair).1 (inr k)
    ]
  ]),
)

pub adds_push : (old new : List Pair) (pushed : Pair) → new ≡ old ++ pushed ∷ [] → Adds (λ pair. pair ≡ pushed) old new
adds_push old new pushed is pair = (
  (λ i. elim (In_append_cases old (pushed ∷ []) pair (subst (λ ps. In pair ps) is i)) [
    | inl j ↦ inl j
    | inr j ↦ elim (In_cases j) [ inl e ↦ inr e | inr k ↦ absurd (In_none k) ]
  ]),
  (λ o. subst (λ ps. In pair ps) (sym is) (elim o [
    | inl i ↦ In_append_left old (pushed ∷ []) pair i
    | inr e ↦ In_append_right old (pushed ∷ []) pair (subst (λ p. In p (pushed ∷ [])) (sym e) here)
  ])),
)

-- pairs with one more package, and where that is the package itself
module _ (number : ℕ) (others : List ℕ) (i other : ℕ) (within : i < length others) (at : other ≡ get_or others i other) (old mid : List Pair) (had : Adds (IsPairWith number (take i others)) old mid) where
  with_old : (pair : Pair) → IsPairWith number (take i others) pair → IsPairWith number (take (i + 1) others) pair
  with_old pair p = record { other = p.other; inside = next_old others i other within at p.other p.inside; apart = p.apart; is = p.is }

  pub with_pushed : (new : List Pair) → other ≢ number → new ≡ mid ++ pair_of number other ∷ [] → Adds (IsPairWith number (take (i + 1) others)) old new
  with_pushed new apart pushed =
      adds_more (IsPairWith number (take i others)) (λ pair. pair ≡ pair_of number other) (IsPairWith number (take (i + 1) others)) old mid new
      (λ pair p. elim (next_cases others i other within at p.other p.inside) [
        | inl j ↦ inl (record { other = p.other; inside = j; apart = p.apart; is = p.is })
        | inr e ↦ inr (p.is ∙ ap (pair_of number) e)
      ])
      with_old
      (λ pair e. record { other = other; inside = next_new others i other within at; apart = apart; is = e })
      had (adds_push mid new (pair_of number other) pushed)

  pub with_left : other ≡ number → Adds (IsPairWith number (take (i + 1) others)) old mid
  with_left same =
      adds_more (IsPairWith number (take i others)) (λ pair. ⊥) (IsPairWith number (take (i + 1) others)) old mid mid
      (λ pair p. elim (next_cases others i other within at p.other p.inside) [
        | inl j ↦ inl (record { other = p.other; inside = j; apart = p.apart; is = p.is })
        | inr e ↦ absurd (p.apart (e ∙ same))
      ])
      with_old (λ pair f. absurd f) had (adds_none (λ pair. ⊥) mid (λ pair f. f))

-- two numbers are the lesser and the greater of them, or the other way round
abbrev AreTurned : ℕ → ℕ → ℕ → ℕ → Type 0
AreTurned m n p q = ((m ≡ p) × (n ≡ q)) ⊎ ((m ≡ q) × (n ≡ p))

sorted_two : (m n : ℕ) → AreTurned (min m n) (max m n) m n
sorted_two m n =
    elim (cases_lt m n) [
      | inl l ↦ let k : m ≤ n = omega arith in inl (min-eq_left k, max-eq_right k)
      | inr g ↦ inr (min-eq_right g, max-eq_left g)
    ]

two_apart : (m n : ℕ) → n ≢ m → min m n < max m n
two_apart m n apart =
    elim (cases_lt m n) [
      | inl l ↦ let k : m ≤ n = omega arith in let a : min m n ≡ m = min-eq_left k in let b : max m n ≡ n = max-eq_right k in omega arith
      | inr g ↦ let a : min m n ≡ n = min-eq_right g in let b : max m n ≡ m = max-eq_left g in omega (arith, apart)
    ]

two_below : (m n k : ℕ) → m < k → n < k → max m n < k
two_below m n k l r = elim (sorted_two m n) [ inl w ↦ subst (λ z. z < k) (sym w.1) r | inr w ↦ subst (λ z. z < k) (sym w.1) l ]

numbers_range : (n k : ℕ) → numbers n k ≡ range_with_len k n
unfolding numbers
numbers_range zero k = refl
numbers_range (suc n) k = ap (λ ns. k ∷ ns) (numbers_range n (suc k) ∙ ap (λ m. range_with_len m n) (omega arith))

-- a pair of two packages is of them either way round
named_two : (low high p q : ℕ) → AreTurned low high p q → ((eqb low p && eqb high q) || (eqb low q && eqb high p)) ≡ true
named_two low high p q (inl w) = or_left (eqb low p && eqb high q) (eqb low q && eqb high p) (and_from (eqb low p) (eqb high q) (eq-eqb low p w.0) (eq-eqb high q w.1))
named_two low high p q (inr w) = or_right (eqb low p && eqb high q) (eqb low q && eqb high p) (and_from (eqb low q) (eqb high p) (eq-eqb low q w.0) (eq-eqb high p w.1))

two_named : (low high p q : ℕ) → ((eqb low p && eqb high q) || (eqb low q && eqb high p)) ≡ true → AreTurned low high p q
two_named low high p q h =
    elim (or_cases (eqb low p && eqb high q) (eqb low q && eqb high p) h) [
      | inl a ↦ let w : (eqb low p ≡ true) × (eqb high q ≡ true) = and_parts (eqb low p) (eqb high q) a in inl (eqb-true low p w.0, eqb-true high q w.1)
      | inr a ↦ let w : (eqb low q ≡ true) × (eqb high p ≡ true) = and_parts (eqb low q) (eqb high p) a in inr (eqb-true low q w.0, eqb-true high p w.1)
    ]

turned_on : (a b m n p q : ℕ) → AreTurned a b m n → AreTurned m n p q → AreTurned a b p q
turned_on a b m n p q (inl v) (inl w) = inl (v.0 ∙ w.0, v.1 ∙ w.1)
turned_on a b m n p q (inl v) (inr w) = inr (v.0 ∙ w.0, v.1 ∙ w.1)
turned_on a b m n p q (inr v) (inl w) = inr (v.0 ∙ w.1, v.1 ∙ w.0)
turned_on a b m n p q (inr v) (inr w) = inl (v.0 ∙ w.1, v.1 ∙ w.0)

turned_back : (a b m n : ℕ) → AreTurned a b m n → AreTurned m n a b
turned_back a b m n (inl w) = inl (sym w.0, sym w.1)
turned_back a b m n (inr w) = inr (sym w.1, sym w.0)

of_two : (m n p q : ℕ) → AreTurned m n p q → is_of p q (pair_of m n) ≡ true
of_two m n p q either = named_two (min m n) (max m n) p q (turned_on (min m n) (max m n) m n p q (sorted_two m n) either)

two_of : (m n p q : ℕ) → is_of p q (pair_of m n) ≡ true → AreTurned m n p q
two_of m n p q h = turned_on m n (min m n) (max m n) p q (turned_back (min m n) (max m n) m n (sorted_two m n)) (two_named (min m n) (max m n) p q h)

module _ (home : Home) (packages : List PackageFacts) where
  -- pairs with those that meet one more atom
  pub against_more : (number : ℕ) (atoms : List Atom) (i : ℕ) (atom : Atom) (old mid new : List Pair) → i < length atoms → atom ≡ get_or atoms i atom →
      Adds (IsAgainst home packages number (take i atoms)) old mid → Adds (IsPairWith number (meeting home packages atom)) mid new → Adds (IsAgainst home packages number (take (i + 1) atoms)) old new
  against_more number atoms i atom old mid new within at had found =
      adds_more (IsAgainst home packages number (take i atoms)) (IsPairWith number (meeting home packages atom)) (IsAgainst home packages number (take (i + 1) atoms)) old mid new
      (λ pair p. elim (next_cases atoms i atom within at p.atom p.inside) [
        | inl j ↦ inl (record { atom = p.atom; inside = j; found = p.found })
        | inr e ↦ inr (subst (λ a. IsPairWith number (meeting home packages a) pair) e p.found)
      ])
      (λ pair p. record { atom = p.atom; inside = next_old atoms i atom within at p.atom p.inside; found = p.found })
      (λ pair p. record { atom = atom; inside = next_new atoms i atom within at; found = p })
      had found

  -- pairs that are found from one more package
  pub found_none : (pair : Pair) → IsFound home packages 0 pair → ⊥
  found_none pair p = let l : p.number < 0 = p.below in omega arith

  pub found_more : (n : ℕ) (old mid named new : List Pair) → Adds (IsFound home packages n) old mid → Adds (IsPairWithEarlier packages n (stanza_at packages n).name) mid named →
      Adds (IsAgainst home packages n (stanza_at packages n).against) named new → Adds (IsFound home packages (n + 1)) old new
  found_more n old mid named new had by_name by_conflict =
      let here : Pair → Type 0 = λ pair. IsPairWithEarlier packages n (stanza_at packages n).name pair ⊎ IsAgainst home packages n (stanza_at packages n).against pair in
      adds_more (IsFound home packages n) here (IsFound home packages (n + 1)) old mid new
      (λ pair p. elim (cases_lt p.number n) [
        | inl l ↦ inl (record { number = p.number; below = l; found = p.found })
        | inr g ↦ let l : p.number < n + 1 = p.below in let e : p.number ≡ n = omega arith in
            inr (subst (λ m. IsPairWithEarlier packages m (stanza_at packages m).name pair ⊎ IsAgainst home packages m (stanza_at packages m).against pair) e p.found)
      ])
      (λ pair p. record { number = p.number; below = (let l : p.number < n = p.below in omega arith); found = p.found })
      (λ pair p. record { number = n; below = omega arith; found = p })
      had
      (adds_more (IsPairWithEarlier packages n (stanza_at packages n).name) (IsAgainst home packages n (stanza_at packages n).against) here mid named new
      (λ pair p. p) (λ pair p. inl p) (λ pair p. inr p) by_name by_conflict)

  -- a package before another one, among the first
  earlier_at : (n m : ℕ) → m < n → stanza_at (take n packages) m ≡ stanza_at packages m
  earlier_at n m l = get_or-take n packages m no_stanza l

  -- a pair that is found is of two packages that conflict
  record Conflicting (pair : Pair) : Type 0 where
    first : ℕ
    second : ℕ
    first_below : first < length packages
    second_below : second < length packages
    apart : second ≢ first
    is : pair ≡ pair_of first second
    conflict : in_conflict home packages first second ≡ true

  conflicting_found : (pair : Pair) → IsFound home packages (length packages) pair → Conflicting pair
  conflicting_found pair p =
      elim p.found [
        | inl named ↦
            let w : (named.other < length (take p.number packages)) × (is_named (stanza_at packages p.number).name (stanza_at (take p.number packages) named.other) ≡ true) =
            number_cases (is_named (stanza_at packages p.number).name) (take p.number packages) named.other named.inside in
            let l : p.number < length packages = p.below in
            let k : named.other < length (take p.number packages) = w.0 in
            let m : named.other < p.number = omega (arith, length-take p.number packages) in
            record {
              first = p.number;
              second = named.other;
              first_below = l;
              second_below = omega arith;
              apart = named.apart;
              is = named.is;
              conflict = conflict_by_name home packages p.number named.other (λ e. named.apart (sym e))
                  (ap (λ s. is_named (stanza_at packages p.number).name s) (sym (earlier_at p.number named.other m)) ∙ w.1);
            }
        | inr conflict ↦
            let test : PackageFacts → Bool = λ facts. meets conflict.atom facts home in
            let w : (conflict.found.other < length packages) × (test (stanza_at packages conflict.found.other) ≡ true) =
            number_cases test packages conflict.found.other conflict.found.inside in
            record {
              first = p.number;
              second = conflict.found.other;
              first_below = p.below;
              second_below = w.0;
              apart = conflict.found.apart;
              is = conflict.found.is;
              conflict = conflict_by_first home packages p.number conflict.found.other (λ e. conflict.found.apart (sym e))
                  (any_from (λ atom. meets atom (stanza_at packages conflict.found.other) home) (stanza_at packages p.number).against conflict.atom conflict.inside w.1);
            }
      ]

  module _ (pairs : List Pair) (all : Adds (IsFound home packages (length packages)) [] pairs) where
    conflicting_of : (pair : Pair) → In pair pairs → Conflicting pair
    conflicting_of pair i = elim ((all pair).0 i) [ inl j ↦ absurd (In_none j) | inr p ↦ conflicting_found pair p ]

    pub pairs_fit : PairsFit pairs (length packages)
    pairs_fit = record {
      ordered = λ pair i. let r : Conflicting pair = conflicting_of pair i in
          let apart : r.second ≢ r.first = r.apart in
          subst (λ p. p.low < p.high) (sym r.is) (two_apart r.first r.second apart);
      below = λ pair i. let r : Conflicting pair = conflicting_of pair i in
          subst (λ p. p.high < length packages) (sym r.is) (two_below r.first r.second (length packages) r.first_below r.second_below);
    }

    paired_conflict : (p q : ℕ) → are_paired pairs p q ≡ true → in_conflict home packages p q ≡ true
    paired_conflict p q h =
        let w : (pair : Pair) × In pair pairs × (is_of p q pair ≡ true) = any_cases (is_of p q) pairs h in
        let r : Conflicting w.0 = conflicting_of w.0 w.1 in
        elim (two_of r.first r.second p q (ap (is_of p q) (sym r.is) ∙ w.2)) [
          | inl e ↦ ap₂ (in_conflict home packages) (sym e.0) (sym e.1) ∙ r.conflict
          | inr e ↦ conflict_back home packages q p (ap₂ (in_conflict home packages) (sym e.0) (sym e.1) ∙ r.conflict)
        ]

    -- packages are paired where one is found from the other
    paired_from : (m n p q : ℕ) → ((m ≡ p) × (n ≡ q)) ⊎ ((m ≡ q) × (n ≡ p)) → IsFound home packages (length packages) (pair_of m n) → are_paired pairs p q ≡ true
    paired_from m n p q either found = any_from (is_of p q) pairs (pair_of m n) ((all (pair_of m n)).1 (inr found)) (of_two m n p q either)

    by_name : (m n : ℕ) → m < length packages → n < m → bytes_eq (stanza_at packages m).name (stanza_at packages n).name ≡ true → IsFound home packages (length packages) (pair_of m n)
    by_name m n l k e = record {
      number = m;
      below = l;
      found = inl (record {
        other = n;
        inside = number_from (is_named (stanza_at packages m).name) (take m packages) n (omega (arith, length-take m packages))
            (ap (λ s. is_named (stanza_at packages m).name s) (earlier_at m n k) ∙ e);
        apart = λ same. absurd (omega (arith, same));
        is = refl;
      });
    }

    by_conflict : (m n : ℕ) → m < length packages → n < length packages → n ≢ m → stands_against home (stanza_at packages m) (stanza_at packages n) ≡ true →
        IsFound home packages (length packages) (pair_of m n)
    by_conflict m n l k apart h =
        let w : (atom : Atom) × In atom (stanza_at packages m).against × (meets atom (stanza_at packages n) home ≡ true) =
        any_cases (λ atom. meets atom (stanza_at packages n) home) (stanza_at packages m).against h in
        record {
          number = m;
          below = l;
          found = inr (record {
            atom = w.0;
            inside = w.1;
            found = record { other = n; inside = number_from (λ facts. meets w.0 facts home) packages n k w.2; apart = apart; is = refl };
          });
        }

    conflict_paired : (p q : ℕ) → p < length packages → q < length packages → in_conflict home packages p q ≡ true → are_paired pairs p q ≡ true
    conflict_paired p q l k h =
        let w : (p ≢ q) × ((bytes_eq (stanza_at packages p).name (stanza_at packages q).name ≡ true) ⊎
        ((stands_against home (stanza_at packages p) (stanza_at packages q) ≡ true) ⊎ (stands_against home (stanza_at packages q) (stanza_at packages p) ≡ true))) =
        conflict_cases home packages p q h in
        let apart : p ≢ q = w.0 in
        elim w.1 [
          | inl e ↦ elim (cases_lt p q) [
            | inl m ↦ paired_from q p p q (inr (refl, refl)) (by_name q p k m (same_name (stanza_at packages p).name (stanza_at packages q).name e))
            | inr g ↦ paired_from p q p q (inl (refl, refl)) (by_name p q l (omega (arith, apart)) e)
          ]
          | inr o ↦ elim o [
            | inl f ↦ paired_from p q p q (inl (refl, refl)) (by_conflict p q l k (λ e. apart (sym e)) f)
            | inr g ↦ paired_from q p p q (inr (refl, refl)) (by_conflict q p k l apart g)
          ]
        ]

    pub pairs_conflict : (p q : ℕ) → p < length packages → q < length packages → are_paired pairs p q ≡ in_conflict home packages p q
    pairs_conflict p q l k = bool_same (are_paired pairs p q) (in_conflict home packages p q) (paired_conflict p q) (conflict_paired p q l k)

  -- the lists of such pairs are the conflicts of the packages
  pub lists_conflict : (pairs : List Pair) → ((p q : ℕ) → p < length packages → q < length packages → are_paired pairs p q ≡ in_conflict home packages p q) →
      lists_of_pairs pairs (length packages) ≡ map (conflicting_with home packages) (packages_of packages)
  unfolding lists_of_pairs
  lists_conflict pairs same =
      let range : numbers (length packages) 0 ≡ packages_of packages = numbers_range (length packages) 0 in
      let below : (p : ℕ) → In p (packages_of packages) → p < length packages = λ p i. let w : (0 ≤ p) × (p < 0 + length packages) = range_cases (length packages) 0 p i in omega arith in
      ap (λ ns. map (λ p. filter (are_paired pairs p) ns) ns) range
      ∙ map_same (λ p. filter (are_paired pairs p) (packages_of packages)) (conflicting_with home packages) (packages_of packages)
      (λ p i. filter_same (are_paired pairs p) (in_conflict home packages p) (packages_of packages) (λ q j. same p q (below p i) (below q j)))
