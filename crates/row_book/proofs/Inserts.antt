-- A number that is put into an ascending list or taken out of it.
use Rattle.std.proofs.Common.{◌≡◌, ℕ, zero, suc, ◌<◌, ◌≤◌, ◌-◌, Bool, true, false, not, eqb, List, [], ◌∷◌, inl, inr, sym, ◌∙◌, ap, ap₂, subst, arith, ◌&&◌}
use Rattle.std.proofs.Common.{◌||◌, length, take, drop, get_or, ne_eqb, eq-eqb, Result, Ok, Err, if◌then◌else◌}
use Rattle.std.proofs.{Math.Bool.{or_assoc, or_comm, or-false, and-true, and-false}, lemmas.Bool.{cases_eq, false≢true}, lemmas.List.Sorted.{searched}}
use Rattle.std.specs.{List.{insert, remove}, List.Sorted.{IsBinarySearchResult}, Ordering.{nat_cmp}, Result.{IsOk, is_ok}}
use Rattle.listed.proofs.Orders.{ascending_places, missed_not_there, ascending_same}
use Rattle.listed.proofs.Lists.{In_drop, In_cases, In_none, In_at, In_has, has_In, has_not, in_take, In_append_cases}
use Rattle.row_book.specs.{Sets.{NumSet, plus, without}, Uses.{IsListOf, IsPlaceOf}}
use Rattle.listed.specs.Lists.{In, here, there, has, Ascending}

-- a list is the only one of its set
pub listed_once : (S : NumSet) (xs ys : List ℕ) → IsListOf S xs → IsListOf S ys → xs ≡ ys
listed_once S xs ys a b =
    ascending_same xs ys a.ascending b.ascending
    (λ n i. has_In ys n (b.members n ∙ sym (a.members n) ∙ In_has i))
    (λ n i. has_In xs n (a.members n ∙ sym (b.members n) ∙ In_has i))

pub listed_as : (S T : NumSet) (xs : List ℕ) → ((m : ℕ) → S m ≡ T m) → IsListOf S xs → IsListOf T xs
listed_as S T xs e l = record { ascending = l.ascending; members = λ m. l.members m ∙ e m }

-- before a place and from it on
front_below : (xs : List ℕ) (i p : ℕ) → ((k : ℕ) → k < i → get_or xs k 0 < p) → i ≤ length xs → (y : ℕ) → In y (take i xs) → y < p
front_below xs zero p f l y j = absurd (In_none j)
front_below [] (suc i) p f l y j = absurd (In_none j)
front_below (x ∷ xs) (suc i) p f l y j =
    elim (In_cases j) [
      | inl e ↦ let h : x < p = f 0 (omega arith) in omega (arith, e)
      | inr r ↦ front_below xs i p (λ k u. f (suc k) (omega arith)) (omega arith) y r
    ]

rest_above : (xs : List ℕ) (i p : ℕ) → ((k : ℕ) → i ≤ k → k < length xs → p < get_or xs k 0) → (y : ℕ) → In y (drop i xs) → p < y
rest_above [] zero p f y j = absurd (In_none j)
rest_above (x ∷ xs) zero p f y j =
    elim (In_cases j) [
      | inl e ↦ let h : p < x = f 0 (omega arith) (omega arith) in omega (arith, e)
      | inr r ↦ rest_above xs zero p (λ k l u. f (suc k) (omega arith) (omega arith)) y r
    ]
rest_above [] (suc i) p f y j = absurd (In_none j)
rest_above (x ∷ xs) (suc i) p f y j = rest_above xs i p (λ k l u. f (suc k) (omega arith) (omega arith)) y j

-- a number between those below it and those above it
insert_ascends : (xs : List ℕ) (i p : ℕ) → Ascending xs → ((y : ℕ) → In y (take i xs) → y < p) → ((y : ℕ) → In y (drop i xs) → p < y) → Ascending (insert xs i p)
insert_ascends xs zero p a f g = (g, a)
insert_ascends [] (suc i) p a f g = (g, tt)
insert_ascends (x ∷ xs) (suc i) p a f g = (
  λ y j. elim (In_append_cases (take i xs) (p ∷ drop i xs) y j) [
    | inl l ↦ a.0 y (in_take xs i y l)
    | inr r ↦ elim (In_cases r) [
      | inl e ↦ let h : x < p = f x here in omega (arith, e)
      | inr d ↦ a.0 y (In_drop i xs y d)
    ]
  ],
  insert_ascends xs i p a.1 (λ y j. f y (there j)) g,
)

insert_has : (xs : List ℕ) (i p m : ℕ) → has (insert xs i p) m ≡ plus (has xs) p m
insert_has xs zero p m = or_comm (eqb m p) (has xs m)
insert_has [] (suc i) p m = or_comm (eqb m p) false
insert_has (x ∷ xs) (suc i) p m = ap (λ b. eqb m x || b) (insert_has xs i p m) ∙ sym (or_assoc (eqb m x) (has xs m) (eqb m p))

-- a number taken out of its place
remove_In : (xs : List ℕ) (i y : ℕ) → In y (remove xs i) → In y xs
remove_In xs i y j = elim (In_append_cases (take i xs) (drop (suc i) xs) y j) [ inl l ↦ in_take xs i y l | inr r ↦ In_drop (suc i) xs y r ]

remove_ascends : (xs : List ℕ) (i : ℕ) → Ascending xs → Ascending (remove xs i)
remove_ascends [] zero a = tt
remove_ascends (x ∷ xs) zero a = a.1
remove_ascends [] (suc i) a = tt
remove_ascends (x ∷ xs) (suc i) a = ((λ y j. a.0 y (remove_In xs i y j)), remove_ascends xs i a.1)

without_here : (xs : List ℕ) (x m : ℕ) → ((y : ℕ) → In y xs → x < y) → has xs m ≡ without (has (x ∷ xs)) x m
without_here xs x m a =
    elim (cases_eq m x) [
      | inl e ↦ has_not xs m (λ i. let h : x < m = a m i in omega (arith, e)) ∙ ap (λ b. (b || has xs m) && not b) (sym (eq-eqb m x e))
      | inr ne ↦ sym (and-true (has xs m)) ∙ ap (λ b. (b || has xs m) && not b) (sym (ne_eqb m x ne))
    ]

without_later : (x p m : ℕ) (b : Bool) → x < p → (eqb m x || (b && not (eqb m p))) ≡ ((eqb m x || b) && not (eqb m p))
without_later x p m b l =
    elim (cases_eq m x) [
      | inl e ↦ ap (λ c. c || (b && not (eqb m p))) (eq-eqb m x e)
          ∙ sym (ap₂ (λ c d. (c || b) && not d) (eq-eqb m x e) (ne_eqb m p (λ f. omega arith)))
      | inr ne ↦ ap (λ c. c || (b && not (eqb m p))) (ne_eqb m x ne) ∙ sym (ap (λ c. (c || b) && not (eqb m p)) (ne_eqb m x ne))
    ]

remove_has : (xs : List ℕ) (i p m : ℕ) → Ascending xs → i < length xs → get_or xs i 0 ≡ p → has (remove xs i) m ≡ without (has xs) p m
remove_has [] i p m a l e = absurd (omega arith)
remove_has (x ∷ xs) zero p m a l e = without_here xs x m a.0 ∙ ap (λ q. without (has (x ∷ xs)) q m) e
remove_has (x ∷ xs) (suc i) p m a l e =
    let u : x < p = subst (λ q. x < q) e (a.0 (get_or xs i 0) (In_at xs i 0 (omega arith))) in
    ap (λ b. eqb m x || b) (remove_has xs i p m a.1 (omega arith) e) ∙ without_later x p m (has xs m) u

-- what a search for a number in an ascending list says, and what an insert or a removal then leaves
pub search_place : (xs : List ℕ) (p : ℕ) (r : Result ℕ ℕ) → IsBinarySearchResult (λ y. nat_cmp y p) xs r → Ascending xs → IsPlaceOf xs p r
search_place xs p (Ok i) s a = searched xs p (Ok i) s (ascending_places xs a)
search_place xs p (Err i) s a = searched xs p (Err i) s (ascending_places xs a)

-- all are below one that is greater than the last
pub place_behind : (xs : List ℕ) (p : ℕ) → 0 < length xs → get_or xs (length xs - 1) 0 < p → Ascending xs → IsPlaceOf xs p (Err (length xs))
place_behind xs p l h a = (
  omega arith,
  λ k u. let g : get_or xs k 0 ≤ get_or xs (length xs - 1) 0 = ascending_places xs a k (length xs - 1) (omega arith) (omega arith) in omega arith,
  λ k u v. absurd (omega arith),
)

pub found_is_there : (xs : List ℕ) (p i : ℕ) → Ascending xs → IsPlaceOf xs p (Ok i) → IsListOf (plus (has xs) p) xs
found_is_there xs p i a w = record {
  ascending = a;
  members = λ m. elim (cases_eq m p) [
    | inl e ↦ let h : has xs m ≡ true = In_has (subst (λ q. In q xs) (w.1 ∙ sym e) (In_at xs i 0 w.0)) in h ∙ ap (λ b. b || eqb m p) (sym h)
    | inr ne ↦ sym (or-false (has xs m)) ∙ ap (λ b. has xs m || b) (sym (ne_eqb m p ne))
  ];
}

pub inserted_where_missed : (xs : List ℕ) (p i : ℕ) → Ascending xs → IsPlaceOf xs p (Err i) → IsListOf (plus (has xs) p) (insert xs i p)
inserted_where_missed xs p i a w = record {
  ascending = insert_ascends xs i p a (front_below xs i p w.1 w.0) (rest_above xs i p w.2);
  members = λ m. insert_has xs i p m;
}

pub inserted_list : {A E : Type 0} (xs ys : List ℕ) (p i : ℕ) (r : Result A E) → IsOk r → ys ≡ (if is_ok r then insert xs i p else xs) → Ascending xs → IsPlaceOf xs p (Err i) → IsListOf (plus (has xs) p) ys
inserted_list xs ys p i (Ok u) k e a s = subst (λ zs. IsListOf (plus (has xs) p) zs) (sym e) (inserted_where_missed xs p i a s)
inserted_list xs ys p i (Err u) k e a s = absurd (false≢true k)

pub missed : (xs : List ℕ) (p i : ℕ) → IsPlaceOf xs p (Err i) → has xs p ≡ false
missed xs p i w = has_not xs p (missed_not_there xs p i w.0 w.1 w.2)

pub missed_is_gone : (xs : List ℕ) (p i : ℕ) → Ascending xs → IsPlaceOf xs p (Err i) → IsListOf (without (has xs) p) xs
missed_is_gone xs p i a s =
    record {
      ascending = a;
      members = λ m. elim (cases_eq m p) [
        | inl e ↦ ap (has xs) e ∙ missed xs p i s ∙ sym (ap (λ b. has xs m && not b) (eq-eqb m p e) ∙ and-false (has xs m))
        | inr ne ↦ sym (and-true (has xs m)) ∙ ap (λ b. has xs m && not b) (sym (ne_eqb m p ne))
      ];
    }

pub removed_where_found : (xs : List ℕ) (p i : ℕ) → Ascending xs → IsPlaceOf xs p (Ok i) → IsListOf (without (has xs) p) (remove xs i)
removed_where_found xs p i a w =
    record { ascending = remove_ascends xs i a; members = λ m. remove_has xs i p m a w.0 w.1 }
