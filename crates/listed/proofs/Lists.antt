-- Elements of lists, what tests of all and of some of them say, and lists made of lists.
use Rattle.std.proofs.Common.{◌≡◌, ℕ, zero, suc, ◌<◌, ◌≤◌, ◌-◌, Bool, true, false, eqb, cond, List, [], ◌∷◌, ◌++◌, ◌⊎◌, inl, inr, refl, sym, ◌∙◌, ap, subst}
use Rattle.std.proofs.Common.{eq-eqb, eqb-true, arith, filter, map, ◌&&◌, ap₂, Some, None, length, get_or, take, drop, zero-le}
use Rattle.std.proofs.lemmas.Bool.{or_cases, or_left, or_right, or_from, and_parts, and_from, both_ways, cases_Bool, false≢true, false_from_ne_true}
use Rattle.std.proofs.{lemmas.Grind.{common_steps}, lemmas.List.{length-drop, take_all}, lemmas.Slice.Eq.{bytes_eq-Decides}}
use Rattle.std.specs.{List.{flat_map, list_all, list_any, find, slice_get, position_or_len, Contains}, Prelude.{bytes_eq, nat_lt}}
use Rattle.listed.specs.Lists.{In, here, there, has}

pub In_cases : {A : Type 0} {x y : A} {xs : List A} → In x (y ∷ xs) → (x ≡ y) ⊎ In x xs
In_cases here = inl refl
In_cases (there i) = inr i

pub In_none : {A : Type 0} {x : A} → In x [] → ⊥
In_none i = elim i [ ]

-- an element stands at some place
pub In_place : {A : Type 0} (xs : List A) (x d : A) → In x xs → (i : ℕ) × (i < length xs) × (get_or xs i d ≡ x)
In_place [] x d j = absurd (In_none j)
In_place (y ∷ ys) x d j =
    elim (In_cases j) [
      | inl e ↦ (0, omega arith, subst (λ z. z ≡ x) e refl)
      | inr k ↦ let w : (i : ℕ) × (i < length ys) × (get_or ys i d ≡ x) = In_place ys x d k in (suc w.0, omega (arith, w.1), w.2)
    ]

pub In_at : {A : Type 0} (xs : List A) (i : ℕ) (d : A) → i < length xs → In (get_or xs i d) xs
In_at [] i d l = absurd (omega arith)
In_at (x ∷ xs) zero d l = here
In_at (x ∷ xs) (suc i) d l = there (In_at xs i d (omega arith))

pub place_in : {A : Type 0} (list : List A) (lists : List (List A)) (i : ℕ) → (i < length lists) × (get_or lists i [] ≡ list) → In list lists
place_in list lists i at = subst (λ l. In l lists) at.1 (In_at lists i [] at.0)

-- what is read at a place is an element
pub item_in : {A : Type 0} (xs : List A) (i : ℕ) (x : A) → i < length xs → x ≡ get_or xs i x → In x xs
item_in xs i x l e = subst (λ z. In z xs) (sym e) (In_at xs i x l)

-- an element in the words of the library
pub contains_in : {A : Type 0} (xs : List A) (x : A) → Contains xs x → In x xs
contains_in xs x h = subst (λ z. In z xs) h.2 (In_at xs h.0 x h.1)

pub in_contains : {A : Type 0} (xs : List A) (x : A) → In x xs → Contains xs x
in_contains xs x i = let w : (k : ℕ) × (k < length xs) × (get_or xs k x ≡ x) = In_place xs x x i in (w.0, w.1, w.2)

-- lists with and without elements
pub filled : {A : Type 0} (xs : List A) (x : A) → In x xs → 0 < length xs
filled [] x i = absurd (In_none i)
filled (y ∷ ys) x i = omega arith

pub some_item : (xs : List ℕ) → eqb (length xs) 0 ≡ false → (n : ℕ) × In n xs
some_item [] h = absurd (cc h)
some_item (x ∷ xs) h = (x, here)

pub empty_or : (xs : List ℕ) → (xs ≡ []) ⊎ ((p : ℕ) × In p xs)
empty_or [] = inl refl
empty_or (x ∷ xs) = inr (x, here)

pub none_listed : (xs : List ℕ) → eqb (length xs) 0 ≡ true → xs ≡ []
none_listed [] e = refl
none_listed (x ∷ xs) e = absurd (let f : length (x ∷ xs) ≡ 0 = eqb-true (length (x ∷ xs)) 0 e in omega (arith, f))

-- the test whether a list has a number
pub In_has : {n : ℕ} {T : List ℕ} → In n T → has T n ≡ true
In_has {n} (here {xs = ms}) = or_left (eqb n n) (has ms n) (eq-eqb n n refl)
In_has {n} (there {y = m} {xs = ms} i) = or_right (eqb n m) (has ms n) (In_has i)

pub has_In : (T : List ℕ) (n : ℕ) → has T n ≡ true → In n T
has_In [] n h = absurd (false≢true h)
has_In (m ∷ ms) n h =
    elim (or_cases (eqb n m) (has ms n) h) [
      | inl e ↦ subst (λ k. In n (k ∷ ms)) (eqb-true n m e) here
      | inr i ↦ there (has_In ms n i)
    ]

pub has_not : (T : List ℕ) (n : ℕ) → (In n T → ⊥) → has T n ≡ false
has_not T n f = false_from_ne_true (has T n) (λ h. f (has_In T n h))

pub none_in : (xs : List ℕ) → ((m : ℕ) → has xs m ≡ false) → eqb (length xs) 0 ≡ true
none_in [] h = refl
none_in (x ∷ xs) h = let at : In x (x ∷ xs) = here in absurd (both_ways (has (x ∷ xs) x) (h x) (In_has at))

-- what tests of all and of some elements say
pub any_from : {A : Type 0} (p : A → Bool) (xs : List A) (x : A) → In x xs → p x ≡ true → list_any p xs ≡ true
any_from p [] x i h = absurd (In_none i)
any_from p (y ∷ ys) x i h =
    elim (In_cases i) [
      | inl e ↦ or_left (p y) (list_any p ys) (ap p (sym e) ∙ h)
      | inr j ↦ or_right (p y) (list_any p ys) (any_from p ys x j h)
    ]

pub any_cases : {A : Type 0} (p : A → Bool) (xs : List A) → list_any p xs ≡ true → (x : A) × In x xs × (p x ≡ true)
any_cases p [] h = absurd (false≢true h)
any_cases p (y ∷ ys) h =
    elim (or_cases (p y) (list_any p ys) h) [
      | inl a ↦ (y, here, a)
      | inr b ↦ let w : (x : _) × In x ys × (p x ≡ true) = any_cases p ys b in (w.0, there w.1, w.2)
    ]

pub any_none : {A : Type 0} (p : A → Bool) (xs : List A) → list_any p xs ≡ false → (x : A) → In x xs → p x ≡ false
any_none p xs e x i = false_from_ne_true (p x) (λ h. both_ways (list_any p xs) e (any_from p xs x i h))

pub all_from : {A : Type 0} (p : A → Bool) (xs : List A) → ((x : A) → In x xs → p x ≡ true) → list_all p xs ≡ true
all_from p [] f = refl
all_from p (y ∷ ys) f = and_from (p y) (list_all p ys) (f y here) (all_from p ys (λ x i. f x (there i)))

pub all_at : {A : Type 0} (p : A → Bool) (xs : List A) → list_all p xs ≡ true → (x : A) → In x xs → p x ≡ true
all_at p [] h x i = absurd (In_none i)
all_at p (y ∷ ys) h x i =
    let w : (p y ≡ true) × (list_all p ys ≡ true) = and_parts (p y) (list_all p ys) h in
    elim (In_cases i) [ inl e ↦ ap p e ∙ w.0 | inr j ↦ all_at p ys w.1 x j ]

pub all_same : {A : Type 0} (p q : A → Bool) (xs : List A) → ((x : A) → In x xs → p x ≡ q x) → list_all p xs ≡ list_all q xs
all_same p q [] f = refl
all_same p q (x ∷ xs) f = ap₂ (λ b c. b && c) (f x here) (all_same p q xs (λ y i. f y (there i)))

pub all_weaker : (p q : ℕ → Bool) → ((c : ℕ) → p c ≡ true → q c ≡ true) → (xs : List ℕ) → list_all p xs ≡ true → list_all q xs ≡ true
all_weaker p q weaker [] h = refl
all_weaker p q weaker (x ∷ xs) h = let both = and_parts _ _ h in and_from _ _ (weaker x both.0) (all_weaker p q weaker xs both.1)

pub any_by_first : (p : ℕ → Bool) → (xs : List ℕ) → list_any p xs ≡ nat_lt (position_or_len p xs) (length xs)
any_by_first p [] = refl
any_by_first p (x ∷ xs) = grind (arith, common_steps, any_by_first p xs)

-- the first element that passes
pub find_some : {A : Type 0} (p : A → Bool) (xs : List A) (y : A) → find p xs ≡ Some y → In y xs × (p y ≡ true)
find_some p [] y e = absurd (let f : ⊥ = cc in f)
find_some p (x ∷ xs) y e = pick (p x) refl (find_some p xs y) e
  where
    pick : (b : Bool) → p x ≡ b → (find p xs ≡ Some y → In y xs × (p y ≡ true)) → cond b (Some x) (find p xs) ≡ Some y → In y (x ∷ xs) × (p y ≡ true)
    pick true u f h = let same : y ≡ x = cc in (subst (λ z. In y (z ∷ xs)) same here, ap p same ∙ u)
    pick false u f h = (there (f h).0, (f h).1)

pub find_none : {A : Type 0} (p : A → Bool) (xs : List A) → find p xs ≡ None → (y : A) → In y xs → p y ≡ false
find_none p [] e y i = absurd (In_none i)
find_none p (x ∷ xs) e y i = pick (p x) refl (λ h. find_none p xs h y) e (In_cases i)
  where
    pick : (b : Bool) → p x ≡ b → (find p xs ≡ None → In y xs → p y ≡ false) → cond b (Some x) (find p xs) ≡ None → (y ≡ x) ⊎ In y xs → p y ≡ false
    pick true u f h d = absurd (let k : ⊥ = cc in k)
    pick false u f h (inl same) = ap p same ∙ u
    pick false u f h (inr j) = f h j

pub find_not : {A : Type 0} (p : A → Bool) (xs : List A) → ((y : A) → In y xs → p y ≡ false) → find p xs ≡ None
find_not p [] f = refl
find_not p (x ∷ xs) f = ap (λ b. cond b (Some x) (find p xs)) (f x here) ∙ find_not p xs (λ y i. f y (there i))

pub find_only : {A : Type 0} (p : A → Bool) (xs : List A) (y : A) → In y xs → p y ≡ true → ((z : A) → In z xs → p z ≡ true → z ≡ y) → find p xs ≡ Some y
find_only p [] y i h f = absurd (In_none i)
find_only p (x ∷ xs) y i h f = pick (p x) refl (λ j. find_only p xs y j h (λ z k. f z (there k))) (In_cases i)
  where
    pick : (b : Bool) → p x ≡ b → (In y xs → find p xs ≡ Some y) → (y ≡ x) ⊎ In y xs → cond b (Some x) (find p xs) ≡ Some y
    pick true u g d = ap (λ z. Some z) (f x here u)
    pick false u g (inl same) = absurd (both_ways (p x) u (ap p (sym same) ∙ h))
    pick false u g (inr j) = g j

pub find_same : {A : Type 0} (p q : A → Bool) (xs : List A) → ((x : A) → In x xs → p x ≡ q x) → find p xs ≡ find q xs
find_same p q [] f = refl
find_same p q (x ∷ xs) f = ap₂ (λ b o. cond b (Some x) o) (f x here) (find_same p q xs (λ y i. f y (there i)))

-- lists made of lists
pub In_append_cases : {A : Type 0} (xs ys : List A) (x : A) → In x (xs ++ ys) → In x xs ⊎ In x ys
In_append_cases [] ys x i = inr i
In_append_cases (y ∷ xs) ys x i =
    elim (In_cases i) [
      | inl e ↦ inl (subst (λ k. In x (k ∷ xs)) e here)
      | inr j ↦ elim (In_append_cases xs ys x j) [ inl l ↦ inl (there l) | inr r ↦ inr r ]
    ]

pub in_push : {A : Type 0} (xs : List A) (x y : A) → In y (xs ++ x ∷ []) → In y xs ⊎ (y ≡ x)
in_push xs x y i =
    elim (In_append_cases xs (x ∷ []) y i) [ inl a ↦ inl a | inr b ↦ elim (In_cases b) [ inl e ↦ inr e | inr j ↦ absurd (In_none j) ] ]

pub In_append_left : {A : Type 0} (xs ys : List A) (x : A) → In x xs → In x (xs ++ ys)
In_append_left [] ys x i = absurd (In_none i)
In_append_left (y ∷ xs) ys x i =
    elim (In_cases i) [ inl e ↦ subst (λ k. In x (k ∷ (xs ++ ys))) e here | inr j ↦ there (In_append_left xs ys x j) ]

pub In_append_right : {A : Type 0} (xs ys : List A) (x : A) → In x ys → In x (xs ++ ys)
In_append_right [] ys x i = i
In_append_right (y ∷ xs) ys x i = there (In_append_right xs ys x i)

pub in_take : {A : Type 0} (xs : List A) (i : ℕ) (x : A) → In x (take i xs) → In x xs
in_take [] zero x j = j
in_take [] (suc i) x j = j
in_take (y ∷ ys) zero x j = absurd (In_none j)
in_take (y ∷ ys) (suc i) x j = elim (In_cases j) [ inl e ↦ subst (λ z. In x (z ∷ ys)) e here | inr k ↦ there (in_take ys i x k) ]

pub In_drop : {A : Type 0} (i : ℕ) (xs : List A) (y : A) → In y (drop i xs) → In y xs
In_drop zero xs y j = j
In_drop (suc i) [] y j = absurd (In_none j)
In_drop (suc i) (x ∷ xs) y j = there (In_drop i xs y j)

pub In_map : {A B : Type 0} (f : A → B) (xs : List A) (x : A) → In x xs → In (f x) (map f xs)
In_map f [] x i = absurd (In_none i)
In_map f (y ∷ ys) x i = elim (In_cases i) [ inl e ↦ subst (λ k. In (f x) (f k ∷ map f ys)) e here | inr j ↦ there (In_map f ys x j) ]

pub In_map_cases : {A B : Type 0} (f : A → B) (xs : List A) (y : B) → In y (map f xs) → (x : A) × In x xs × (y ≡ f x)
In_map_cases f [] y i = absurd (In_none i)
In_map_cases f (x ∷ xs) y i =
    elim (In_cases i) [ inl e ↦ (x, here, e) | inr j ↦ let w : (z : _) × In z xs × (y ≡ f z) = In_map_cases f xs y j in (w.0, there w.1, w.2) ]

pub map_alike : {A B : Type 0} (f g : A → B) (xs : List A) → ((x : A) → In x xs → f x ≡ g x) → map f xs ≡ map g xs
map_alike f g [] e = refl
map_alike f g (x ∷ xs) e = ap₂ (λ y ys. y ∷ ys) (e x here) (map_alike f g xs (λ y i. e y (there i)))

pub map_own : {A : Type 0} (f : A → A) (xs : List A) → ((x : A) → In x xs → f x ≡ x) → map f xs ≡ xs
map_own f [] e = refl
map_own f (x ∷ xs) e = ap₂ (λ y ys. y ∷ ys) (e x here) (map_own f xs (λ y i. e y (there i)))

pub In_flat : {X A : Type 0} (f : X → List A) (xs : List X) (x : X) (y : A) → In x xs → In y (f x) → In y (flat_map f xs)
In_flat f [] x y i j = absurd (In_none i)
In_flat f (z ∷ xs) x y i j =
    elim (In_cases i) [
      | inl e ↦ In_append_left (f z) (flat_map f xs) y (subst (λ k. In y (f k)) e j)
      | inr k ↦ In_append_right (f z) (flat_map f xs) y (In_flat f xs x y k j)
    ]

pub In_flat_cases : {X A : Type 0} (f : X → List A) (xs : List X) (y : A) → In y (flat_map f xs) → (x : X) × In x xs × In y (f x)
In_flat_cases f [] y i = absurd (In_none i)
In_flat_cases f (x ∷ xs) y i =
    elim (In_append_cases (f x) (flat_map f xs) y i) [
      | inl j ↦ (x, here, j)
      | inr j ↦ let w : (z : _) × In z xs × In y (f z) = In_flat_cases f xs y j in (w.0, there w.1, w.2)
    ]

pub flat_same : {X A : Type 0} (f g : X → List A) (xs : List X) → ((x : X) → In x xs → f x ≡ g x) → flat_map f xs ≡ flat_map g xs
flat_same f g [] h = refl
flat_same f g (x ∷ xs) h = ap₂ (λ ys zs. ys ++ zs) (h x here) (flat_same f g xs (λ y i. h y (there i)))

-- a test over values at numbers
pub any_at : (p : List ℕ → Bool) (f : ℕ → List ℕ) (xs : List ℕ) (x : ℕ) → In x xs → p (f x) ≡ true → list_any p (map f xs) ≡ true
any_at p f xs x i h = any_from p (map f xs) (f x) (In_map f xs x i) h

pub none_at : (p : List ℕ → Bool) (f : ℕ → List ℕ) (xs : List ℕ) → ((k : ℕ) → k < length xs → p (f (get_or xs k 0)) ≡ false) → list_any p (map f xs) ≡ false
none_at p f [] h = refl
none_at p f (x ∷ xs) h = or_from (p (f x)) (list_any p (map f xs)) (h 0 (omega arith)) (none_at p f xs (λ k l. h (suc k) (omega arith)))

-- a list with or without one more element in front
pub in_cond_rest : {A : Type 0} (b : Bool) (x y : A) (ys : List A) → In x ys → In x (cond b (y ∷ ys) ys)
in_cond_rest true x y ys i = there i
in_cond_rest false x y ys i = i

pub in_cond_first : {A : Type 0} (b : Bool) (x y : A) (ys : List A) → b ≡ true → x ≡ y → In x (cond b (y ∷ ys) ys)
in_cond_first true x y ys h e = subst (λ k. In x (k ∷ ys)) e here
in_cond_first false x y ys h e = absurd (false≢true h)

pub in_cond_cases : {A : Type 0} (b : Bool) (x y : A) (ys : List A) → In x (cond b (y ∷ ys) ys) → ((x ≡ y) × (b ≡ true)) ⊎ In x ys
in_cond_cases true x y ys i = elim (In_cases i) [ inl e ↦ inl (e, refl) | inr j ↦ inr j ]
in_cond_cases false x y ys i = inr i

-- what a filter keeps
pub filter_from : {A : Type 0} (p : A → Bool) (xs : List A) (x : A) → In x xs → p x ≡ true → In x (filter p xs)
filter_from p [] x i h = absurd (In_none i)
filter_from p (y ∷ ys) x i h =
    elim (In_cases i) [
      | inl e ↦ in_cond_first (p y) x y (filter p ys) (ap p (sym e) ∙ h) e
      | inr j ↦ in_cond_rest (p y) x y (filter p ys) (filter_from p ys x j h)
    ]

pub filter_cases : {A : Type 0} (p : A → Bool) (xs : List A) (x : A) → In x (filter p xs) → In x xs × (p x ≡ true)
filter_cases p [] x i = absurd (In_none i)
filter_cases p (y ∷ ys) x i =
    elim (in_cond_cases (p y) x y (filter p ys) i) [
      | inl s ↦ (subst (λ k. In x (k ∷ ys)) s.0 here, ap p s.0 ∙ s.1)
      | inr j ↦ (there (filter_cases p ys x j).0, (filter_cases p ys x j).1)
    ]

pub filter_same : {A : Type 0} (p q : A → Bool) (xs : List A) → ((x : A) → In x xs → p x ≡ q x) → filter p xs ≡ filter q xs
filter_same p q [] f = refl
filter_same p q (x ∷ xs) f = ap₂ (λ b ys. cond b (x ∷ ys) ys) (f x here) (filter_same p q xs (λ y i. f y (there i)))

-- how many elements a filter keeps
pub filter_le : {A : Type 0} (f g : A → Bool) (xs : List A) → ((x : A) → f x ≡ true → g x ≡ true) → length (filter f xs) ≤ length (filter g xs)
filter_le f g [] h = zero-le
filter_le f g (x ∷ xs) h = pick (f x) (g x) (h x) (filter_le f g xs h)
  where
    pick : (a b : Bool) → (a ≡ true → b ≡ true) → length (filter f xs) ≤ length (filter g xs) →
        length (cond a (x ∷ filter f xs) (filter f xs)) ≤ length (cond b (x ∷ filter g xs) (filter g xs))
    pick true true m l = omega arith
    pick true false m l = absurd (false≢true (m refl))
    pick false true m l = omega arith
    pick false false m l = l

pub filter_short : {A : Type 0} (f : A → Bool) (xs : List A) → length (filter f xs) ≤ length xs
filter_short f [] = zero-le
filter_short f (x ∷ xs) = pick (f x) (filter_short f xs)
  where
    pick : (b : Bool) → length (filter f xs) ≤ length xs → length (cond b (x ∷ filter f xs) (filter f xs)) ≤ length (x ∷ xs)
    pick true l = omega arith
    pick false l = omega arith

-- what is read at a place, with another default, at the end, and up to the end
pub item_nil : (xs : List (List ℕ)) (i : ℕ) (x : List ℕ) → i < length xs → x ≡ get_or xs i x → get_or xs i [] ≡ x
item_nil [] i x l e = absurd (omega arith)
item_nil (y ∷ ys) zero x l e = sym e
item_nil (y ∷ ys) (suc i) x l e = item_nil ys i x (omega arith) e

pub at_end : {X : Type 0} (xs : List X) (x : X) → slice_get (xs ++ x ∷ []) (length xs) ≡ Some x
at_end [] x = refl
at_end (y ∷ ys) x = at_end ys x

pub to_end : {X : Type 0} (n : ℕ) (xs : List X) → take (length xs - n) (drop n xs) ≡ drop n xs
to_end n xs = take_all (length xs - n) (drop n xs) (rw (length-drop n xs) (omega arith))

-- texts that a test takes for equal are equal
pub same_bytes : (a b : List ℕ) → bytes_eq a b ≡ true → a ≡ b
same_bytes a b e = (bytes_eq-Decides a b).0 e

-- what is decided
abbrev pub Decided : Type 0 → Type 0
Decided A = A ⊎ (A → ⊥)

pub decided_and : {A B : Type 0} → Decided A → Decided B → Decided (A × B)
decided_and (inl a) (inl b) = inl (a, b)
decided_and (inl a) (inr g) = inr (λ w. g w.1)
decided_and (inr f) b = inr (λ w. f w.0)

pub decided_in : (n : ℕ) (T : List ℕ) → Decided (In n T)
decided_in n T = elim (cases_Bool (has T n)) [ inl y ↦ inl (has_In T n y) | inr f ↦ inr (λ i. both_ways (has T n) f (In_has i)) ]
