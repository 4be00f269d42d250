-- Items at their places, and places under keys.
use Rattle.std.{proofs.Common.{◌≡◌, ℕ, ◌<◌, ◌≤◌, ◌+◌, List, [], ◌∷◌, ◌++◌, ◌⊎◌, inl, inr, length, get_or, map, set, take, refl, sym, ◌∙◌, ap, ap₂, subst, arith}, specs.List.{flat_map}, proofs.lemmas.Bool.{cases_eq}, proofs.lemmas.List.{length_push, get_or-set_same, get_or-set_other, get_or_read, get_or_push, get_or_append_left, flat_map_more, map_more, take_more, take_all}}
use Rattle.listed.{specs.Lists.{In, here}, proofs.Lists.{In_cases, In_none, In_append_cases, In_append_left, In_append_right}}
use Rattle.row_book.specs.Book.{listed_for}
use Rattle.suite_compare.specs.Groups.{AreEach, ArePlacesTo, IsEntered}

pub In_last : {X : Type 0} (xs new : List X) (x y : X) → new ≡ xs ++ x ∷ [] → In y new → In y xs ⊎ (y ≡ x)
In_last xs new x y e i = elim (In_append_cases xs (x ∷ []) y (subst (λ z. In y z) e i)) [
  | inl o ↦ inl o
  | inr s ↦ elim (In_cases s) [ inl f ↦ inr f | inr n ↦ absurd (In_none n) ]
]

-- what holds of each of the first i items, and of all
pub first_more : {X : Type 0} (P : X → Type 0) (xs : List X) (i : ℕ) (d : X) → i < length xs → P (get_or xs i d) → ((x : X) → In x (take i xs) → P x) → (x : X) → In x (take (i + 1) xs) → P x
first_more P xs i d l one so x j = elim (In_last (take i xs) (take (i + 1) xs) (get_or xs i d) x (take_more xs i d l) j) [ inl o ↦ so x o | inr e ↦ subst P (sym e) one ]

pub first_all : {X : Type 0} (P : X → Type 0) (xs : List X) (i : ℕ) → length xs ≤ i → ((x : X) → In x (take i xs) → P x) → (x : X) → In x xs → P x
first_all P xs i l so x j = so x (subst (λ z. In x z) (sym (take_all i xs l)) j)

-- a list that is made item by item
pub behind_more : {A X : Type 0} (f : A → List X) (xs : List A) (i : ℕ) (d : A) (initial lines new more : List X) → i < length xs → new ≡ lines ++ more → lines ≡ initial ++ flat_map f (take i xs) → f (get_or xs i d) ≡ more
    → new ≡ initial ++ flat_map f (take (i + 1) xs)
behind_more f xs i d initial lines new more l made so is =
    made ∙ ap (λ z. z ++ more) so ∙ ap (λ z. (initial ++ flat_map f (take i xs)) ++ z) (sym is) ∙ flat_map_more f initial (take i xs) (get_or xs i d)
    ∙ ap (λ z. initial ++ flat_map f z) (sym (take_more xs i d l))

pub map_pushed : {A B : Type 0} (f : A → B) (xs : List A) (i : ℕ) (d : A) (made new : List B) (y : B) → i < length xs → new ≡ made ++ y ∷ [] → y ≡ f (get_or xs i d) → made ≡ map f (take i xs) → new ≡ map f (take (i + 1) xs)
map_pushed f xs i d made new y l e is so = e ∙ ap₂ (λ z w. z ++ w ∷ []) so is ∙ sym (map_more f xs i d l)

-- what a list with one more item has at its places
pub pushed_at : {X : Type 0} (xs new : List X) (x d : X) (n i : ℕ) → length xs ≡ n → new ≡ xs ++ x ∷ [] → i < n + 1 → ((i < n) × (get_or new i d ≡ get_or xs i d)) ⊎ ((i ≡ n) × (get_or new i d ≡ x))
pushed_at xs new x d n i long made l = elim (cases_eq i n) [
  | inl e ↦ inr (e, ap (λ z. get_or z i d) made ∙ get_or_push xs x d i (long ∙ sym e))
  | inr o ↦ let below : i < n = omega arith in let inner : i < length xs = omega arith in inl (below, ap (λ z. get_or z i d) made ∙ get_or_append_left xs (x ∷ []) d i inner)
]

-- items that are each right at their places: none, one more, and another thing that is right of each
pub each_none : {X : Type 0} (P : ℕ → X → Type 0) (d : X) (xs : List X) → xs ≡ [] → AreEach P d 0 xs
each_none P d xs e = record { long = ap length e; each = λ k l. absurd (omega arith) }

pub each_more : {X : Type 0} (P : ℕ → X → Type 0) (d : X) (n : ℕ) (xs new : List X) (x : X) → new ≡ xs ++ x ∷ [] → P n x → AreEach P d n xs → AreEach P d (n + 1) new
each_more P d n xs new x made one so = record {
  long = ap length made ∙ length_push xs x ∙ ap (λ z. z + 1) so.long;
  each = λ k l. elim (pushed_at xs new x d n k so.long made l) [
    | inl w ↦ subst (P k) (sym w.1) (so.each k w.0)
    | inr w ↦ subst (P k) (sym w.1) (subst (λ z. P z x) (sym w.0) one)
  ];
}

pub each_weaker : {X : Type 0} (P Q : ℕ → X → Type 0) (d : X) (n : ℕ) (xs : List X) → ((k : ℕ) (x : X) → P k x → Q k x) → AreEach P d n xs → AreEach Q d n xs
each_weaker P Q d n xs f so = record { long = so.long; each = λ k l. f k (get_or xs k d) (so.each k l) }

-- a number put behind those of one list of a table
pub entered : (table : List (List ℕ)) (key x : ℕ) (old new : List ℕ) → key < length table → old ≡ get_or table key old → new ≡ old ++ x ∷ [] → IsEntered table (set table key new) key x
entered table key x old new l is made = record {
  only = λ k y i. elim (cases_eq k key) [
    | inl e ↦ elim (In_last old new x y made (subst (λ z. In y z) (at_key k e) i)) [ inl o ↦ inl (subst (λ z. In y z) (was k e) o) | inr f ↦ inr (e, f) ]
    | inr n ↦ inl (subst (λ z. In y z) (get_or-set_other table key k new [] n) i)
  ];
  kept = λ k y i. elim (cases_eq k key) [
    | inl e ↦ subst (λ z. In y z) (sym (at_key k e)) (subst (λ z. In y z) (sym made) (In_append_left old (x ∷ []) y (subst (λ z. In y z) (sym (was k e)) i)))
    | inr n ↦ subst (λ z. In y z) (sym (get_or-set_other table key k new [] n)) i
  ];
  entered = subst (λ z. In x z) (sym (at_key key refl)) (subst (λ z. In x z) (sym made) (In_append_right old (x ∷ []) x here));
}
  where
    at_key : (k : ℕ) → k ≡ key → get_or (set table key new) k [] ≡ new
    at_key k e = ap (λ z. get_or (set table key new) z []) e ∙ get_or-set_same table key new [] l

    was : (k : ℕ) → k ≡ key → old ≡ get_or table k []
    was k e = get_or_read table key old l is [] ∙ ap (λ z. get_or table z []) (sym e)

-- the places before n are entered
pub places_none : (keys : List ℕ) (table : List (List ℕ)) → ((k : ℕ) → listed_for table k ≡ []) → ArePlacesTo 0 keys table
places_none keys table none = record { only = λ k i j. absurd (In_none (subst (λ z. In i z) (none k) j)); all = λ i l. absurd (omega arith) }

pub places_more : (n key : ℕ) (keys : List ℕ) (old new : List (List ℕ)) → key ≡ get_or keys n 0 → IsEntered old new key n → ArePlacesTo n keys old → ArePlacesTo (n + 1) keys new
places_more n key keys old new at e p = record {
  only = λ k i j. elim (e.only k i j) [
    | inl o ↦ let w : (i < n) × (get_or keys i 0 ≡ k) = p.only k i o in (omega (arith, w.0), w.1)
    | inr f ↦ let same : i ≡ n = f.1 in (omega arith, ap (λ z. get_or keys z 0) f.1 ∙ sym at ∙ sym f.0)
  ];
  all = λ i m. elim (cases_eq i n) [
    | inl f ↦ subst (λ z. In z (listed_for new (get_or keys z 0))) (sym f) (subst (λ z. In n (listed_for new z)) at e.entered)
    | inr o ↦ e.kept (get_or keys i 0) i (p.all i (omega arith))
  ];
}
