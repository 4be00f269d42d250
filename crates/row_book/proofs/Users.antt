-- The users of numbers: as members of lists, and after a row has changed.
use Rattle.std.proofs.Common.{◌≡◌, ℕ, suc, ◌<◌, ◌≤◌, ◌+◌, Bool, true, false, not, eqb, ltb, List, [], ◌∷◌, ◌⊎◌, inl, inr, refl, sym, ◌∙◌, ap, ap₂, subst, arith}
use Rattle.std.proofs.{Common.{◌&&◌, ◌||◌, length, get_or, map, ne_eqb, eq-eqb, take, drop, ◌++◌, append-nil}, Math.Bool.{or-false, and-true, and-false}}
use Rattle.std.proofs.lemmas.Bool.{false≢true, cases_Bool, cases_eq, both_ways, and_parts, and_from, or_left, or_right, ltb-true, ltb-false, lt-ltb, le-ltb}
use Rattle.std.proofs.{lemmas.List.{get_or-set_same, get_or-set_other, length-set, length-map, drop_all, take_all}, lemmas.Grind.{get_or_default_zero}}
use Rattle.std.specs.{Global.{Vec}, List.{slice_set}}
use Rattle.clause_pool.specs.Interned.{Interned, clauses_at, ids_at, row_at}
use Rattle.row_book.specs.{Sets.{NumSet}, Numbers.{numbers}, Book.{RowsFit}}
use Rattle.row_book.specs.Uses.{row_id, row_holds, some_holds, users_of, uses_of, HoldsDifference, IsListOf, lists_in, list_in}
use Rattle.listed.specs.Lists.{In, has, Ascending}
use Rattle.listed.proofs.{Lists.{In_has, has_In, has_not, any_cases, filter_from, filter_cases}, Orders.{ascending_filter}}
use Rattle.row_book.proofs.{Numbers.{numbers_from, numbers_parts, numbers_ascending, length_numbers, at_numbers}, Inserts.{listed_once, listed_as}}
use Rattle.row_book.proofs.Differences.{difference_all, difference_held}

-- members of a list of users
pub user_within : (pool : Interned) (rows : List ℕ) (n p : ℕ) → In p (users_of pool rows n) → (p < length rows) × (row_holds pool (row_id rows p) n ≡ true)
user_within pool rows n p i =
    let w : In p (numbers (length rows) 0) × (row_holds pool (row_id rows p) n ≡ true) = filter_cases (λ q. row_holds pool (row_id rows q) n) (numbers (length rows) 0) p i in
    let u : (0 ≤ p) × (p < 0 + length rows) = numbers_parts (length rows) 0 p w.0 in
    (omega arith, w.1)

pub user_from : (pool : Interned) (rows : List ℕ) (n p : ℕ) → p < length rows → row_holds pool (row_id rows p) n ≡ true → In p (users_of pool rows n)
user_from pool rows n p l h = filter_from (λ q. row_holds pool (row_id rows q) n) (numbers (length rows) 0) p (numbers_from (length rows) 0 p (omega arith) (omega arith)) h

-- the numbers of the ids that a row lends are those that it holds
pub row_numbers : (pool : Interned) (row : ℕ) (ids found : List ℕ) → ids ≡ ids_at pool row → ((n : ℕ) → has found n ≡ some_holds (clauses_at pool ids) n)
    → (n : ℕ) → has found n ≡ row_holds pool row n
row_numbers pool row ids found e f n = f n ∙ ap (λ xs. some_holds (clauses_at pool xs) n) e

-- what it is that a row holds a number
pub held_by : (pool : Interned) (id n : ℕ) → row_holds pool id n ≡ true → (c : List ℕ) × In c (row_at pool id) × In n c
held_by pool id n h =
    let w : (c : List ℕ) × In c (row_at pool id) × (has c n ≡ true) = any_cases (λ c. has c n) (row_at pool id) h in
    (w.0, w.1, has_In w.0 n w.2)

-- lists of users ascend
pub users_ascend : (pool : Interned) (rows : List ℕ) (n : ℕ) → Ascending (users_of pool rows n)
users_ascend pool rows n = ascending_filter (λ q. row_holds pool (row_id rows q) n) (numbers (length rows) 0) (numbers_ascending (length rows) 0)

-- the packages below k of whose row something is true with a number
abbrev pub below_with : (ℕ → ℕ → Bool) → List ℕ → ℕ → ℕ → NumSet
below_with H rows k n m = ltb m k && H (row_id rows m) n

-- the packages below k whose row holds the number
abbrev pub uses_number : Interned → List ℕ → ℕ → ℕ → NumSet
uses_number pool rows k n m = below_with (row_holds pool) rows k n m

pub users_listed : (pool : Interned) (rows : List ℕ) (n : ℕ) → IsListOf (uses_number pool rows (length rows) n) (users_of pool rows n)
users_listed pool rows n = record {
  ascending = users_ascend pool rows n;
  members = λ m. elim (cases_Bool (uses_number pool rows (length rows) n m)) [
    | inl y ↦
        let w : (ltb m (length rows) ≡ true) × (row_holds pool (row_id rows m) n ≡ true) = and_parts (ltb m (length rows)) (row_holds pool (row_id rows m) n) y in
        In_has (user_from pool rows n m (ltb-true m (length rows) w.0) w.1) ∙ sym y
    | inr f ↦
        has_not (users_of pool rows n) m
        (λ i. let w : (m < length rows) × (row_holds pool (row_id rows m) n ≡ true) = user_within pool rows n m i in
        both_ways (uses_number pool rows (length rows) n m) f (and_from (ltb m (length rows)) (row_holds pool (row_id rows m) n) (lt-ltb m (length rows) w.0) w.1))
        ∙ sym f
  ];
}

-- a list made place by place
made_of : {A : Type 0} (f : ℕ → A) (d : A) (xs : List A) (k : ℕ) → ((i : ℕ) → i < length xs → get_or xs i d ≡ f (k + i)) → xs ≡ map f (numbers (length xs) k)
unfolding numbers
made_of f d [] k e = refl
made_of f d (x ∷ xs) k e =
    ap (λ y. y ∷ xs) (e 0 (omega arith) ∙ ap f (omega arith))
    ∙ ap (λ ys. f k ∷ ys) (made_of f d xs (suc k) (λ i l. e (suc i) (omega arith) ∙ ap f (omega arith)))

-- a table whose lists are the users is that of the rows
pub is_uses_of : (table : List (List ℕ)) (pool : Interned) (rows : List ℕ) → length table ≡ length rows
    → ((n : ℕ) → n < length rows → IsListOf (uses_number pool rows (length rows) n) (get_or table n [])) → table ≡ uses_of pool rows
unfolding uses_of
is_uses_of table pool rows e f =
    made_of (users_of pool rows) [] table 0 (λ i l.
    let u : i < length rows = omega arith in
    listed_once (uses_number pool rows (length rows) i) (get_or table i []) (users_of pool rows i) (f i u) (users_listed pool rows i) ∙ ap (users_of pool rows) (omega arith))
    ∙ ap (λ size. map (users_of pool rows) (numbers size 0)) e

pub length_uses : (pool : Interned) (rows : List ℕ) → length (uses_of pool rows) ≡ length rows
unfolding uses_of
length_uses pool rows = length_numbers (users_of pool rows) (length rows) 0

-- one more package
below_next : (m k : ℕ) → ltb m (k + 1) ≡ (ltb m k || eqb m k)
below_next m k =
    elim (cases_Bool (ltb m k)) [
      | inl y ↦ let l : m < k = ltb-true m k y in lt-ltb m (k + 1) (omega arith) ∙ sym (or_left (ltb m k) (eqb m k) y)
      | inr f ↦ let l : k ≤ m = ltb-false m k f in elim (cases_eq m k) [
        | inl e ↦ lt-ltb m (k + 1) (omega arith) ∙ sym (or_right (ltb m k) (eqb m k) (eq-eqb m k e))
        | inr ne ↦ le-ltb m (k + 1) (omega (arith, ne)) ∙ sym (ap₂ (λ a b. a || b) f (ne_eqb m k ne))
      ]
    ]

more_here : (a x : Bool) → ((a && x) || (x && true)) ≡ ((a || true) && x)
more_here true true = refl
more_here true false = refl
more_here false true = refl
more_here false false = refl

more_other : (a x y : Bool) → ((a && x) || (y && false)) ≡ ((a || false) && x)
more_other true true y = refl
more_other true false true = refl
more_other true false false = refl
more_other false x true = refl
more_other false x false = refl

pub below_more : (H : ℕ → ℕ → Bool) (rows : List ℕ) (k row n : ℕ) → row ≡ row_id rows k → (before after held : List ℕ) → has held n ≡ H row n
    → IsListOf (below_with H rows k n) before
    → (Ascending before → IsListOf (λ m. has before m || (has held n && eqb m k)) after)
    → IsListOf (below_with H rows (k + 1) n) after
below_more H rows k row n e before after held h b f =
    listed_as (λ m. has before m || (has held n && eqb m k)) (below_with H rows (k + 1) n) after
    (λ m.
    let holds = λ (q : ℕ). H (row_id rows q) n in
    ap₂ (λ x y. x || (y && eqb m k)) (b.members m) (h ∙ ap (λ r. H r n) e)
    ∙ elim (cases_eq m k) [
      | inl s ↦ ap₂ (λ x y. (ltb m k && holds m) || (x && y)) (sym (ap holds s)) (eq-eqb m k s) ∙ more_here (ltb m k) (holds m) ∙ ap (λ x. (ltb m k || x) && holds m) (sym (eq-eqb m k s))
      | inr ne ↦ ap (λ y. (ltb m k && holds m) || (holds k && y)) (ne_eqb m k ne) ∙ more_other (ltb m k) (holds m) (holds k) ∙ ap (λ x. (ltb m k || x) && holds m) (sym (ne_eqb m k ne))
    ]
    ∙ ap (λ x. x && holds m) (sym (below_next m k)))
    (f b.ascending)

pub uses_more : (pool : Interned) (rows : List ℕ) (k row n : ℕ) → row ≡ row_id rows k → (before after held : List ℕ) → has held n ≡ row_holds pool row n
    → IsListOf (uses_number pool rows k n) before
    → (Ascending before → IsListOf (λ m. has before m || (has held n && eqb m k)) after)
    → IsListOf (uses_number pool rows (k + 1) n) after
uses_more pool rows k row n e before after held h b f = below_more (row_holds pool) rows k row n e before after held h b f

-- a slice that was lent whole, put back
pub lent_whole : {A : Type 0} (size : ℕ) (xs ys : List A) → length xs ≡ length ys → size ≡ length ys → take size (xs ++ drop (length xs) ys) ≡ xs
lent_whole size xs ys e f =
    ap (λ zs. take size (xs ++ zs)) (drop_all (length xs) ys (omega arith)) ∙ ap (take size) (append-nil xs) ∙ take_all size xs (omega arith)

-- the numbers that a row of a book holds are below its size
pub held_within : (pool : Interned) (rows : List ℕ) (row n : ℕ) → RowsFit pool rows → In row rows → row_holds pool row n ≡ true → n < length rows
held_within pool rows row n f i h = let w : (c : List ℕ) × In c (row_at pool row) × In n c = held_by pool row n h in f.numbers row i w.0 w.1 n w.2

-- A package that has another row now.

-- whether a number is held by the old row, by the new one, among the numbers that were lost, and among those that came
pub record Shifts (was is lost came : Bool) : Type 0 where
  pub lost_held : lost ≡ true → was ≡ true
  pub lost_all : was ≡ true → (lost ≡ true) ⊎ (is ≡ true)
  pub came_held : came ≡ true → is ≡ true
  pub came_all : is ≡ true → (came ≡ true) ⊎ (was ≡ true)

changed_here : (was is lost came : Bool) → Shifts was is lost came → ((was || (came && true)) && not (lost && not (is && lost) && true)) ≡ (true && is)
changed_here true true true came s = refl
changed_here true true false came s = refl
changed_here false true true true s = refl
changed_here false true false true s = refl
changed_here false true lost false s = elim (s.came_all refl) [ inl e ↦ absurd (false≢true e) | inr e ↦ absurd (false≢true e) ]
changed_here was false lost true s = absurd (false≢true (s.came_held refl))
changed_here true false true false s = refl
changed_here true false false false s = elim (s.lost_all refl) [ inl e ↦ absurd (false≢true e) | inr e ↦ absurd (false≢true e) ]
changed_here false false lost false s = refl

changed_other : (x came lost kept : Bool) → ((x || (came && false)) && not (lost && not kept && false)) ≡ x
changed_other x came lost kept = ap₂ (λ a b. (x || a) && not b) (and-false came) (and-false (lost && not kept)) ∙ and-true (x || false) ∙ or-false x

pub below_changed : (H : ℕ → ℕ → Bool) (rows : List ℕ) (p old new n : ℕ) → p < length rows → row_id rows p ≡ old
    → (xs ys zs before kept : List ℕ) (came : ℕ → Bool) → Shifts (H old n) (H new n) (has before n) (came n)
    → has kept n ≡ (H new n && has before n) → IsListOf (below_with H rows (length rows) n) xs
    → (Ascending xs → IsListOf (λ m. has xs m || (came n && eqb m p)) ys)
    → (Ascending ys → IsListOf (λ m. has ys m && not (has before n && not (has kept n) && eqb m p)) zs)
    → IsListOf (below_with H (slice_set rows p new) (length (slice_set rows p new)) n) zs
below_changed H rows p old new n l o xs ys zs before kept came shifts hk first f g =
    let second : IsListOf (λ m. has xs m || (came n && eqb m p)) ys = f first.ascending in
    let A = H new n in
    let B = H old n in
    let size : length (slice_set rows p new) ≡ length rows = length-set rows p new in
    listed_as (λ m. has ys m && not (has before n && not (has kept n) && eqb m p)) (below_with H (slice_set rows p new) (length (slice_set rows p new)) n) zs
    (λ m.
    ap (λ x. x && not (has before n && not (has kept n) && eqb m p)) (second.members m ∙ ap (λ x. x || (came n && eqb m p)) (first.members m))
    ∙ elim (cases_eq m p) [
      | inl s ↦
          let own : below_with H rows (length rows) n m ≡ B = ap (below_with H rows (length rows) n) s ∙ ap₂ (λ x r. x && H r n) (lt-ltb p (length rows) l) o in
          let now : row_id (slice_set rows p new) m ≡ new = ap (row_id (slice_set rows p new)) s ∙ get_or-set_same rows p new 0 l in
          ap₂ (λ x y. (x || (came n && y)) && not (has before n && not (has kept n) && y)) own (eq-eqb m p s)
          ∙ ap (λ k. (B || (came n && true)) && not (has before n && not k && true)) hk
          ∙ changed_here B A (has before n) (came n) shifts
          ∙ sym (ap₂ (λ x r. x && H r n) (lt-ltb m (length (slice_set rows p new)) (omega (arith, s, size))) now)
      | inr ne ↦
          ap (λ y. (below_with H rows (length rows) n m || (came n && y)) && not (has before n && not (has kept n) && y)) (ne_eqb m p ne)
          ∙ changed_other (below_with H rows (length rows) n m) (came n) (has before n) (has kept n)
          ∙ sym (ap₂ (λ k r. ltb m k && H r n) size (get_or-set_other rows p m new 0 ne))
    ])
    (g second.ascending)

pub uses_changed : (pool : Interned) (rows : List ℕ) (p old new n : ℕ) → p < length rows → row_id rows p ≡ old
    → (xs ys zs before kept : List ℕ) (came : ℕ → Bool) → Shifts (row_holds pool old n) (row_holds pool new n) (has before n) (came n)
    → has kept n ≡ (row_holds pool new n && has before n) → xs ≡ users_of pool rows n
    → (Ascending xs → IsListOf (λ m. has xs m || (came n && eqb m p)) ys)
    → (Ascending ys → IsListOf (λ m. has ys m && not (has before n && not (has kept n) && eqb m p)) zs)
    → IsListOf (uses_number pool (slice_set rows p new) (length (slice_set rows p new)) n) zs
uses_changed pool rows p old new n l o xs ys zs before kept came shifts hk e f g =
    below_changed (row_holds pool) rows p old new n l o xs ys zs before kept came shifts hk
    (subst (IsListOf (uses_number pool rows (length rows) n)) (sym e) (users_listed pool rows n)) f g

-- the numbers of what a row lost and gained
pub shifts_of : (pool : Interned) (old new : ℕ) (lost gained before : List ℕ) (n : ℕ)
    → HoldsDifference (ids_at pool old) (ids_at pool new) lost → HoldsDifference (ids_at pool new) (ids_at pool old) gained
    → has before n ≡ some_holds (clauses_at pool lost) n
    → Shifts (row_holds pool old n) (row_holds pool new n) (has before n) (some_holds (clauses_at pool gained) n)
shifts_of pool old new lost gained before n d g hb = record {
  lost_held = λ h. difference_held pool (ids_at pool old) (ids_at pool new) lost n d (sym hb ∙ h);
  lost_all = λ h. elim (difference_all pool (ids_at pool old) (ids_at pool new) lost n d h) [ inl a ↦ inl (hb ∙ a) | inr b ↦ inr b ];
  came_held = λ h. difference_held pool (ids_at pool new) (ids_at pool old) gained n g h;
  came_all = λ h. elim (difference_all pool (ids_at pool new) (ids_at pool old) gained n g h) [ inl a ↦ inl a | inr b ↦ inr b ];
}

-- the numbers that a row holds are those of its clauses
pub held_below : (pool : Interned) (id size n : ℕ) → ((c : List ℕ) → In c (row_at pool id) → (m : ℕ) → In m c → m < size) → row_holds pool id n ≡ true → n < size
held_below pool id size n f h = let w : (c : List ℕ) × In c (row_at pool id) × In n c = held_by pool id n h in f w.0 w.1 n w.2

-- the list of a number in a table of the rows
pub list_of_uses : (pool : Interned) (rows : List ℕ) (n : ℕ) → n < length rows → get_or (uses_of pool rows) n [] ≡ users_of pool rows n
unfolding uses_of
list_of_uses pool rows n l = at_numbers (users_of pool rows) [] (length rows) 0 n l ∙ ap (users_of pool rows) (omega arith)

-- the lists of a table after the row of one more package
pub row_added : (pool : Interned) (rows : List ℕ) (k row : ℕ) → row ≡ get_or rows k row → k < length rows → (users lent new : List (Vec ℕ)) (held : List ℕ) → lent ≡ users
    → ((n : ℕ) → has held n ≡ row_holds pool row n)
    → ((n : ℕ) → IsListOf (uses_number pool rows k n) (list_in users n))
    → ((n : ℕ) → Ascending (list_in lent n) → IsListOf (λ m. has (list_in lent n) m || (has held n && eqb m k)) (list_in new n))
    → (n : ℕ) → IsListOf (uses_number pool rows (k + 1) n) (list_in new n)
row_added pool rows k row e l users lent new held same h b f n =
    uses_more pool rows k row n (e ∙ get_or_default_zero rows k row l) (list_in lent n) (list_in new n) held (h n)
    (subst (λ t. IsListOf (uses_number pool rows k n) (list_in t n)) (sym same) (b n)) (f n)

-- and after the package has another row
pub uses_replaced : (pool : Interned) (rows : List ℕ) (p old new : ℕ) → p < length rows → row_id rows p ≡ old → (first second third : List (Vec ℕ)) (before kept : List ℕ) (came : ℕ → Bool)
    → lists_in first ≡ uses_of pool rows → length second ≡ length first → length third ≡ length second
    → ((n : ℕ) → Shifts (row_holds pool old n) (row_holds pool new n) (has before n) (came n)) → ((n : ℕ) → has kept n ≡ (row_holds pool new n && has before n))
    → ((n : ℕ) → Ascending (list_in first n) → IsListOf (λ m. has (list_in first n) m || (came n && eqb m p)) (list_in second n))
    → ((n : ℕ) → Ascending (list_in second n) → IsListOf (λ m. has (list_in second n) m && not (has before n && not (has kept n) && eqb m p)) (list_in third n))
    → lists_in third ≡ uses_of pool (slice_set rows p new)
uses_replaced pool rows p old new l o first second third before kept came e s t shifts hk f g =
    let size : length (slice_set rows p new) ≡ length rows = length-set rows p new in
    let whole : length (lists_in third) ≡ length (slice_set rows p new) =
    length-map third (λ v. v.items) ∙ t ∙ s ∙ sym (length-map first (λ v. v.items)) ∙ ap length e ∙ length_uses pool rows ∙ sym size in
    is_uses_of (lists_in third) pool (slice_set rows p new) whole
    (λ n u.
    let k : n < length rows = omega arith in
    uses_changed pool rows p old new n l o (list_in first n) (list_in second n) (list_in third n) before kept came (shifts n) (hk n)
    (ap (λ xs. get_or xs n []) e ∙ list_of_uses pool rows n k) (f n) (g n))
