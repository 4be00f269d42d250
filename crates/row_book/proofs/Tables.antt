-- Tables of lists of numbers: what a change of one list leaves of the others.
use Rattle.std.proofs.Common.{◌≡◌, ◌≢◌, ℕ, zero, suc, ◌<◌, ◌≤◌, ◌+◌, ◌-◌, Bool, true, false, not, eqb, List, [], ◌∷◌, ◌++◌, ◌⊎◌, inl, inr, refl, sym, ◌∙◌, ap}
use Rattle.std.proofs.{Common.{ap₂, subst, arith, ◌&&◌, ◌||◌, length, take, get_or, map, ne_eqb, eq-eqb, eqb-true, vec_capacity, vec_len}, Math.Bool.{or-false}}
use Rattle.std.proofs.{lemmas.Bool.{cases_eq, or_right, and_from, false≢true}, lemmas.List.{map-set, get_or-set_same, get_or-set_other, get_or-map, length-map}}
use Rattle.std.proofs.lemmas.List.Folds.{list_any_more, list_any-append}
use Rattle.std.specs.{Global.{Vec}, List.{slice_set, list_any}}
use Rattle.clause_pool.specs.Interned.{Interned, clause_at}
use Rattle.listed.specs.Lists.{has, Ascending}
use Rattle.row_book.specs.{Sets.{plus, without}, Uses.{IsListOf, lists_in, list_in, room_in}}
use Rattle.listed.proofs.Lists.{In_at, In_has}
use Rattle.row_book.proofs.Inserts.{listed_as}

pub list_set_same : (table : List (Vec ℕ)) (i : ℕ) (v : Vec ℕ) → i < length table → list_in (slice_set table i v) i ≡ v.items
list_set_same table i v l =
    ap (λ xs. get_or xs i []) (map-set (λ u. u.items) table i v)
    ∙ get_or-set_same (lists_in table) i v.items [] (subst (λ n. i < n) (sym (length-map table (λ u. u.items))) l)

pub list_set_other : (table : List (Vec ℕ)) (i : ℕ) (v : Vec ℕ) (n : ℕ) → n ≢ i → list_in (slice_set table i v) n ≡ list_in table n
list_set_other table i v n ne =
    ap (λ xs. get_or xs n []) (map-set (λ u. u.items) table i v)
    ∙ get_or-set_other (lists_in table) i n v.items [] ne

room_set_same : (table : List (Vec ℕ)) (i : ℕ) (v : Vec ℕ) → i < length table → room_in (slice_set table i v) i ≡ vec_capacity v - vec_len v
room_set_same table i v l =
    ap (λ xs. get_or xs i 0) (map-set (λ u. vec_capacity u - vec_len u) table i v)
    ∙ get_or-set_same (map (λ u. vec_capacity u - vec_len u) table) i (vec_capacity v - vec_len v) 0 (subst (λ n. i < n) (sym (length-map table (λ u. vec_capacity u - vec_len u))) l)

room_set_other : (table : List (Vec ℕ)) (i : ℕ) (v : Vec ℕ) (n : ℕ) → n ≢ i → room_in (slice_set table i v) n ≡ room_in table n
room_set_other table i v n ne =
    ap (λ xs. get_or xs n 0) (map-set (λ u. vec_capacity u - vec_len u) table i v)
    ∙ get_or-set_other (map (λ u. vec_capacity u - vec_len u) table) i n (vec_capacity v - vec_len v) 0 ne

pub list_held : (table : List (Vec ℕ)) (i : ℕ) (v d : Vec ℕ) → i < length table → v ≡ get_or table i d → list_in table i ≡ v.items
list_held table i v d l e = get_or-map (λ u. u.items) table i d [] l ∙ ap (λ u. u.items) (sym e)

room_at : (table : List (Vec ℕ)) (i : ℕ) (v d : Vec ℕ) → i < length table → v ≡ get_or table i d → room_in table i ≡ vec_capacity v - vec_len v
room_at table i v d l e = get_or-map (λ u. vec_capacity u - vec_len u) table i d 0 l ∙ ap (λ u. vec_capacity u - vec_len u) (sym e)

-- a list that is replaced by one with the same numbers
pub lists_kept : (table : List (Vec ℕ)) (i : ℕ) (v w d : Vec ℕ) → i < length table → v ≡ get_or table i d → w.items ≡ v.items → lists_in (slice_set table i w) ≡ lists_in table
lists_kept [] i v w d l e same = absurd (omega arith)
lists_kept (t ∷ ts) zero v w d l e same = ap (λ x. x ∷ lists_in ts) (same ∙ ap (λ u. u.items) e)
lists_kept (t ∷ ts) (suc i) v w d l e same = ap (λ xs. t.items ∷ xs) (lists_kept ts i v w d (omega arith) e same)

-- one more of the numbers
has_more : (numbers : List ℕ) (k x n : ℕ) → k < length numbers → x ≡ get_or numbers k x → has (take (k + 1) numbers) n ≡ (has (take k numbers) n || eqb n x)
has_more numbers k x n l e = list_any_more (λ m. eqb n m) numbers k x l ∙ ap (λ y. has (take k numbers) n || eqb n y) (sym e)

has_more_other : (numbers : List ℕ) (k x n : ℕ) → k < length numbers → x ≡ get_or numbers k x → n ≢ x → has (take (k + 1) numbers) n ≡ has (take k numbers) n
has_more_other numbers k x n l e ne = has_more numbers k x n l e ∙ ap (λ b. has (take k numbers) n || b) (ne_eqb n x ne) ∙ or-false (has (take k numbers) n)

has_more_same : (numbers : List ℕ) (k x n : ℕ) → k < length numbers → x ≡ get_or numbers k x → n ≡ x → has (take (k + 1) numbers) n ≡ true
has_more_same numbers k x n l e f = has_more numbers k x n l e ∙ or_right (has (take k numbers) n) (eqb n x) (eq-eqb n x f)

-- each of the numbers is among them
pub place_within : {A : Type 0} (table : List A) (numbers : List ℕ) (k size : ℕ) → length table ≡ size → k < length numbers → ((n : ℕ) → has numbers n ≡ true → n < size) → get_or numbers k 0 < length table
place_within table numbers k size e l f = let h : get_or numbers k 0 < size = f (get_or numbers k 0) (In_has (In_at numbers k 0 l)) in omega arith

pub any_map : {A B : Type 0} (p : B → Bool) (f : A → B) (xs : List A) → list_any p (map f xs) ≡ list_any (λ x. p (f x)) xs
any_map p f [] = refl
any_map p f (x ∷ xs) = ap (λ b. p (f x) || b) (any_map p f xs)

-- what the clauses of a row up to one more hold
some_more : (pool : Interned) (ids : List ℕ) (k id : ℕ) (clause : List ℕ) → k < length ids → id ≡ get_or ids k id → clause ≡ clause_at pool id
    → (n : ℕ) → list_any (λ c. has c n) (map (clause_at pool) (take (k + 1) ids)) ≡ (list_any (λ c. has c n) (map (clause_at pool) (take k ids)) || has clause n)
some_more pool ids k id clause l e u n =
    any_map (λ c. has c n) (clause_at pool) (take (k + 1) ids)
    ∙ list_any_more (λ i. has (clause_at pool i) n) ids k id l
    ∙ ap₂ (λ a b. a || b) (sym (any_map (λ c. has c n) (clause_at pool) (take k ids))) (sym (ap (λ c. has c n) (u ∙ ap (clause_at pool) e)))

-- one more clause of a row
pub holds_more : (pool : Interned) (ids : List ℕ) (k id : ℕ) (found clause more : List ℕ) → k < length ids → id ≡ get_or ids k id → clause ≡ clause_at pool id → more ≡ found ++ clause
    → (n : ℕ) → has found n ≡ list_any (λ c. has c n) (map (clause_at pool) (take k ids)) → has more n ≡ list_any (λ c. has c n) (map (clause_at pool) (take (k + 1) ids))
holds_more pool ids k id found clause more l e u v n h =
    ap (λ xs. has xs n) v ∙ list_any-append (λ m. eqb n m) found clause
    ∙ ap (λ a. a || has clause n) h
    ∙ sym (some_more pool ids k id clause l e u n)

both_wanted : (a b w : Bool) → ((a && w) || (b && w)) ≡ ((a || b) && w)
both_wanted true b true = refl
both_wanted true true false = refl
both_wanted true false false = refl
both_wanted false b w = refl

-- the wanted numbers of one more clause of a row
pub wanted_more : (pool : Interned) (ids : List ℕ) (k id : ℕ) (found clause wanted more : List ℕ) → k < length ids → id ≡ get_or ids k id → clause ≡ clause_at pool id
    → (n : ℕ) → has found n ≡ (list_any (λ c. has c n) (map (clause_at pool) (take k ids)) && has wanted n) → has more n ≡ (has found n || (has clause n && has wanted n))
    → has more n ≡ (list_any (λ c. has c n) (map (clause_at pool) (take (k + 1) ids)) && has wanted n)
wanted_more pool ids k id found clause wanted more l e u n h m =
    m ∙ ap (λ a. a || (has clause n && has wanted n)) h
    ∙ both_wanted (list_any (λ c. has c n) (map (clause_at pool) (take k ids))) (has clause n) (has wanted n)
    ∙ ap (λ a. a && has wanted n) (sym (some_more pool ids k id clause l e u n))

pushed : (b t e w : Bool) → (e ≡ true → w ≡ true) → ((b || (t && w)) || e) ≡ (b || ((t || e) && w))
pushed true t e w f = refl
pushed false true true true f = refl
pushed false true true false f = absurd (false≢true (f refl))
pushed false true false true f = refl
pushed false true false false f = refl
pushed false false true true f = refl
pushed false false true false f = absurd (false≢true (f refl))
pushed false false false w f = refl

passed : (b t e w : Bool) → (e ≡ true → w ≡ false) → (b || (t && w)) ≡ (b || ((t || e) && w))
passed true t e w f = refl
passed false true e w f = refl
passed false false true true f = absurd (false≢true (sym (f refl)))
passed false false true false f = refl
passed false false false w f = refl

-- one more number of a clause, which is wanted and was put behind the others
pub wanted_pushed : (before found more clause wanted : List ℕ) (k : ℕ) → k < length clause → true ≡ has wanted (get_or clause k 0) → more ≡ found ++ get_or clause k 0 ∷ []
    → (n : ℕ) → has found n ≡ (has before n || (has (take k clause) n && has wanted n)) → has more n ≡ (has before n || (has (take (k + 1) clause) n && has wanted n))
wanted_pushed before found more clause wanted k l w is n h =
    ap (λ xs. has xs n) is ∙ list_any-append (λ m. eqb n m) found (get_or clause k 0 ∷ [])
    ∙ ap₂ (λ a b. a || b) h (or-false (eqb n (get_or clause k 0)))
    ∙ pushed (has before n) (has (take k clause) n) (eqb n (get_or clause k 0)) (has wanted n) (λ s. ap (has wanted) (eqb-true n (get_or clause k 0) s) ∙ sym w)
    ∙ ap (λ a. has before n || (a && has wanted n)) (sym (list_any_more (λ m. eqb n m) clause k 0 l))

-- one that is not wanted
pub wanted_passed : (before found clause wanted : List ℕ) (k : ℕ) → k < length clause → false ≡ has wanted (get_or clause k 0)
    → (n : ℕ) → has found n ≡ (has before n || (has (take k clause) n && has wanted n)) → has found n ≡ (has before n || (has (take (k + 1) clause) n && has wanted n))
wanted_passed before found clause wanted k l w n h =
    h ∙ passed (has before n) (has (take k clause) n) (eqb n (get_or clause k 0)) (has wanted n) (λ s. ap (has wanted) (eqb-true n (get_or clause k 0) s) ∙ sym w)
    ∙ ap (λ a. has before n || (a && has wanted n)) (sym (list_any_more (λ m. eqb n m) clause k 0 l))

-- room was made for the numbers up to now
pub room_more : (table : List (Vec ℕ)) (numbers : List ℕ) (k x : ℕ) (w : Vec ℕ) → k < length numbers → x ≡ get_or numbers k x → x < length table
    → vec_len w + 1 ≤ vec_capacity w → ((n : ℕ) → has (take k numbers) n ≡ true → 0 < room_in table n)
    → (n : ℕ) → has (take (k + 1) numbers) n ≡ true → 0 < room_in (slice_set table x w) n
room_more table numbers k x w l e u r f n h =
    elim (cases_eq n x) [
      | inl s ↦ subst (λ y. 0 < room_in (slice_set table x w) y) (sym s) (let g : room_in (slice_set table x w) x ≡ vec_capacity w - vec_len w = room_set_same table x w u in omega arith)
      | inr ne ↦ let g : 0 < room_in table n = f n (sym (has_more_other numbers k x n l e ne) ∙ h) in
          subst (λ y. 0 < y) (sym (room_set_other table x w n ne)) g
    ]

-- a package was put into the lists of these numbers
pub record PutInto (before : List (Vec ℕ)) (done : List ℕ) (p : ℕ) (table : List (Vec ℕ)) : Type 0 where
  pub listed : (n : ℕ) → Ascending (list_in before n) → IsListOf (λ m. has (list_in before n) m || (has done n && eqb m p)) (list_in table n)
  pub room : (n : ℕ) → (has done n ≡ true) ⊎ (room_in table n ≡ room_in before n)

put_members : (a b c : Bool) → ((a || (b && c)) || c) ≡ (a || (true && c))
put_members true b c = refl
put_members false true true = refl
put_members false true false = refl
put_members false false true = refl
put_members false false false = refl

pub put_more : (before table : List (Vec ℕ)) (numbers : List ℕ) (k x p : ℕ) (v w d : Vec ℕ) → k < length numbers → x ≡ get_or numbers k x → x < length table → v ≡ get_or table x d
    → 0 < room_in before x
    → (Ascending v.items → (has v.items p ≡ true) ⊎ (0 < vec_capacity v - vec_len v) → IsListOf (plus (has v.items) p) w.items)
    → PutInto before (take k numbers) p table → PutInto before (take (k + 1) numbers) p (slice_set table x w)
put_more before table numbers k x p v w d l e u i r f so = record {
  listed = λ n a. elim (cases_eq n x) [
    | inl s ↦
        let now : list_in table n ≡ v.items = ap (list_in table) s ∙ list_held table x v d u i in
        let old : IsListOf (λ m. has (list_in before n) m || (has (take k numbers) n && eqb m p)) v.items = subst (IsListOf (λ m. has (list_in before n) m || (has (take k numbers) n && eqb m p))) now (so.listed n a) in
        let ready : (has v.items p ≡ true) ⊎ (0 < vec_capacity v - vec_len v) = elim (so.room n) [
          | inl o ↦ inl (old.members p ∙ or_right (has (list_in before n) p) (has (take k numbers) n && eqb p p) (and_from (has (take k numbers) n) (eqb p p) o (eq-eqb p p refl)))
          | inr q ↦ let g : room_in table x ≡ vec_capacity v - vec_len v = room_at table x v d u i in let t : room_in table x ≡ room_in before x = ap (room_in table) (sym s) ∙ q ∙ ap (room_in before) s in inr (omega arith)
        ] in
        subst (IsListOf (λ m. has (list_in before n) m || (has (take (k + 1) numbers) n && eqb m p))) (sym (ap (list_in (slice_set table x w)) s ∙ list_set_same table x w u))
        (listed_as (plus (has v.items) p) (λ m. has (list_in before n) m || (has (take (k + 1) numbers) n && eqb m p)) w.items
        (λ m. ap (λ b. b || eqb m p) (old.members m) ∙ put_members (has (list_in before n) m) (has (take k numbers) n) (eqb m p)
        ∙ ap (λ b. has (list_in before n) m || (b && eqb m p)) (sym (has_more_same numbers k x n l e s)))
        (f old.ascending ready))
    | inr ne ↦
        subst (IsListOf (λ m. has (list_in before n) m || (has (take (k + 1) numbers) n && eqb m p))) (sym (list_set_other table x w n ne))
        (listed_as (λ m. has (list_in before n) m || (has (take k numbers) n && eqb m p)) (λ m. has (list_in before n) m || (has (take (k + 1) numbers) n && eqb m p)) (list_in table n)
        (λ m. ap (λ b. has (list_in before n) m || (b && eqb m p)) (sym (has_more_other numbers k x n l e ne)))
        (so.listed n a))
  ];
  room = λ n. elim (cases_eq n x) [
    | inl s ↦ inl (has_more_same numbers k x n l e s)
    | inr ne ↦ elim (so.room n) [
      | inl o ↦ inl (has_more_other numbers k x n l e ne ∙ o)
      | inr q ↦ inr (room_set_other table x w n ne ∙ q)
    ]
  ];
}

-- a package was taken out of the lists of these numbers but for those kept
abbrev pub TakenFrom : List (Vec ℕ) → List ℕ → List ℕ → ℕ → List (Vec ℕ) → Type 0
TakenFrom before done kept p table = (n : ℕ) → Ascending (list_in before n) → IsListOf (λ m. has (list_in before n) m && not (has done n && not (has kept n) && eqb m p)) (list_in table n)

take_members : (a b c d : Bool) → d ≡ false → ((a && not (b && not d && c)) && not c) ≡ (a && not (true && not d && c))
take_members a b c true e = absurd (let f : ⊥ = cc in f)
take_members true true true false e = refl
take_members true true false false e = refl
take_members true false true false e = refl
take_members true false false false e = refl
take_members false b c false e = refl

pub take_more_out : (before table : List (Vec ℕ)) (numbers kept : List ℕ) (k x p : ℕ) (v w d : Vec ℕ) → k < length numbers → x ≡ get_or numbers k x → x < length table → v ≡ get_or table x d
    → has kept x ≡ false
    → (Ascending v.items → IsListOf (without (has v.items) p) w.items)
    → TakenFrom before (take k numbers) kept p table → TakenFrom before (take (k + 1) numbers) kept p (slice_set table x w)
take_more_out before table numbers kept k x p v w d l e u i r f so = λ n a.
    elim (cases_eq n x) [
      | inl s ↦
          let now : list_in table n ≡ v.items = ap (list_in table) s ∙ list_held table x v d u i in
          let old : IsListOf (λ m. has (list_in before n) m && not (has (take k numbers) n && not (has kept n) && eqb m p)) v.items = subst (IsListOf (λ m. has (list_in before n) m && not (has (take k numbers) n && not (has kept n) && eqb m p))) now (so n a) in
          subst (IsListOf (λ m. has (list_in before n) m && not (has (take (k + 1) numbers) n && not (has kept n) && eqb m p))) (sym (ap (list_in (slice_set table x w)) s ∙ list_set_same table x w u))
          (listed_as (without (has v.items) p) (λ m. has (list_in before n) m && not (has (take (k + 1) numbers) n && not (has kept n) && eqb m p)) w.items
          (λ m. ap (λ b. b && not (eqb m p)) (old.members m) ∙ take_members (has (list_in before n) m) (has (take k numbers) n) (eqb m p) (has kept n) (ap (has kept) s ∙ r)
          ∙ ap (λ b. has (list_in before n) m && not (b && not (has kept n) && eqb m p)) (sym (has_more_same numbers k x n l e s)))
          (f old.ascending))
      | inr ne ↦
          subst (IsListOf (λ m. has (list_in before n) m && not (has (take (k + 1) numbers) n && not (has kept n) && eqb m p))) (sym (list_set_other table x w n ne))
          (listed_as (λ m. has (list_in before n) m && not (has (take k numbers) n && not (has kept n) && eqb m p)) (λ m. has (list_in before n) m && not (has (take (k + 1) numbers) n && not (has kept n) && eqb m p)) (list_in table n)
          (λ m. ap (λ b. has (list_in before n) m && not (b && not (has kept n) && eqb m p)) (sym (has_more_other numbers k x n l e ne)))
          (so n a))
    ]
