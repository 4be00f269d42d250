-- Steps of trimming.
use Rattle.std.proofs.Common.{◌≡◌, ℕ, zero, suc, ◌+◌, ◌<◌, ◌≤◌, Bool, true, false, not, ◌||◌, eqb, cond, List, [], ◌∷◌, ◌++◌, length, get_or, set, take}
use Rattle.std.proofs.{Common.{replicate, refl, ap, sym, ◌∙◌, arith, inl, inr, subst, Option, Some, None, map}, Math.Path.{fun_ext}, Math.Numerals.{add-one}}
use Rattle.std.proofs.lemmas.Bool.{cases_Bool, cases_eq, both_ways, or_cases, or_left, or_right, not-true, not_from_false, not_from_true, eq-eqb, ne_eqb}
use Rattle.std.proofs.{lemmas.Bool.{eqb-true, false_from_ne_true}, lemmas.List.{get_or-set_same, get_or-set_other, get_or_default}}
use Rattle.std.proofs.{lemmas.List.Sums.{sum_by-set}, lemmas.List.Elements.{All-weaker, All-more, All-head, All-tail}}
use Rattle.std.specs.{Prelude.{All, count_by}, List.{list_any, find, flat_map}}
use Rattle.clause_pool.specs.Interned.{Interned, clause_at, clauses_at, ids_at, row_at}
use Rattle.row_book.specs.{Book.{repository_of}, declared.book.Book.{Book}, Uses.{row_id}, Sets.{NumSet, Is, Within, Hit, plus}, Numbers.{numbers}}
use Rattle.row_book.specs.{Flags.{flag}, Repository.{Repository, Healthy, clauses_of}, Flattening.{packages}}
use Rattle.row_book.proofs.{Books.{clauses_row}, Lists.{any_hit}, Flags.{flag_in}}
use Rattle.listed.specs.Lists.{In}
use Rattle.listed.proofs.Lists.{any_from, any_cases}
use Rattle.install_lift.specs.{Trimming.{member_clauses, is_unhit, first_need, IsTrim, IsTrimming, AreMet}, Trimming.Trims.{ends, puts}}
use Rattle.install_lift.proofs.Trimmed.{find_num, find_in}

-- what is read at a place by another default
pub at_place : (goals : List (List ℕ)) (i : ℕ) (goal : List ℕ) → i < length goals → goal ≡ get_or goals i [] → goal ≡ get_or goals i goal
at_place goals i goal lt e = e ∙ get_or_default goals i [] goal lt

-- the flags with one more up
pub flag_plus : (flags : List Bool) (n : ℕ) → n < length flags → flag (set flags n true) ≡ plus (flag flags) n
flag_plus flags n lt = fun_ext (λ m. elim (cases_eq m n) [
  | inl e ↦ rw e (get_or-set_same flags n true false lt ∙ sym (or_right (flag flags n) (eqb n n) (eq-eqb n n refl)))
  | inr ne ↦ get_or-set_other flags n m true false ne ∙ sym (ap (λ b. flag flags m || b) (ne_eqb m n ne) ∙ or_false (flag flags m))
])
  where
    or_false : (b : Bool) → (b || false) ≡ b
    or_false true = refl
    or_false false = refl

any_plus : (S : NumSet) (n : ℕ) (c : List ℕ) → list_any S c ≡ true → list_any (plus S n) c ≡ true
any_plus S n c h = let w = any_cases S c h in any_from (plus S n) c w.0 w.1 (or_left (S w.0) (eqb w.0 n) w.2)

any_with : (S : NumSet) (n : ℕ) (c : List ℕ) → In n c → list_any (plus S n) c ≡ true
any_with S n c i = any_from (plus S n) c n i (or_right (S n) (eqb n n) (eq-eqb n n refl))

pub trimming_begin : (R : Repository) (goals : List (List ℕ)) (chosen : NumSet) (flags : List Bool) (n : ℕ) → flags ≡ replicate n false → IsTrimming R goals chosen (flag flags)
trimming_begin R goals chosen flags n e = rw (e, none n) (record { leads = λ T t. t; part = λ m h. absurd (cc h) })
  where
    at : (n m : ℕ) → flag (replicate n false) m ≡ false
    at zero m = refl
    at (suc n) zero = refl
    at (suc n) (suc m) = at n m

    none : (n : ℕ) → flag (replicate n false) ≡ (λ m. false)
    none n = fun_ext (at n)

-- one more put in
pub trimming_more : (R : Repository) (goals : List (List ℕ)) (chosen : NumSet) (flags new : List Bool) (c : List ℕ) (n : ℕ) → n < length flags → new ≡ set flags n true → first_need R goals (flag flags) ≡ Some c → find chosen c ≡ Some n
    → IsTrimming R goals chosen (flag flags) → IsTrimming R goals chosen (flag new)
trimming_more R goals chosen flags new c n lt e first least t = rw (e, flag_plus flags n lt) (record {
  leads = λ T rest. t.leads T (puts c n first least rest);
  part = λ m h. elim (or_cases (flag flags m) (eqb m n) h) [ inl a ↦ t.part m a | inr b ↦ subst (λ z. chosen z ≡ true) (sym (eqb-true m n b)) (find_num chosen c n least).1 ];
})

pub trimming_end : (R : Repository) (goals : List (List ℕ)) (chosen S : NumSet) → first_need R goals S ≡ None → IsTrimming R goals chosen S → IsTrim R goals chosen S
trimming_end R goals chosen S none t = t.leads S (ends none)

-- the first open goal
pub find_goal : (p : List ℕ → Bool) (xs ys : List (List ℕ)) (i : ℕ) (x : List ℕ) → i < length xs → x ≡ get_or xs i x → p x ≡ true → All (λ y. p y ≡ false) (take i xs) → find p (xs ++ ys) ≡ Some x
find_goal p [] ys i x lt e t none = absurd (omega arith)
find_goal p (y ∷ xs) ys zero x lt e t none = rw (subst (λ z. p z ≡ true) e t) (ap Some (sym e))
find_goal p (y ∷ xs) ys (suc i) x lt e t none = rw (All-head (λ z. p z ≡ false) y (take i xs) none) (find_goal p xs ys i x (omega arith) e t (All-tail (λ z. p z ≡ false) y (take i xs) none))

find_past : (p : List ℕ → Bool) (xs ys : List (List ℕ)) → All (λ y. p y ≡ false) xs → find p (xs ++ ys) ≡ find p ys
find_past p [] ys none = refl
find_past p (x ∷ xs) ys none = rw (All-head (λ z. p z ≡ false) x xs none) (find_past p xs ys (All-tail (λ z. p z ≡ false) x xs none))

find_first : (p : List ℕ → Bool) (xs ys : List (List ℕ)) (c : List ℕ) → find p xs ≡ Some c → find p (xs ++ ys) ≡ Some c
find_first p [] ys c h = absurd (cc h)
find_first p (x ∷ xs) ys c h = elim (cases_Bool (p x)) [
  | inl t ↦ rw t (rw t at h)
  | inr f ↦ rw f (find_first p xs ys c (rw f at h))
]

find_behind : (p : List ℕ → Bool) (xs ys : List (List ℕ)) → find p xs ≡ None → find p (xs ++ ys) ≡ find p ys
find_behind p [] ys h = refl
find_behind p (x ∷ xs) ys h = elim (cases_Bool (p x)) [
  | inl t ↦ absurd (cc (rw t at h))
  | inr f ↦ rw f (find_behind p xs ys (rw f at h))
]

find_flat : (p : List ℕ → Bool) (f : ℕ → List (List ℕ)) (n k q : ℕ) (c : List ℕ) → k ≤ q → q < k + n → ((m : ℕ) → m < q → find p (f m) ≡ None) → find p (f q) ≡ Some c → find p (flat_map f (numbers n k)) ≡ Some c
unfolding numbers
find_flat p f zero k q c a b none h = absurd (omega arith)
find_flat p f (suc n) k q c a b none h = elim (cases_eq k q) [
  | inl e ↦ find_first p (f k) (flat_map f (numbers n (suc k))) c (rw e h)
  | inr ne ↦ find_behind p (f k) (flat_map f (numbers n (suc k))) (none k (omega arith)) ∙ find_flat p f n (suc k) q c (omega arith) (omega arith) none h
]

find_flat_none : (p : List ℕ → Bool) (f : ℕ → List (List ℕ)) (n k : ℕ) → ((m : ℕ) → m < k + n → find p (f m) ≡ None) → find p (flat_map f (numbers n k)) ≡ None
unfolding numbers
find_flat_none p f zero k none = refl
find_flat_none p f (suc n) k none = find_behind p (f k) (flat_map f (numbers n (suc k))) (none k (omega arith)) ∙ find_flat_none p f n (suc k) (λ m lt. none m (omega arith))

closed_goals : (S : NumSet) (goals : List (List ℕ)) → All (λ g. list_any S g ≡ true) goals → All (λ g. is_unhit S g ≡ false) goals
closed_goals S goals h = All-weaker (λ g. list_any S g ≡ true) (λ g. is_unhit S g ≡ false) (λ g t. not_from_true (list_any S g) t) goals h

members_met : (R : Repository) (S : NumSet) (place m : ℕ) → AreMet R S place → m < place → find (is_unhit S) (member_clauses R S m) ≡ None
members_met R S place m met lt = elim (cases_Bool (S m)) [ inl t ↦ rw t (met m lt t) | inr f ↦ rw f refl ]

-- the first open clause
pub open_at : (R : Repository) (goals : List (List ℕ)) (S : NumSet) (place : ℕ) (c : List ℕ) → place < length R.clauses → All (λ g. list_any S g ≡ true) goals → AreMet R S place → S place ≡ true → find (is_unhit S) (clauses_of R place) ≡ Some c
    → first_need R goals S ≡ Some c
open_at R goals S place c lt hit met up h =
    find_past (is_unhit S) goals (flat_map (member_clauses R S) (packages R)) (closed_goals S goals hit)
    ∙ find_flat (is_unhit S) (member_clauses R S) (length R.clauses) 0 place c (omega arith) (omega arith) (λ m mlt. members_met R S place m met mlt) (rw up h)

pub open_none : (R : Repository) (goals : List (List ℕ)) (S : NumSet) (place : ℕ) → length R.clauses ≤ place → All (λ g. list_any S g ≡ true) goals → AreMet R S place → first_need R goals S ≡ None
open_none R goals S place le hit met =
    find_past (is_unhit S) goals (flat_map (member_clauses R S) (packages R)) (closed_goals S goals hit)
    ∙ find_flat_none (is_unhit S) (member_clauses R S) (length R.clauses) 0 (λ m mlt. members_met R S place m met (omega arith))

-- what was met stays so
pub met_more : (S : NumSet) (n : ℕ) (cs : List (List ℕ)) → find (is_unhit S) cs ≡ None → find (is_unhit (plus S n)) cs ≡ None
met_more S n [] h = refl
met_more S n (c ∷ cs) h = elim (cases_Bool (list_any S c)) [
  | inl t ↦ rw (not_from_true (list_any (plus S n) c) (any_plus S n c t)) (met_more S n cs (rw (not_from_true (list_any S c) t) at h))
  | inr f ↦ absurd (cc (rw (not_from_false (list_any S c) f) at h))
]

pub goals_more : (flags new : List Bool) (n : ℕ) (goals : List (List ℕ)) → n < length flags → new ≡ set flags n true → All (λ g. list_any (flag flags) g ≡ true) goals → All (λ g. list_any (flag new) g ≡ true) goals
goals_more flags new n goals lt e hit = rw (e, flag_plus flags n lt) (All-weaker (λ g. list_any (flag flags) g ≡ true) (λ g. list_any (plus (flag flags) n) g ≡ true) (λ g t. any_plus (flag flags) n g t) goals hit)

pub goal_now : (flags new : List Bool) (chosen : NumSet) (n : ℕ) (g : List ℕ) → n < length flags → new ≡ set flags n true → find chosen g ≡ Some n → list_any (flag new) g ≡ true
goal_now flags new chosen n g lt e first = rw (e, flag_plus flags n lt) (any_with (flag flags) n g (find_num chosen g n first).0)

pub chosen_below : (chosen flags : List Bool) (c : List ℕ) (n : ℕ) → length flags ≡ length chosen → find (flag chosen) c ≡ Some n → n < length flags
chosen_below chosen flags c n long first = rw long (flag_in chosen n (find_num (flag chosen) c n first).1)

pub fewer_down : (flags new : List Bool) (c : List ℕ) (chosen : NumSet) (n : ℕ) → n < length flags → new ≡ set flags n true → find chosen c ≡ Some n → is_unhit (flag flags) c ≡ true → count_by not new + 1 ≡ count_by not flags
fewer_down flags new c chosen n lt e first opened =
    let out : flag flags n ≡ false = false_from_ne_true (flag flags n) (λ t. both_ways (list_any (flag flags) c) (not-true (list_any (flag flags) c) opened) (any_from (flag flags) c n (find_num chosen c n first).0 t)) in
    let s : count_by not (set flags n true) + cond (not (get_or flags n false)) 1 0 ≡ count_by not flags + 0 = sum_by-set (λ b. cond (not b) 1 0) flags n true false lt in
    rw e (omega (arith, rw out at s))

pub any_find : (p : ℕ → Bool) (c : List ℕ) → list_any p c ≡ true → find p c ≡ None → ⊥
any_find p [] h e = cc
any_find p (x ∷ xs) h e = elim (cases_Bool (p x)) [
  | inl t ↦ cc (rw t at e)
  | inr f ↦ any_find p xs (rw f at h) (rw f at e)
]

-- the clauses of a row in turn
pub unhit_here : (S : NumSet) (pool : Interned) (ids : List ℕ) (k id : ℕ) (clause : List ℕ) → k < length ids → id ≡ get_or ids k id → clause ≡ clause_at pool id → list_any S clause ≡ false
    → find (is_unhit S) (clauses_at pool (take k ids)) ≡ None → find (is_unhit S) (clauses_at pool ids) ≡ Some (clause_at pool id)
unhit_here S pool [] k id clause lt e lent f before = absurd (omega arith)
unhit_here S pool (i ∷ ids) zero id clause lt e lent f before =
    let opened : is_unhit S (clause_at pool i) ≡ true = subst (λ z. is_unhit S (clause_at pool z) ≡ true) e (rw lent at (not_from_false (list_any S clause) f)) in
    rw opened (ap (λ z. Some (clause_at pool z)) (sym e))
unhit_here S pool (i ∷ ids) (suc k) id clause lt e lent f before = elim (cases_Bool (is_unhit S (clause_at pool i))) [
  | inl t ↦ absurd (cc (rw t at before))
  | inr n ↦ rw n (unhit_here S pool ids k id clause (omega arith) e lent f (rw n at before))
]

pub unhit_more : (S : NumSet) (pool : Interned) (ids : List ℕ) (k id : ℕ) (clause : List ℕ) → k < length ids → id ≡ get_or ids k id → clause ≡ clause_at pool id → list_any S clause ≡ true
    → find (is_unhit S) (clauses_at pool (take k ids)) ≡ None → find (is_unhit S) (clauses_at pool (take (k + 1) ids)) ≡ None
unhit_more S pool ids k id clause lt e lent t before =
    let closed : is_unhit S (clause_at pool id) ≡ false = rw lent at (not_from_true (list_any S clause) t) in
    rw add-one (go ids k lt e before closed)
  where
    go : (ids : List ℕ) (k : ℕ) → k < length ids → id ≡ get_or ids k id → find (is_unhit S) (clauses_at pool (take k ids)) ≡ None → is_unhit S (clause_at pool id) ≡ false → find (is_unhit S) (clauses_at pool (take (suc k) ids)) ≡ None
    go [] k lt e before closed = absurd (omega arith)
    go (i ∷ ids) zero lt e before closed = rw (subst (λ z. is_unhit S (clause_at pool z) ≡ false) e closed) refl
    go (i ∷ ids) (suc k) lt e before closed = elim (cases_Bool (is_unhit S (clause_at pool i))) [
      | inl t ↦ absurd (cc (rw t at before))
      | inr n ↦ rw n (go ids k (omega arith) e (rw n at before) closed)
    ]

-- a goal that is hit, or has just been
pub goals_next : (S : NumSet) (goals : List (List ℕ)) (i : ℕ) (g : List ℕ) → i < length goals → g ≡ get_or goals i g → list_any S g ≡ true → All (λ h. list_any S h ≡ true) (take i goals) → All (λ h. list_any S h ≡ true) (take (i + 1) goals)
goals_next S goals i g lt e t before = All-more (λ h. list_any S h ≡ true) goals i g lt before (rw (← e) t)

pub goal_open : (R : Repository) (goals : List (List ℕ)) (S : NumSet) (i : ℕ) (g : List ℕ) → i < length goals → g ≡ get_or goals i g → list_any S g ≡ false → All (λ h. list_any S h ≡ true) (take i goals) → first_need R goals S ≡ Some g
goal_open R goals S i g lt e f before = find_goal (is_unhit S) goals (flat_map (member_clauses R S) (packages R)) i g lt e (not_from_false (list_any S g) f) (closed_goals S (take i goals) before)

pub row_first : (pool : Interned) (book : Book) (S : NumSet) (place row : ℕ) (ids : List ℕ) (o : Option (List ℕ)) → place < length book.rows → row ≡ row_id book.rows place → ids ≡ ids_at pool row → find (is_unhit S) (clauses_at pool ids) ≡ o
    → find (is_unhit S) (clauses_of (repository_of pool book) place) ≡ o
row_first pool book S place row ids o lt e lent h =
    ap (find (is_unhit S)) (clauses_row pool book place lt ∙ ap (row_at pool) (sym e) ∙ ap (clauses_at pool) (sym lent)) ∙ h

pub size_of : (pool : Interned) (book : Book) → length (repository_of pool book).clauses ≡ length book.rows
size_of pool book = length_map (row_at pool) book.rows
  where
    length_map : {X Y : Type 0} (f : X → Y) (xs : List X) → length (map f xs) ≡ length xs
    length_map f [] = refl
    length_map f (x ∷ xs) = let e = length_map f xs in omega (arith, e)

-- a clause of a member is hit by what is chosen
pub chosen_hits : (R : Repository) (chosen S : NumSet) (place : ℕ) (c : List ℕ) → Healthy R chosen → Within S chosen → S place ≡ true → find (is_unhit S) (clauses_of R place) ≡ Some c → list_any chosen c ≡ true
chosen_hits R chosen S place c healthy part up h =
    let w = find_in (is_unhit S) (clauses_of R place) c h in
    any_hit chosen c (healthy.abundance place (part place up) c w.0)

pub opened : (R : Repository) (S : NumSet) (place : ℕ) (c : List ℕ) → find (is_unhit S) (clauses_of R place) ≡ Some c → is_unhit S c ≡ true
opened R S place c h = (find_in (is_unhit S) (clauses_of R place) c h).1
