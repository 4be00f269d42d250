-- The groups of the packages of a mask, made one after another.
use Rattle.std.proofs.Common.{◌≡◌, ℕ, zero, suc, ◌<◌, ◌≤◌, ◌+◌, Bool, true, false, List, [], ◌∷◌, ◌++◌, length, get_or, drop, ◌⊎◌, inl, inr, refl, sym, ◌∙◌, ap}
use Rattle.std.proofs.Common.{ap₂, subst, arith, map, nat_eq, position, Some, None, Result, Ok, Err, IfOk, length-append}
use Rattle.std.proofs.{lemmas.Bool.{both_ways, cases_eq, cases_lt}, lemmas.List.{get_or-map, get_or_append_left, get_or_default, length-map, map-append}}
use Rattle.std.specs.Cmp.Lexicographic.{pointwise}
use Rattle.class_merge.proofs.Places.{place_in, place_none, place_some}
use Rattle.clause_pool.specs.Interned.{row_at}
use Rattle.row_book.specs.{Flags.{flag}, Flattening.{packages}, Repository.{Repository, clauses_of, conflicts_of}, Uses.{row_id}}
use Rattle.listed.specs.Lists.{In, Ascending}
use Rattle.row_book.specs.Merging.{class_of as class_of_, firsts, first_of, is_first}
use Rattle.row_book.proofs.{Compared.{row_once}, Flags.{flag_in}, Numbers.{numbers_ascending}, Repositories.{between}}
use Rattle.listed.proofs.{Lists.{In_append_cases, In_at, In_cases, In_has, In_map, In_none, filter_cases}, Orders.{ascending_filter, ascending_push}}
use Rattle.class_merge.specs.{Grouping.{key_of, AreClasses, IsPlaceAmong}, Masks.{masked_repository, AlikeInMask, IsMaskOfRows}}
use Rattle.class_merge.specs.declared.{grouping.Classes.{Classes}, masked.MaskedRows.{MaskedRows}}
use Rattle.class_merge.proofs.{Plain.{none_before}, Classes.{Alike, alike_sym, alike_trans, class_alike, first_in, has_class_lem}}

-- places in an ascending list
ascending_at : (xs : List ℕ) → Ascending xs → (i j : ℕ) → i < j → j < length xs → get_or xs i 0 < get_or xs j 0
ascending_at [] a i j l m = absurd (omega arith)
ascending_at (x ∷ xs) a i zero l m = absurd (omega arith)
ascending_at (x ∷ xs) a zero (suc j) l m = a.0 (get_or xs j 0) (In_at xs j 0 (omega arith))
ascending_at (x ∷ xs) a (suc i) (suc j) l m = ascending_at xs a.1 i j (omega arith) (omega arith)

place_once : (xs : List ℕ) → Ascending xs → (i j : ℕ) → i < length xs → j < length xs → get_or xs i 0 ≡ get_or xs j 0 → i ≡ j
place_once xs a i j l m e =
    elim (cases_lt i j) [
      | inl u ↦ let w : get_or xs i 0 < get_or xs j 0 = ascending_at xs a i j u m in absurd (omega arith)
      | inr v ↦ elim (cases_lt j i) [
        | inl u ↦ let w : get_or xs j 0 < get_or xs i 0 = ascending_at xs a j i u l in absurd (omega arith)
        | inr u ↦ omega arith
      ]
    ]

firsts_once : (R : Repository) (p q : ℕ) → is_first R p ≡ true → is_first R q ≡ true → Alike R p q → p ≡ q
firsts_once R p q f g a =
    elim (cases_lt p q) [
      | inl u ↦ absurd (none_before R q p g u (alike_sym R p q a))
      | inr v ↦ elim (cases_lt q p) [ inl u ↦ absurd (none_before R p q f u a) | inr u ↦ omega arith ]
    ]

pub firsts_ascend : (R : Repository) → Ascending (firsts R)
unfolding firsts
firsts_ascend R = ascending_filter (is_first R) (packages R) (numbers_ascending (length R.clauses) 0)

of_firsts : (R : Repository) (f : ℕ) → In f (firsts R) → is_first R f ≡ true
unfolding firsts
of_firsts R f i = (filter_cases (is_first R) (packages R) f i).1

-- there is one class of which a package is like the first
pub class_unique : (R : Repository) (p k : ℕ) → p < length R.clauses → k < length (firsts R) → Alike R p (first_of R k) → k ≡ class_of_ R p
class_unique R p k l m a =
    let n : class_of_ R p < length (firsts R) = (has_class_lem R p l).within in
    place_once (firsts R) (firsts_ascend R) k (class_of_ R p) m n
    (firsts_once R (first_of R k) (first_of R (class_of_ R p)) (of_firsts R (first_of R k) (first_in R k m)) (of_firsts R (first_of R (class_of_ R p)) (first_in R (class_of_ R p) n))
    (alike_trans R (first_of R k) p (first_of R (class_of_ R p)) (alike_sym R p (first_of R k) a) (class_alike R p l)))

-- a list that may have gained one number
front_stays : (xs ys : List ℕ) (n : ℕ) → (ys ≡ xs) ⊎ (ys ≡ xs ++ n ∷ []) → (k : ℕ) → k < length xs → (k < length ys) × (get_or ys k 0 ≡ get_or xs k 0)
front_stays xs ys n (inl e) k l = (subst (λ z. k < length z) (sym e) l, ap (λ z. get_or z k 0) e)
front_stays xs ys n (inr e) k l = (
  subst (λ z. k < length z) (sym e) (let s : length (xs ++ n ∷ []) ≡ length xs + 1 = length-append xs (n ∷ []) in omega (arith, s)),
  ap (λ z. get_or z k 0) e ∙ get_or_append_left xs (n ∷ []) 0 k l,
)

push_old : (xs : List ℕ) (x k : ℕ) → k < length xs → get_or (xs ++ x ∷ []) k 0 ≡ get_or xs k 0
push_old xs x k l = get_or_append_left xs (x ∷ []) 0 k l

push_new : (xs : List ℕ) (x n : ℕ) → length xs ≡ n → get_or (xs ++ x ∷ []) n 0 ≡ x
push_new [] x zero e = refl
push_new [] x (suc n) e = absurd (omega (arith, e))
push_new (y ∷ ys) x zero e = absurd (omega (arith, e))
push_new (y ∷ ys) x (suc n) e = push_new ys x n (omega (arith, e))

-- the place of a list among lists
pub placed_old : (lists : List (List ℕ)) (first list : List ℕ) (n place : ℕ) → Some place ≡ position (pointwise nat_eq list) lists → IsPlaceAmong lists lists first first n list place
placed_old lists first list n place h =
    let w : (place < length lists) × (get_or lists place [] ≡ list) = place_some list lists place (sym h) in
    record { within = w.0; holds = w.1; gains = inl (place_in list lists place (sym h), refl, refl) }

push_within : (old : List (List ℕ)) (list : List ℕ) → (length old < length (old ++ list ∷ [])) × (get_or (old ++ list ∷ []) (length old) [] ≡ list)
push_within [] list = (omega arith, refl)
push_within (x ∷ xs) list = let w : (length xs < length (xs ++ list ∷ [])) × (get_or (xs ++ list ∷ []) (length xs) [] ≡ list) = push_within xs list in (omega arith, w.1)

pub placed_new : {E : Type 0} (old new : List (List ℕ)) (first next list : List ℕ) (n : ℕ) (r : Result ℕ E) → None ≡ position (pointwise nat_eq list) old → next ≡ first ++ n ∷ [] →
    IfOk r (λ place. place ≡ length old) → IfOk r (λ place. new ≡ old ++ list ∷ []) → IfOk r (IsPlaceAmong old new first next n list)
placed_new old new first next list n (Err e) h p a b = tt
placed_new old new first next list n (Ok place) h p a b =
    let w : (length old < length (old ++ list ∷ [])) × (get_or (old ++ list ∷ []) (length old) [] ≡ list) = push_within old list in
    record {
      within = subst (λ z. z < length new) (sym a) (subst (λ z. length old < length z) (sym b) w.0);
      holds = ap₂ (λ x z. get_or z x []) a b ∙ w.1;
      gains = inr (place_none list old (sym h), b, p);
    }

-- the groups of the packages of the mask below n
pub record GroupsSoFar (masked : MaskedRows) (seen : List (List ℕ)) (least group_of : List ℕ) (n : ℕ) : Type 0 where
  pub key : seen ≡ map (key_of masked) least
  pub count : length group_of ≡ n
  pub short : length least ≤ n
  pub ascending : Ascending least
  pub below : (p : ℕ) → In p least → p < n
  pub there : (p : ℕ) → In p least → flag masked.flags.now p ≡ true
  pub first : (p q : ℕ) → In p least → flag masked.flags.now q ≡ true → q < p → AlikeInMask (masked_repository masked) masked.flags.now q p → ⊥
  pub within : (q : ℕ) → q < n → flag masked.flags.now q ≡ true → get_or group_of q 0 < length least
  pub alike : (q : ℕ) → q < n → flag masked.flags.now q ≡ true → AlikeInMask (masked_repository masked) masked.flags.now q (get_or least (get_or group_of q 0) 0)

module _ (masked : MaskedRows) (is : IsMaskOfRows masked) where
  abbrev R : Repository
  R = masked_repository masked

  abbrev flags : List Bool
  flags = masked.flags.now

  pub masked_size : length R.clauses ≡ length masked.rows.now
  masked_size = length-map masked.rows.now (row_at masked.pool.now)

  pub flags_size : length flags ≡ length masked.rows.now
  flags_size = is.mask.size ∙ masked_size

  pub lists_size : length masked.conflicts.now ≡ length masked.rows.now
  lists_size = is.mask.sound.count ∙ masked_size

  pub masked_row : (p : ℕ) → p < length masked.rows.now → clauses_of R p ≡ row_at masked.pool.now (row_id masked.rows.now p)
  masked_row p l = get_or-map (row_at masked.pool.now) masked.rows.now p 0 [] l

  pub row_within : (p : ℕ) → p < length masked.rows.now → row_id masked.rows.now p < length masked.pool.now.rows
  row_within p l = is.of_pool (row_id masked.rows.now p) (In_at masked.rows.now p 0 l)

  -- what was read at a place
  pub row_read : (p d : ℕ) → p < length masked.rows.now → get_or masked.rows.now p d ≡ row_id masked.rows.now p
  row_read p d l = sym (get_or_default masked.rows.now p 0 d l)

  pub list_read : (p : ℕ) (d list : List ℕ) → p < length masked.rows.now → list ≡ get_or masked.conflicts.now p d → list ≡ conflicts_of R p
  list_read p d list l e = e ∙ sym (get_or_default masked.conflicts.now p [] d (omega (arith, l, lists_size)))

  pub list_within : (p : ℕ) (d list : List ℕ) → p < length masked.rows.now → list ≡ get_or masked.conflicts.now p d → (n : ℕ) → In n list → n < length flags
  list_within p d list l e n i =
      let w : n < length R.clauses = (between R is.mask.sound p n (In_has (subst (λ xs. In n xs) (list_read p d list l e) i))).1 in
      omega (arith, w, is.mask.size)

  alike_keys : (p q : ℕ) → p < length masked.rows.now → q < length masked.rows.now → key_of masked p ≡ key_of masked q → AlikeInMask R flags p q
  alike_keys p q l m e = record {
    clauses = masked_row p l ∙ ap (row_at masked.pool.now) (ap (λ xs. get_or xs 0 0) e) ∙ sym (masked_row q m);
    conflicts = ap (drop 1) e;
  }

  keys_alike : (p q : ℕ) → p < length masked.rows.now → q < length masked.rows.now → AlikeInMask R flags p q → key_of masked p ≡ key_of masked q
  keys_alike p q l m a =
      ap₂ (λ x xs. x ∷ xs)
      (row_once masked.pool.now is.is_pool (row_id masked.rows.now p) (row_id masked.rows.now q) (row_within p l) (row_within q m) (sym (masked_row p l) ∙ a.clauses ∙ masked_row q m))
      a.conflicts

  pub group_none : (seen : List (List ℕ)) (least group_of : List ℕ) → seen ≡ [] → least ≡ [] → group_of ≡ [] → GroupsSoFar masked seen least group_of 0
  group_none seen least group_of e f g = record {
    key = e ∙ sym (ap (map (key_of masked)) f);
    count = ap length g;
    short = (let z : length least ≡ 0 = ap length f in omega (arith, z));
    ascending = subst Ascending (sym f) tt;
    below = λ p i. absurd (In_none (subst (λ xs. In p xs) f i));
    there = λ p i. absurd (In_none (subst (λ xs. In p xs) f i));
    first = λ p q i u l a. In_none (subst (λ xs. In p xs) f i);
    within = λ q l u. absurd (omega arith);
    alike = λ q l u. absurd (omega arith);
  }

  module _ (seen : List (List ℕ)) (least group_of group_of2 : List ℕ) (n place : ℕ) (g : GroupsSoFar masked seen least group_of n) (pushed : group_of2 ≡ group_of ++ place ∷ []) where
    old_place : (q : ℕ) → q < n → get_or group_of2 q 0 ≡ get_or group_of q 0
    old_place q u = ap (λ z. get_or z q 0) pushed ∙ push_old group_of place q (let h : length group_of ≡ n = g.count in omega (arith, h))

    own_place : get_or group_of2 n 0 ≡ place
    own_place = ap (λ z. get_or z n 0) pushed ∙ push_new group_of place n g.count

    count_more : length group_of2 ≡ n + 1
    count_more = ap length pushed ∙ (let e : length (group_of ++ place ∷ []) ≡ length group_of + 1 = length-append group_of (place ∷ []) in let h : length group_of ≡ n = g.count in omega (arith, e, h))

    -- a package that is not in the mask
    pub group_skip : flag flags n ≡ false → GroupsSoFar masked seen least group_of2 (n + 1)
    group_skip down =
        let before : (q : ℕ) → q < n + 1 → flag flags q ≡ true → q < n = λ q l u.
        elim (cases_eq q n) [ inl e ↦ absurd (both_ways (flag flags n) down (subst (λ z. flag flags z ≡ true) e u)) | inr ne ↦ omega (arith, ne) ] in
        let s : length least ≤ n = g.short in
        record {
          key = g.key;
          count = count_more;
          short = omega (arith, s);
          ascending = g.ascending;
          below = λ p i. (let b : p < n = g.below p i in omega (arith, b));
          there = g.there;
          first = g.first;
          within = λ q l u. subst (λ z. z < length least) (sym (old_place q (before q l u))) (g.within q (before q l u) u);
          alike = λ q l u. subst (λ z. AlikeInMask R flags q (get_or least z 0)) (sym (old_place q (before q l u))) (g.alike q (before q l u) u);
        }

    module _ (seen2 : List (List ℕ)) (least2 : List ℕ) (l : n < length masked.rows.now) (up : flag flags n ≡ true) (placed : IsPlaceAmong seen seen2 least least2 n (key_of masked n) place) where
      gained : (least2 ≡ least) ⊎ (least2 ≡ least ++ n ∷ [])
      gained = elim placed.gains [ inl w ↦ inl w.2 | inr w ↦ inr w.2 ]

      seen_is : seen2 ≡ map (key_of masked) least2
      seen_is = elim placed.gains [
        | inl w ↦ w.1 ∙ g.key ∙ sym (ap (map (key_of masked)) w.2)
        | inr w ↦ w.1 ∙ ap (λ z. z ++ key_of masked n ∷ []) g.key ∙ sym (map-append (key_of masked) least (n ∷ [])) ∙ sym (ap (map (key_of masked)) w.2)
      ]

      pub place_within : place < length least2
      place_within = let e : length seen2 ≡ length least2 = ap length seen_is ∙ length-map least2 (key_of masked) in let w : place < length seen2 = placed.within in omega (arith, e, w)

      pub place_short : length least2 ≤ n + 1
      place_short =
          let s : length least ≤ n = g.short in
          elim gained [
            | inl e ↦ (let h : length least2 ≡ length least = ap length e in omega (arith, h, s))
            | inr e ↦ (let h : length least2 ≡ length least + 1 = ap length e ∙ length-append least (n ∷ []) in omega (arith, h, s))
          ]

      -- one that was among the least, or the package itself
      least2_cases : (p : ℕ) → In p least2 → In p least ⊎ (p ≡ n)
      least2_cases p i = elim gained [
        | inl e ↦ inl (subst (λ z. In p z) e i)
        | inr e ↦ elim (In_append_cases least (n ∷ []) p (subst (λ z. In p z) e i)) [
          | inl j ↦ inl j
          | inr j ↦ elim (In_cases j) [ inl s ↦ inr s | inr k ↦ absurd (In_none k) ]
        ]
      ]

      least2_below : (p : ℕ) → In p least2 → p < n + 1
      least2_below p i = elim (least2_cases p i) [ inl j ↦ (let b : p < n = g.below p j in omega (arith, b)) | inr e ↦ omega (arith, e) ]

      its_alike : AlikeInMask R flags n (get_or least2 place 0)
      its_alike =
          alike_keys n (get_or least2 place 0) l (let b : get_or least2 place 0 < n + 1 = least2_below (get_or least2 place 0) (In_at least2 place 0 place_within) in omega (arith, b, l))
          (sym placed.holds ∙ ap (λ z. get_or z place []) seen_is ∙ get_or-map (key_of masked) least2 place 0 [] place_within)

      -- no lesser one is like a new one
      new_first : (In (key_of masked n) seen → ⊥) → (q : ℕ) → flag flags q ≡ true → q < n → AlikeInMask R flags q n → ⊥
      new_first none q u m a =
          let k : ℕ = get_or group_of q 0 in
          let f : ℕ = get_or least k 0 in
          let i : In f least = In_at least k 0 (g.within q m u) in
          let b : f < n = g.below f i in
          let same : AlikeInMask R flags q f = g.alike q m u in
          none (subst (λ z. In (key_of masked n) z) (sym g.key)
          (subst (λ z. In z (map (key_of masked) least))
          (sym (keys_alike n f l (omega (arith, b, l)) (record { clauses = sym a.clauses ∙ same.clauses; conflicts = sym a.conflicts ∙ same.conflicts })))
          (In_map (key_of masked) least f i)))

      ascends : Ascending least2
      ascends = elim gained [
        | inl e ↦ subst Ascending (sym e) g.ascending
        | inr e ↦ subst Ascending (sym e) (ascending_push least n g.ascending g.below)
      ]

      firsts_alone : (p q : ℕ) → In p least2 → flag flags q ≡ true → q < p → AlikeInMask R flags q p → ⊥
      firsts_alone p q i u m a = elim placed.gains [
        | inl w ↦ g.first p q (subst (λ z. In p z) w.2 i) u m a
        | inr w ↦ elim (least2_cases p i) [
          | inl j ↦ g.first p q j u m a
          | inr e ↦ new_first w.0 q u (subst (λ z. q < z) e m) (subst (λ z. AlikeInMask R flags q z) e a)
        ]
      ]

      pub group_more : GroupsSoFar masked seen2 least2 group_of2 (n + 1)
      group_more = record {
        key = seen_is;
        count = count_more;
        short = place_short;
        ascending = ascends;
        below = least2_below;
        there = λ p i. elim (least2_cases p i) [ inl j ↦ g.there p j | inr e ↦ subst (λ z. flag flags z ≡ true) (sym e) up ];
        first = firsts_alone;
        within = λ q m u. elim (cases_eq q n) [
          | inl e ↦ subst (λ z. z < length least2) (sym (ap (λ z. get_or group_of2 z 0) e ∙ own_place)) place_within
          | inr ne ↦
              let b : q < n = omega (arith, ne, m) in
              subst (λ z. z < length least2) (sym (old_place q b)) (front_stays least least2 n gained (get_or group_of q 0) (g.within q b u)).0
        ];
        alike = λ q m u. elim (cases_eq q n) [
          | inl e ↦ subst (λ z. AlikeInMask R flags q (get_or least2 z 0)) (sym (ap (λ z. get_or group_of2 z 0) e ∙ own_place)) (subst (λ z. AlikeInMask R flags z (get_or least2 place 0)) (sym e) its_alike)
          | inr ne ↦
              let b : q < n = omega (arith, ne, m) in
              subst (λ z. AlikeInMask R flags q (get_or least2 z 0)) (sym (old_place q b))
              (subst (λ z. AlikeInMask R flags q z) (sym (front_stays least least2 n gained (get_or group_of q 0) (g.within q b u)).1) (g.alike q b u))
        ];
      }

  pub group_all : (seen : List (List ℕ)) (classes : Classes) (n : ℕ) → n ≡ length flags → GroupsSoFar masked seen classes.firsts.items classes.class_of.items n → AreClasses masked classes
  group_all seen classes n e g = record {
    grouped = record {
      ascending = g.ascending;
      there = g.there;
      first = g.first;
      within = λ p up. g.within p (subst (λ z. p < z) (sym e) (flag_in flags p up)) up;
      alike = λ p up. g.alike p (subst (λ z. p < z) (sym e) (flag_in flags p up)) up;
    };
    size = g.count ∙ e;
    short = (let s : length classes.firsts.items ≤ n = g.short in omega (arith, s, e));
  }
