-- Families of clauses in scratch space: how they grow, and what they come to.
use Rattle.std.proofs.Common.{◌≡◌, ◌≢◌, ℕ, zero, suc, ◌<◌, ◌≤◌, ◌+◌, Bool, true, false, not, ◌&&◌, ◌||◌, ltb, cond, List, [], ◌∷◌, ◌++◌, length, get_or, take}
use Rattle.std.proofs.Common.{map, filter, ◌⊎◌, inl, inr, refl, sym, ◌∙◌, ap, ap₂, subst, arith, append-nil, append_assoc, zero-le, eqb, eqb-true, lt-ltb}
use Rattle.std.proofs.lemmas.Cmp.{ranked}
use Rattle.std.proofs.lemmas.Bool.{OnTrue_from, false≢true, both_ways, cases_Bool, cases_lt, cond-true, cond-false, false_from_ne_true, and_from, and_parts}
use Rattle.std.proofs.{lemmas.Bool.{not_from_false, not_from_true, ltb-true}, lemmas.List.{take_more, map-append, length-append}}
use Rattle.std.proofs.{lemmas.List.Elements.{filter_more}, lemmas.Grind.{flat_map-append}}
use Rattle.std.specs.{List.{flat_map, list_all, HoldsAt}, Bool.{OnTrue}, Prelude.{Result, Ok, Err, IfOk}, Result.{is_ok}, List.Sorted.{IsSearchInRange}}
use Rattle.std.specs.{Ordering.{MatchOrdering, nat_cmp}, declared.cmp.Ordering.TheVariants.{Equal}}
use Rattle.listed.proofs.Lists.{item_nil, In_append_cases, In_append_left, In_append_right, In_cases, In_has, In_map, In_none, any_from, any_cases}
use Rattle.listed.proofs.Lists.{filter_cases, filter_from, filter_same, item_in}
use Rattle.clause_pool.specs.{Interned.{Interned, clause_at, clauses_at, row_at, Kept, OfPool, IsIdOf}, Clauses.{apart_from, minimal_of}}
use Rattle.clause_pool.proofs.{Lists.{In_at}, Interned.{kept_along, clauses_kept, kept_of_pool}}
use Rattle.clause_pool.proofs.Clauses.{apart_in, inside_at, inside_from, minimal_of_from, minimal_of_parts}
use Rattle.listed.specs.Lists.{In, has, here, there, Ascending, Inside, is_inside}
use Rattle.clause_families.specs.{Inclusion.{has_shorter}, Families.{HoldsOneOf, IncludesOneOf, InternedSoFar, Useful}}

-- Steps of loops over lists.

pub item_zero : (xs : List ℕ) (i x : ℕ) → i < length xs → x ≡ get_or xs i x → get_or xs i 0 ≡ x
item_zero [] i x l e = absurd (omega arith)
item_zero (y ∷ ys) zero x l e = sym e
item_zero (y ∷ ys) (suc i) x l e = item_zero ys i x (omega arith) e

pub clauses_length : (pool : Interned) (ids : List ℕ) → length (clauses_at pool ids) ≡ length ids
clauses_length pool [] = refl
clauses_length pool (id ∷ ids) = ap suc (clauses_length pool ids)

pub clauses_item : (pool : Interned) (ids : List ℕ) (i : ℕ) → i < length ids → get_or (clauses_at pool ids) i [] ≡ clause_at pool (get_or ids i 0)
clauses_item pool [] i l = absurd (omega arith)
clauses_item pool (id ∷ ids) zero l = refl
clauses_item pool (id ∷ ids) (suc i) l = clauses_item pool ids i (omega arith)

-- the place of a clause that a loop over ids is at
pub record At (xs : List (List ℕ)) (i : ℕ) (clause : List ℕ) : Type 0 where
  pub below : i < length xs
  pub is : get_or xs i [] ≡ clause

pub at_clause : (pool : Interned) (ids : List ℕ) (i id : ℕ) (clause : List ℕ) → i < length ids → id ≡ get_or ids i id → clause ≡ clause_at pool id → At (clauses_at pool ids) i clause
at_clause pool ids i id clause l e f = record {
  below = let n : length (clauses_at pool ids) ≡ length ids = clauses_length pool ids in omega arith;
  is = clauses_item pool ids i l ∙ ap (clause_at pool) (item_zero ids i id l e) ∙ sym f;
}

pub at_item : (xs : List (List ℕ)) (i : ℕ) (x clause : List ℕ) → i < length xs → x ≡ get_or xs i x → clause ≡ x → At xs i clause
at_item xs i x clause l e f = record { below = l; is = item_nil xs i x l e ∙ sym f }

pub taken_at : (xs : List (List ℕ)) (i : ℕ) (clause : List ℕ) → At xs i clause → take (i + 1) xs ≡ take i xs ++ clause ∷ []
taken_at xs i clause a = take_more xs i [] a.below ∙ ap (λ z. take i xs ++ z ∷ []) a.is

pub filter_kept : (p : List ℕ → Bool) (xs : List (List ℕ)) (i : ℕ) (clause : List ℕ) → At xs i clause → p clause ≡ true → filter p (take (i + 1) xs) ≡ filter p (take i xs) ++ clause ∷ []
filter_kept p xs i clause a h =
    filter_more p xs i [] a.below
    ∙ ap (λ z. filter p (take i xs) ++ cond (p z) (z ∷ []) []) a.is
    ∙ ap (λ z. filter p (take i xs) ++ z) (cond-true (p clause) (clause ∷ []) [] h)

pub filter_left : (p : List ℕ → Bool) (xs : List (List ℕ)) (i : ℕ) (clause : List ℕ) → At xs i clause → p clause ≡ false → filter p (take (i + 1) xs) ≡ filter p (take i xs)
filter_left p xs i clause a h =
    filter_more p xs i [] a.below
    ∙ ap (λ z. filter p (take i xs) ++ cond (p z) (z ∷ []) []) a.is
    ∙ ap (λ z. filter p (take i xs) ++ z) (cond-false (p clause) (clause ∷ []) [] h)
    ∙ append-nil (filter p (take i xs))

pub one_more : (p : List ℕ → Bool) (xs : List (List ℕ)) (i : ℕ) (clause : List ℕ) → At xs i clause → p clause ≡ true →
    length (filter p (take (i + 1) xs)) ≡ length (filter p (take i xs)) + 1
one_more p xs i clause a h = ap length (filter_kept p xs i clause a h) ∙ length-append (filter p (take i xs)) (clause ∷ [])

pub none_more : (p : List ℕ → Bool) (xs : List (List ℕ)) (i : ℕ) (clause : List ℕ) → At xs i clause → p clause ≡ false →
    length (filter p (take (i + 1) xs)) ≡ length (filter p (take i xs))
none_more p xs i clause a h = ap length (filter_left p xs i clause a h)

pub map_at : (f : List ℕ → List ℕ) (xs : List (List ℕ)) (i : ℕ) (clause : List ℕ) → At xs i clause → map f (take (i + 1) xs) ≡ map f (take i xs) ++ f clause ∷ []
map_at f xs i clause a = ap (map f) (taken_at xs i clause a) ∙ map-append f (take i xs) (clause ∷ [])

pub flat_at : (f : List ℕ → List (List ℕ)) (xs : List (List ℕ)) (i : ℕ) (clause : List ℕ) → At xs i clause → flat_map f (take (i + 1) xs) ≡ flat_map f (take i xs) ++ f clause
flat_at f xs i clause a =
    ap (flat_map f) (taken_at xs i clause a) ∙ flat_map-append f (take i xs) (clause ∷ []) ∙ ap (λ z. flat_map f (take i xs) ++ z) (append-nil (f clause))

pub filter_push : (p : List ℕ → Bool) (xs : List (List ℕ)) (i : ℕ) (clause x : List ℕ) (old new : List (List ℕ)) → At xs i clause → p clause ≡ true → old ≡ filter p (take i xs) → x ≡ clause →
    new ≡ old ++ x ∷ [] → new ≡ filter p (take (i + 1) xs)
filter_push p xs i clause x old new a h e f g = g ∙ ap₂ (λ z y. z ++ y ∷ []) e f ∙ sym (filter_kept p xs i clause a h)

pub filter_skip : (p : List ℕ → Bool) (xs : List (List ℕ)) (i : ℕ) (clause : List ℕ) (old new : List (List ℕ)) → At xs i clause → p clause ≡ false → old ≡ filter p (take i xs) →
    new ≡ old → new ≡ filter p (take (i + 1) xs)
filter_skip p xs i clause old new a h e g = g ∙ e ∙ sym (filter_left p xs i clause a h)

pub map_push : (f : List ℕ → List ℕ) (xs : List (List ℕ)) (i : ℕ) (clause x : List ℕ) (first old new : List (List ℕ)) → At xs i clause → old ≡ first ++ map f (take i xs) → x ≡ f clause →
    new ≡ old ++ x ∷ [] → new ≡ first ++ map f (take (i + 1) xs)
map_push f xs i clause x first old new a e h g =
    g ∙ ap₂ (λ z y. z ++ y ∷ []) e h ∙ append_assoc first (map f (take i xs)) (f clause ∷ []) ∙ ap (λ z. first ++ z) (sym (map_at f xs i clause a))

pub flat_push : (f : List ℕ → List (List ℕ)) (xs : List (List ℕ)) (i : ℕ) (clause : List ℕ) (ys first old new : List (List ℕ)) → At xs i clause → old ≡ first ++ flat_map f (take i xs) → ys ≡ f clause →
    new ≡ old ++ ys → new ≡ first ++ flat_map f (take (i + 1) xs)
flat_push f xs i clause ys first old new a e h g =
    g ∙ ap₂ (λ z y. z ++ y) e h ∙ append_assoc first (flat_map f (take i xs)) (f clause) ∙ ap (λ z. first ++ z) (sym (flat_at f xs i clause a))

pub flat_skip : (f : List ℕ → List (List ℕ)) (xs : List (List ℕ)) (i : ℕ) (clause : List ℕ) (first old new : List (List ℕ)) → At xs i clause → old ≡ first ++ flat_map f (take i xs) → f clause ≡ [] →
    new ≡ old → new ≡ first ++ flat_map f (take (i + 1) xs)
flat_skip f xs i clause first old new a e h g =
    flat_push f xs i clause [] first old new a e (sym h) (g ∙ sym (append-nil old))

-- The ids of a pool in a list.

pub of_pool_item : (pool : Interned) (ids : List ℕ) (i id : ℕ) → OfPool pool ids → i < length ids → id ≡ get_or ids i id → id < length pool.clauses
of_pool_item pool ids i id f l e = f id (item_in ids i id l e)

pub of_pool_push : (pool : Interned) (ids new : List ℕ) (id : ℕ) → OfPool pool ids → id < length pool.clauses → new ≡ ids ++ id ∷ [] → OfPool pool new
of_pool_push pool ids new id f l e k i =
    elim (In_append_cases ids (id ∷ []) k (subst (λ z. In k z) e i)) [
      | inl a ↦ f k a
      | inr b ↦ elim (In_cases b) [ inl s ↦ subst (λ z. z < length pool.clauses) (sym s) l | inr j ↦ absurd (In_none j) ]
    ]

-- the row of an id that was just made
pub row_interned : (old new : Interned) (ids : List ℕ) (id : ℕ) → Kept old new → OfPool old ids → IsIdOf new.rows ids id → row_at new id ≡ clauses_at old ids
row_interned old new ids id k f at = ap (clauses_at new) at.holds ∙ clauses_kept old new k ids f

pub empty_items : (xs : List ℕ) (n : ℕ) (b : Bool) → n ≡ length xs → b ≡ eqb n 0 → b ≡ true → xs ≡ []
empty_items [] n b l e t = refl
empty_items (x ∷ xs) n b l e t = let z : n ≡ 0 = eqb-true n 0 (sym e ∙ t) in let m : n ≡ suc (length xs) = l in absurd (omega arith)

-- A clause of the spent package's row is useful or not.

equal_same : (x y : ℕ) → nat_cmp x y ≡ Equal → x ≡ y
equal_same x y e = subst (λ o. MatchOrdering o (x < y) (x ≡ y) (y < x)) e (ranked x y (nat_cmp x y) refl)

pub found_one : (numbers : List ℕ) (n : ℕ) (r : Result ℕ ℕ) (b : Bool) → IsSearchInRange r (length numbers) → IfOk r (HoldsAt (λ y. nat_cmp y n ≡ Equal) numbers) → b ≡ is_ok r → OnTrue b (In n numbers)
found_one numbers n (Ok k) b l h e = OnTrue_from b (In n numbers) (λ t. subst (λ z. In z numbers) (equal_same (get_or numbers k 0) n (h 0)) (In_at numbers k 0 l))
found_one numbers n (Err k) b l h e = OnTrue_from b (In n numbers) (λ t. absurd (false≢true (sym e ∙ t)))

pub singles_more : (spent : ℕ) (pool : Interned) (row : List ℕ) (i id : ℕ) (clause : List ℕ) (literal : ℕ) (old new : List ℕ) →
    i < length row → id ≡ get_or row i id → clause ≡ clause_at pool id → clause ≡ literal ∷ [] → literal ≢ spent →
    ((n : ℕ) → In n old → In (n ∷ []) (apart_from spent (clauses_at pool row))) → new ≡ old ++ literal ∷ [] →
    (n : ℕ) → In n new → In (n ∷ []) (apart_from spent (clauses_at pool row))
singles_more spent pool row i id clause literal old new l e f g ne before is n j =
    elim (In_append_cases old (literal ∷ []) n (subst (λ z. In n z) is j)) [
      | inl a ↦ before n a
      | inr b ↦ elim (In_cases b) [
        | inl s ↦
            let at : In (literal ∷ []) (clauses_at pool row) = subst (λ z. In z (clauses_at pool row)) (sym f ∙ g) (In_map (clause_at pool) row id (item_in row i id l e)) in
            subst (λ z. In (z ∷ []) (apart_from spent (clauses_at pool row))) (sym s)
            (apart_in spent (clauses_at pool row) (literal ∷ []) at (λ k. elim (In_cases k) [ inl t ↦ ne (sym t) | inr m ↦ In_none m ]))
        | inr k ↦ absurd (In_none k)
      ]
    ]

module _ (pool : Interned) (user : ℕ) (Needless : List ℕ → Type 0) where
  next_of : (ids : List ℕ) (i id k : ℕ) → i < length ids → id ≡ get_or ids i id → In k (take (i + 1) ids) → In k (take i ids) ⊎ (k ≡ id)
  next_of ids i id k l e j =
      elim (In_append_cases (take i ids) (id ∷ []) k (subst (λ z. In k z) (take_more ids i id l ∙ ap (λ z. take i ids ++ z ∷ []) (sym e)) j)) [
        | inl a ↦ inl a
        | inr b ↦ elim (In_cases b) [ inl s ↦ inr s | inr m ↦ absurd (In_none m) ]
      ]

  still : (ids : List ℕ) (i id k : ℕ) → i < length ids → id ≡ get_or ids i id → In k (take i ids) ⊎ (k ≡ id) → In k (take (i + 1) ids)
  still ids i id k l e s =
      subst (λ z. In k z) (sym (take_more ids i id l ∙ ap (λ z. take i ids ++ z ∷ []) (sym e)))
      (elim s [
        | inl a ↦ In_append_left (take i ids) (id ∷ []) k a
        | inr b ↦ In_append_right (take i ids) (id ∷ []) k (subst (λ z. In k (z ∷ [])) b here)
      ])

  pub useful_more : (ids : List ℕ) (i id : ℕ) (old new : List ℕ) → i < length ids → id ≡ get_or ids i id → (In user (clause_at pool id) → ⊥) →
      Useful pool user Needless (take i ids) old → new ≡ old ++ id ∷ [] → Useful pool user Needless (take (i + 1) ids) new
  useful_more ids i id old new l e f u is =
      let split : (k : ℕ) → In k new → In k old ⊎ (k ≡ id) = λ k j. elim (In_append_cases old (id ∷ []) k (subst (λ z. In k z) is j)) [
        | inl a ↦ inl a
        | inr b ↦ elim (In_cases b) [ inl s ↦ inr s | inr m ↦ absurd (In_none m) ]
      ] in
      record {
        part = λ k j. elim (split k j) [ inl a ↦ still ids i id k l e (inl (u.part k a)) | inr s ↦ still ids i id k l e (inr s) ];
        apart = λ k j. elim (split k j) [ inl a ↦ u.apart k a | inr s ↦ λ m. f (subst (λ z. In user (clause_at pool z)) s m) ];
        rest = λ k j. elim (next_of ids i id k l e j) [
          | inl a ↦ elim (u.rest k a) [ inl b ↦ inl (subst (λ z. In k z) (sym is) (In_append_left old (id ∷ []) k b)) | inr b ↦ inr b ]
          | inr s ↦ inl (subst (λ z. In k z) (sym is) (In_append_right old (id ∷ []) k (subst (λ z. In k (z ∷ [])) s here)))
        ];
      }

  pub useful_less : (ids : List ℕ) (i id : ℕ) (old new : List ℕ) → i < length ids → id ≡ get_or ids i id → In user (clause_at pool id) ⊎ Needless (clause_at pool id) →
      Useful pool user Needless (take i ids) old → new ≡ old → Useful pool user Needless (take (i + 1) ids) new
  useful_less ids i id old new l e f u is = subst (λ z. Useful pool user Needless (take (i + 1) ids) z) (sym is) (record {
    part = λ k j. still ids i id k l e (inl (u.part k j));
    apart = u.apart;
    rest = λ k j. elim (next_of ids i id k l e j) [
      | inl a ↦ u.rest k a
      | inr s ↦ inr (subst (λ z. In user (clause_at pool z) ⊎ Needless (clause_at pool z)) (sym s) f)
    ];
  })

  pub useful_weaker : (More : List ℕ → Type 0) (ids useful : List ℕ) → ((c : List ℕ) → Needless c → More c) → Useful pool user Needless ids useful → Useful pool user More ids useful
  useful_weaker More ids useful f u = record {
    part = u.part;
    apart = u.apart;
    rest = λ k j. elim (u.rest k j) [ inl a ↦ inl a | inr b ↦ elim b [ inl m ↦ inr (inl m) | inr n ↦ inr (inr (f (clause_at pool k) n)) ] ];
  }

-- a clause that stands in the row and does not hold the number
pub row_has_it : (pool : Interned) (spent : ℕ) (row : List ℕ) (id : ℕ) → In id row → has (clause_at pool id) spent ≡ false → IncludesOneOf (apart_from spent (clauses_at pool row)) (clause_at pool id)
row_has_it pool spent row id i h =
    (clause_at pool id, apart_in spent (clauses_at pool row) (clause_at pool id) (In_map (clause_at pool) row id i) (λ j. both_ways (has (clause_at pool id) spent) h (In_has j)), λ n j. j)

-- clauses are left out of those that were left
pub useful_of_useful : (pool : Interned) (user : ℕ) (Needless : List ℕ → Type 0) (ids fresh slice useful : List ℕ) → slice ≡ fresh → Useful pool user Needless ids fresh → Useful pool user Needless slice useful → Useful pool user Needless ids useful
useful_of_useful pool user Needless ids fresh slice useful same a b = record {
  part = λ k j. a.part k (subst (λ z. In k z) same (b.part k j));
  apart = b.apart;
  rest = λ k j. elim (a.rest k j) [ inl o ↦ b.rest k (subst (λ z. In k z) (sym same) o) | inr n ↦ inr n ];
}

pub single_inside : (others : List (List ℕ)) (numbers : List ℕ) → ((n : ℕ) → In n numbers → In (n ∷ []) others) → (c : List ℕ) → HoldsOneOf numbers c → IncludesOneOf others c
single_inside others numbers f c h =
    (h.0 ∷ [], f h.0 h.2, λ m j. elim (In_cases j) [ inl e ↦ subst (λ z. In z c) (sym e) h.1 | inr k ↦ absurd (In_none k) ])

-- Minimal clauses, put into the pool one by one.

pub inside_length : (S T : List ℕ) → Ascending S → Ascending T → Inside S T → length S ≤ length T
inside_length [] T a b f = zero-le
inside_length (s ∷ ss) [] a b f = absurd (In_none (f s here))
inside_length (s ∷ ss) (t ∷ ts) a b f =
    let rest : length ss ≤ length ts = inside_length ss ts a.1 b.1 (λ n i. tail_in s ss t ts a b f n i) in omega arith
  where
    tail_in : (s : ℕ) (ss : List ℕ) (t : ℕ) (ts : List ℕ) → Ascending (s ∷ ss) → Ascending (t ∷ ts) → Inside (s ∷ ss) (t ∷ ts) → Inside ss ts
    tail_in s ss t ts a b f n i =
        let l : s < n = a.0 n i in
        elim (In_cases (f n (there i))) [
          | inl e ↦ elim (In_cases (f s here)) [
            | inl g ↦ absurd (omega arith)
            | inr j ↦ let m : t < s = b.0 s j in absurd (omega arith)
          ]
          | inr j ↦ j
        ]

-- an ascending clause inside one that is no longer is the same
pub inside_same : (S T : List ℕ) → Ascending S → Ascending T → Inside S T → length T ≤ length S → Inside T S
inside_same S [] a b f l n i = absurd (In_none i)
inside_same [] (t ∷ ts) a b f l n i = absurd (let k : suc (length ts) ≤ 0 = l in omega arith)
inside_same (s ∷ ss) (t ∷ ts) a b f l n i =
    elim (In_cases (f s here)) [
      | inr j ↦
          let m : t < s = b.0 s j in
          let all : Inside (s ∷ ss) ts = λ k o. elim (In_cases (f k o)) [
            | inl e ↦ elim (In_cases o) [ inl g ↦ absurd (omega arith) | inr p ↦ let u : s < k = a.0 k p in absurd (omega arith) ]
            | inr p ↦ p
          ] in
          let short : suc (length ss) ≤ length ts = inside_length (s ∷ ss) ts a b.1 all in
          let long : suc (length ts) ≤ suc (length ss) = l in
          absurd (omega arith)
      | inl e ↦
          let rest : Inside ss ts = λ k o. elim (In_cases (f k (there o))) [ inl g ↦ let u : s < k = a.0 k o in absurd (omega arith) | inr p ↦ p ] in
          let long : suc (length ts) ≤ suc (length ss) = l in
          let back : Inside ts ss = inside_same ss ts a.1 b.1 rest (omega arith) in
          elim (In_cases i) [ inl g ↦ subst (λ z. In z (s ∷ ss)) (e ∙ sym g) here | inr p ↦ there (back n p) ]
    ]

module _ (family : List (List ℕ)) (up : (c : List ℕ) → In c family → Ascending c) where
  pub not_shorter : (T : List ℕ) → Ascending T → has_shorter family T ≡ false → (S : List ℕ) → In S family → Inside S T → Inside T S
  not_shorter T t h S s f =
      elim (cases_lt (length S) (length T)) [
        | inl l ↦
            absurd (both_ways (has_shorter family T) h
            (any_from (λ other. ltb (length other) (length T) && is_inside other T) family S s (and_from (ltb (length S) (length T)) (is_inside S T) (lt-ltb (length S) (length T) l) (inside_from S T f))))
        | inr m ↦ inside_same S T (up S s) t f (omega arith)
      ]

  pub some_shorter : (T : List ℕ) → Ascending T → has_shorter family T ≡ true → ((S : List ℕ) → In S family → Inside S T → Inside T S) → ⊥
  some_shorter T t h f =
      let w : (S : List ℕ) × In S family × ((ltb (length S) (length T) && is_inside S T) ≡ true) = any_cases (λ other. ltb (length other) (length T) && is_inside other T) family h in
      let b : (ltb (length w.0) (length T) ≡ true) × (is_inside w.0 T ≡ true) = and_parts (ltb (length w.0) (length T)) (is_inside w.0 T) w.2 in
      let l : length w.0 < length T = ltb-true (length w.0) (length T) b.0 in
      let m : length T ≤ length w.0 = inside_length T w.0 t (up w.0 w.1) (f w.0 w.1 (inside_at w.0 T b.1)) in
      omega arith

  lowest : List ℕ → Bool
  lowest T = list_all (λ S. not (is_inside S T) || is_inside T S) family

  lowest_is : (T : List ℕ) → In T family → not (has_shorter family T) ≡ lowest T
  unfolding lowest
  lowest_is T t =
      elim (cases_Bool (has_shorter family T)) [
        | inl h ↦
            not_from_true (has_shorter family T) h
            ∙ sym (false_from_ne_true (lowest T) (λ k. some_shorter T (up T t) h (minimal_of_parts family T (filter_from lowest family T t k)).1))
        | inr h ↦
            not_from_false (has_shorter family T) h
            ∙ sym (filter_cases lowest family T (minimal_of_from family T t (not_shorter T (up T t) h))).1
      ]

  pub lowest_minimal : filter (λ clause. not (has_shorter family clause)) family ≡ minimal_of family
  unfolding lowest
  lowest_minimal = filter_same (λ clause. not (has_shorter family clause)) lowest family lowest_is

pub interned_more : (start old new : Interned) (family : List (List ℕ)) (i : ℕ) (clause : List ℕ) (ids more : List ℕ) (id : ℕ) → At family i clause → has_shorter family clause ≡ false →
    InternedSoFar start old family (take i family) ids → Kept old new → IsIdOf new.clauses clause id → more ≡ ids ++ id ∷ [] → InternedSoFar start new family (take (i + 1) family) more
interned_more start old new family i clause ids more id a h s k at is = record {
  made = ap (clauses_at new) is ∙ map-append (clause_at new) ids (id ∷ []) ∙ ap₂ (λ z y. z ++ y ∷ []) (clauses_kept old new k ids s.of_pool ∙ s.made) at.holds
      ∙ sym (filter_kept (λ c. not (has_shorter family c)) family i clause a (not_from_false (has_shorter family clause) h));
  of_pool = of_pool_push new ids more id (kept_of_pool old new k ids s.of_pool) at.within is;
  kept = kept_along start old new s.kept k;
}

pub interned_less : (start old : Interned) (family : List (List ℕ)) (i : ℕ) (clause : List ℕ) (ids : List ℕ) → At family i clause → has_shorter family clause ≡ true →
    InternedSoFar start old family (take i family) ids → InternedSoFar start old family (take (i + 1) family) ids
interned_less start old family i clause ids a h s = record {
  made = s.made ∙ sym (filter_left (λ c. not (has_shorter family c)) family i clause a (not_from_true (has_shorter family clause) h));
  of_pool = s.of_pool;
  kept = s.kept;
}
