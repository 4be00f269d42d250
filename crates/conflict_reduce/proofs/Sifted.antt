-- A clause whose members have no conflict in common faces none but the empty one, which faces all.
use Rattle.std.proofs.Common.{◌≡◌, ℕ, ◌<◌, ◌+◌, Bool, true, false, not, cond, eqb, List, [], ◌∷◌, length, inl, inr, refl, sym, ◌∙◌, ap, subst, arith, map}
use Rattle.std.proofs.{Common.{filter}, lemmas.Bool.{false_from_ne_true, not_from_false}}
use Rattle.std.specs.List.{list_all, list_any}
use Rattle.listed.proofs.{Lists.{none_listed, In_at, In_cases, In_none, all_from, any_from, filter_cases, filter_from, has_In}, Bools.{same_bool}}
use Rattle.clause_pool.specs.{Interned.{Interned, IsPool, OfPool, clause_at, clauses_at, ids_at, row_at}, Lists.{InOrder}}
use Rattle.row_book.specs.{declared.book.Book.{Book}, Facing.{against_in, all_against, common_to, face}, Book.{listed_for, Sound}, Uses.{row_id}}
use Rattle.listed.specs.Lists.{In, here, there}
use Rattle.row_book.proofs.{Facing.{all_against_at, all_against_from, face_parts}, Numbers.{at_numbers}}
use Rattle.clause_pool.proofs.Order.{order_filter}
use Rattle.conflict_reduce.specs.Live.{live_ids, live_of, may_face}

-- the clauses of an id's row that pass a test
pub mapped : (f : ℕ → List ℕ) (p : List ℕ → Bool) (xs : List ℕ) → map f (filter (λ x. p (f x)) xs) ≡ filter p (map f xs)
mapped f p [] = refl
mapped f p (x ∷ xs) = pick (p (f x)) (mapped f p xs)
  where
    pick : (b : Bool) → map f (filter (λ x. p (f x)) xs) ≡ filter p (map f xs) → map f (cond b (x ∷ filter (λ x. p (f x)) xs) (filter (λ x. p (f x)) xs)) ≡ cond b (f x ∷ filter p (map f xs)) (filter p (map f xs))
    pick true e = ap (λ z. f x ∷ z) e
    pick false e = e

pub live_at : (pool : Interned) (book : Book) (p : ℕ) → p < length book.rows → listed_for (live_of pool book) p ≡ live_ids pool book p
unfolding live_of
live_at pool book p l = at_numbers (live_ids pool book) [] (length book.rows) 0 p l ∙ ap (live_ids pool book) (let e : 0 + p ≡ p = omega arith in e)

pub live_clauses : (pool : Interned) (book : Book) (p : ℕ) → p < length book.rows → clauses_at pool (listed_for (live_of pool book) p) ≡ filter (may_face book.conflicts) (row_at pool (row_id book.rows p))
live_clauses pool book p l = ap (clauses_at pool) (live_at pool book p l) ∙ mapped (clause_at pool) (may_face book.conflicts) (ids_at pool (row_id book.rows p))

pub live_of_pool : (pool : Interned) (book : Book) (p : ℕ) → IsPool pool → Sound pool book → p < length book.rows → OfPool pool (listed_for (live_of pool book) p)
live_of_pool pool book p is s l id i =
    is.of_pool (row_id book.rows p) (s.rows.of_pool (row_id book.rows p) (In_at book.rows p 0 l)) id
    (filter_cases (λ id. may_face book.conflicts (clause_at pool id)) (ids_at pool (row_id book.rows p)) id (subst (λ z. In id z) (live_at pool book p l) i)).0

pub live_in_order : (pool : Interned) (book : Book) (p : ℕ) → IsPool pool → Sound pool book → p < length book.rows → InOrder (clauses_at pool (listed_for (live_of pool book) p))
live_in_order pool book p is s l =
    subst InOrder (sym (live_clauses pool book p l))
    (order_filter (may_face book.conflicts) (row_at pool (row_id book.rows p)) (is.in_order (row_id book.rows p) (s.rows.of_pool (row_id book.rows p) (In_at book.rows p 0 l))))

-- by a test that passes conflicts of a table alone
module _ (table : List (List ℕ)) (f : ℕ → ℕ → Bool) (either : (p q : ℕ) → against_in table p q ≡ true → against_in table q p ≡ true) (part : (m n : ℕ) → f m n ≡ true → against_in table m n ≡ true) where
  not_none : (xs : List ℕ) (n : ℕ) → In n xs → not (eqb (length xs) 0) ≡ true
  not_none xs n i = not_from_false (eqb (length xs) 0) (false_from_ne_true (eqb (length xs) 0) (λ h. In_none (subst (λ z. In n z) (none_listed xs h) i)))

  shared : (m n : ℕ) (ms : List ℕ) → ((o : ℕ) → In o (m ∷ ms) → against_in table o n ≡ true) → may_face table (m ∷ ms) ≡ true
  shared m n ms g =
      not_none (common_to table m ms) n
      (filter_from (λ k. list_all (λ o. against_in table o k) ms) (listed_for table m) n (has_In (listed_for table m) n (g m here)) (all_from (λ o. against_in table o n) ms (λ o j. g o (there j))))

  face_from : (ds es : List (List ℕ)) (d e : List ℕ) → In d ds → In e es → all_against f d e ≡ true → face f ds es ≡ true
  face_from ds es d e i j h = any_from (λ c. list_any (all_against f c) es) ds d i (any_from (all_against f d) es e j h)

  kept : (c : List ℕ) (a : ℕ) (cs : List (List ℕ)) → In c ((a ∷ []) ∷ cs) → may_face table c ≡ true → In c ((a ∷ []) ∷ filter (may_face table) cs)
  kept c a cs i h = elim (In_cases i) [ inl e ↦ subst (λ z. In z ((a ∷ []) ∷ filter (may_face table) cs)) (sym e) here | inr j ↦ there (filter_from (may_face table) cs c j h) ]

  whole : (c : List ℕ) (a : ℕ) (cs : List (List ℕ)) → In c ((a ∷ []) ∷ filter (may_face table) cs) → In c ((a ∷ []) ∷ cs)
  whole c a cs i = elim (In_cases i) [ inl e ↦ subst (λ z. In z ((a ∷ []) ∷ cs)) (sym e) here | inr j ↦ there (filter_cases (may_face table) cs c j).0 ]

  faced : (a b : ℕ) (cs ds : List (List ℕ)) (d e : List ℕ) → In d ((a ∷ []) ∷ cs) → In e ((b ∷ []) ∷ ds) → all_against f d e ≡ true →
      face f ((a ∷ []) ∷ filter (may_face table) cs) ((b ∷ []) ∷ filter (may_face table) ds) ≡ true
  faced a b cs ds [] e i j h = face_from ((a ∷ []) ∷ filter (may_face table) cs) ((b ∷ []) ∷ filter (may_face table) ds) [] (b ∷ []) (kept [] a cs i refl) here refl
  faced a b cs ds (m ∷ ms) [] i j h = face_from ((a ∷ []) ∷ filter (may_face table) cs) ((b ∷ []) ∷ filter (may_face table) ds) (a ∷ []) [] here (kept [] b ds j refl) refl
  faced a b cs ds (m ∷ ms) (n ∷ ns) i j h =
      face_from ((a ∷ []) ∷ filter (may_face table) cs) ((b ∷ []) ∷ filter (may_face table) ds) (m ∷ ms) (n ∷ ns)
      (kept (m ∷ ms) a cs i (shared m n ms (λ o k. part o n (all_against_at f (m ∷ ms) (n ∷ ns) h o n k here))))
      (kept (n ∷ ns) b ds j (shared n m ns (λ o k. either m o (part m o (all_against_at f (m ∷ ms) (n ∷ ns) h m o here k)))))
      h

  pub live_same : (a b : ℕ) (cs ds : List (List ℕ)) → face f ((a ∷ []) ∷ filter (may_face table) cs) ((b ∷ []) ∷ filter (may_face table) ds) ≡ face f ((a ∷ []) ∷ cs) ((b ∷ []) ∷ ds)
  live_same a b cs ds =
      same_bool (face f ((a ∷ []) ∷ filter (may_face table) cs) ((b ∷ []) ∷ filter (may_face table) ds)) (face f ((a ∷ []) ∷ cs) ((b ∷ []) ∷ ds))
      (λ h.
      let w : (d : List ℕ) × (e : List ℕ) × In d ((a ∷ []) ∷ filter (may_face table) cs) × In e ((b ∷ []) ∷ filter (may_face table) ds) × ((m n : ℕ) → In m d → In n e → f m n ≡ true) =
      face_parts f ((a ∷ []) ∷ filter (may_face table) cs) ((b ∷ []) ∷ filter (may_face table) ds) h in
      face_from ((a ∷ []) ∷ cs) ((b ∷ []) ∷ ds) w.0 w.1 (whole w.0 a cs w.2) (whole w.1 b ds w.3) (all_against_from f w.0 w.1 w.4))
      (λ h.
      let w : (d : List ℕ) × (e : List ℕ) × In d ((a ∷ []) ∷ cs) × In e ((b ∷ []) ∷ ds) × ((m n : ℕ) → In m d → In n e → f m n ≡ true) = face_parts f ((a ∷ []) ∷ cs) ((b ∷ []) ∷ ds) h in
      faced a b cs ds w.0 w.1 w.2 w.3 (all_against_from f w.0 w.1 w.4))
