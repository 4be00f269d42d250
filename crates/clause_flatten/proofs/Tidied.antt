-- The first rows: the clauses that stay are the minimal ones that do not hold the package.
use Rattle.std.proofs.Common.{◌≡◌, ℕ, ◌<◌, ◌≤◌, ◌+◌, Bool, true, false, not, ◌&&◌, ◌||◌, eqb, ltb, cond, List, [], ◌∷◌, ◌++◌, length, get_or, inl, inr, refl}
use Rattle.std.proofs.Common.{sym, ◌∙◌, ap, ap₂, subst, arith, filter, map, Some}
use Rattle.std.proofs.lemmas.Bool.{both_ways, cases_Bool, cases_lt, true_from_ne_false, and_parts, and_from, not_from_false, not-true, false_from_ne_true}
use Rattle.std.proofs.lemmas.Bool.{ltb-true, lt-ltb}
use Rattle.std.specs.{List.{list_any}, Cmp.Lexicographic.{pointwise}}
use Rattle.std.proofs.lemmas.List as lists
use Rattle.std.proofs.lemmas.List.{get_or_default}
use Rattle.listed.proofs.Bools.{same_bool}
use Rattle.listed.proofs.Lists.{In_append_cases, In_cases, In_has, In_map, In_map_cases, In_none, any_cases, any_from, any_none, filter_cases, filter_from}
use Rattle.listed.proofs.{Lists.{has_not, In_at}, Orders.{ascending_same}}
use Rattle.clause_pool.specs.{Interned.{Interned, IsPool, OfPool, clause_at, clauses_at, ids_at, row_at}, Lists.{InOrder}, Clauses.{apart_from, minimal_of}}
use Rattle.clause_pool.specs.Within.{is_within, some_within}
use Rattle.listed.specs.Lists.{In, has, here, there, Ascending, Inside, is_inside}
use Rattle.row_book.specs.{Numbers.{numbers}, Uses.{row_id}, Book.{RowsFit, listed_for}, Holders.{ListsFit}}
use Rattle.row_book.proofs.{Books.{in_listed, row_ascending}, Numbers.{at_numbers, length_numbers, map_same, numbers_parts, numbers_more}}
use Rattle.row_book.proofs.Repositories.{numbers_test, same_numbers}
use Rattle.clause_pool.proofs.Clauses.{apart_cases, apart_in, inside_at, inside_from, minimal_of_from, minimal_of_parts}
use Rattle.clause_pool.proofs.Order.{order_filter, order_same, ordered_has, ordered_order, ordered_parts}
use Rattle.clause_flatten.specs.{Substitution.{table_row}, Ready.{ListsTidy, table_of}, TidyRows.{begins_empty, first_row, tidied_table}}
use Rattle.clause_families.specs.Inclusion.{has_shorter, is_strictly_inside, stays}
use Rattle.clause_families.proofs.Families.{not_shorter, some_shorter}
use Rattle.clause_flatten.proofs.WorkedRows.{lists_at}

-- another clause within a clause is a shorter one
pub shorter_is_other : (cs : List (List ℕ)) → ((c : List ℕ) → In c cs → Ascending c) → (d : List ℕ) → Ascending d → some_within (Some d) d cs ≡ has_shorter cs d
shorter_is_other cs up d a =
    same_bool (some_within (Some d) d cs) (has_shorter cs d)
    (λ h.
    let w : (e : List ℕ) × In e cs × (is_within (Some d) d e ≡ true) = any_cases (is_within (Some d) d) cs h in
    let parts : (not (pointwise eqb w.0 d) ≡ true) × (is_inside w.0 d ≡ true) = and_parts (not (pointwise eqb w.0 d)) (is_inside w.0 d) w.2 in
    let inside : Inside w.0 d = inside_at w.0 d parts.1 in
    true_from_ne_false (has_shorter cs d) (λ f.
    let same : w.0 ≡ d = ascending_same w.0 d (up w.0 w.1) a inside (not_shorter cs up d a f w.0 w.1 inside) in
    both_ways (pointwise eqb w.0 d) (not-true (pointwise eqb w.0 d) parts.0) (numbers_test w.0 d same)))
    (λ h. true_from_ne_false (some_within (Some d) d cs) (λ f.
    some_shorter cs up d a h (λ S i inside.
    elim (cases_Bool (pointwise eqb S d)) [
      | inl y ↦ subst (λ z. Inside d z) (sym (same_numbers S d y)) (λ n k. k)
      | inr g ↦
          absurd (both_ways (is_within (Some d) d S) (any_none (is_within (Some d) d) cs f S i)
          (and_from (not (pointwise eqb S d)) (is_inside S d) (not_from_false (pointwise eqb S d) g) (inside_from S d inside)))
    ])))

-- no clause in order behind one that is not empty is empty
none_empty : (n : ℕ) (ns : List ℕ) (cs : List (List ℕ)) → InOrder ((n ∷ ns) ∷ cs) → (c : List ℕ) → In c ((n ∷ ns) ∷ cs) → length c < 1 → ⊥
none_empty n ns cs o [] i l = elim (In_cases i) [ inl e ↦ cc | inr j ↦ o.0 [] j ]
none_empty n ns cs o (m ∷ ms) i l = omega arith

-- within a clause of one number only the empty one is shorter, and it comes first
pub shorter_than_one : (cs : List (List ℕ)) → InOrder cs → (d : List ℕ) → length d ≡ 1 → has_shorter cs d ≡ begins_empty cs
shorter_than_one [] o d e = refl
shorter_than_one ([] ∷ cs) o d e = ap (λ n. (ltb 0 n && true) || has_shorter cs d) e
shorter_than_one ((n ∷ ns) ∷ cs) o d e =
    false_from_ne_true (has_shorter ((n ∷ ns) ∷ cs) d) (λ h.
    let w : (c : List ℕ) × In c ((n ∷ ns) ∷ cs) × (is_strictly_inside c d ≡ true) = any_cases (λ c. is_strictly_inside c d) ((n ∷ ns) ∷ cs) h in
    let short : length w.0 < length d = ltb-true (length w.0) (length d) (and_parts (ltb (length w.0) (length d)) (is_inside w.0 d) w.2).0 in
    none_empty n ns cs o w.0 w.1 (omega arith))

pub map_filter : {A B : Type 0} (f : A → B) (p : B → Bool) (xs : List A) → map f (filter (λ x. p (f x)) xs) ≡ filter p (map f xs)
map_filter f p [] = refl
map_filter f p (x ∷ xs) = pick (p (f x)) (map_filter f p xs)
  where
    pick : (b : Bool) → map f (filter (λ x. p (f x)) xs) ≡ filter p (map f xs) → map f (cond b (x ∷ filter (λ x. p (f x)) xs) (filter (λ x. p (f x)) xs)) ≡ cond b (f x ∷ filter p (map f xs)) (filter p (map f xs))
    pick true e = ap (λ ys. f x ∷ ys) e
    pick false e = e

-- of two ascending lists the one within the other is no longer, and where it is as long it is the same
inside_length : (T S : List ℕ) → Ascending S → Ascending T → Inside S T → (length S ≤ length T) × (length T ≤ length S → S ≡ T)
inside_length [] [] a b f = (omega arith, λ l. refl)
inside_length [] (s ∷ ss) a b f = absurd (In_none (f s here))
inside_length (t ∷ ts) [] a b f = (omega arith, λ l. absurd (omega arith))
inside_length (t ∷ ts) (s ∷ ss) a b f =
    elim (In_cases (f s here)) [
      | inl e ↦
          let g : Inside ss ts = λ n i. elim (In_cases (f n (there i))) [
            | inl h ↦ let l : s < n = a.0 n i in absurd (omega (arith, e, h))
            | inr j ↦ j
          ] in
          let w : (length ss ≤ length ts) × (length ts ≤ length ss → ss ≡ ts) = inside_length ts ss a.1 b.1 g in
          (omega (arith, w.0), λ l. ap₂ (λ x xs. x ∷ xs) e (w.1 (omega arith)))
      | inr i ↦
          let l : t < s = b.0 s i in
          let g : Inside (s ∷ ss) ts = λ n j. elim (In_cases (f n j)) [
            | inl h ↦ elim (In_cases j) [ inl k ↦ absurd (omega (arith, h, k)) | inr k ↦ let m : s < n = a.0 n k in absurd (omega (arith, h)) ]
            | inr k ↦ k
          ] in
          let w : (length (s ∷ ss) ≤ length ts) × (length ts ≤ length (s ∷ ss) → (s ∷ ss) ≡ ts) = inside_length ts (s ∷ ss) a b.1 g in
          (omega (arith, w.0), λ k. absurd (omega (arith, w.0)))
    ]

-- the clauses that stay
module _ (p : ℕ) (cs : List (List ℕ)) (up : (c : List ℕ) → In c cs → Ascending c) where
  minimal_from_stays : (T : List ℕ) → In T cs → stays p cs T ≡ true → In T (minimal_of (apart_from p cs))
  minimal_from_stays T i h =
      let w : (not (has T p) ≡ true) × (not (list_any (λ S. is_strictly_inside S T) cs) ≡ true) = and_parts (not (has T p)) (not (list_any (λ S. is_strictly_inside S T) cs)) h in
      let apart : In p T → ⊥ = λ j. both_ways (has T p) (not-true (has T p) w.0) (In_has j) in
      minimal_of_from (apart_from p cs) T (apart_in p cs T i apart) (λ S j f.
      let s : In S cs × (In p S → ⊥) = apart_cases p cs S j in
      elim (cases_lt (length S) (length T)) [
        | inl l ↦
            absurd (both_ways (list_any (λ S. is_strictly_inside S T) cs) (not-true (list_any (λ S. is_strictly_inside S T) cs) w.1)
            (any_from (λ S. is_strictly_inside S T) cs S s.0 (and_from (ltb (length S) (length T)) (is_inside S T) (lt-ltb (length S) (length T) l) (inside_from S T f))))
        | inr g ↦ subst (λ z. Inside T z) (sym ((inside_length T S (up S s.0) (up T i) f).1 g)) (λ n k. k)
      ])

  stays_from_minimal : (T : List ℕ) → In T (minimal_of (apart_from p cs)) → stays p cs T ≡ true
  stays_from_minimal T i =
      let w : In T (apart_from p cs) × ((S : List ℕ) → In S (apart_from p cs) → Inside S T → Inside T S) = minimal_of_parts (apart_from p cs) T i in
      let t : In T cs × (In p T → ⊥) = apart_cases p cs T w.0 in
      and_from (not (has T p)) (not (list_any (λ S. is_strictly_inside S T) cs))
      (not_from_false (has T p) (has_not T p t.1))
      (not_from_false (list_any (λ S. is_strictly_inside S T) cs) (false_from_ne_true (list_any (λ S. is_strictly_inside S T) cs) (λ h.
      let a : (S : List ℕ) × In S cs × (is_strictly_inside S T ≡ true) = any_cases (λ S. is_strictly_inside S T) cs h in
      let u : (ltb (length a.0) (length T) ≡ true) × (is_inside a.0 T ≡ true) = and_parts (ltb (length a.0) (length T)) (is_inside a.0 T) a.2 in
      let f : Inside a.0 T = inside_at a.0 T u.1 in
      let g : Inside T a.0 = w.1 a.0 (apart_in p cs a.0 a.1 (λ j. t.1 (f p j))) f in
      let m : length T ≤ length a.0 = (inside_length a.0 T (up T t.0) (up a.0 a.1) g).0 in
      let l : length a.0 < length T = ltb-true (length a.0) (length T) u.0 in
      omega arith)))

  tidied_is : InOrder cs → filter (stays p cs) cs ≡ first_row p cs
  tidied_is o =
      order_same (filter (stays p cs) cs) (first_row p cs) (order_filter (stays p cs) cs o) (ordered_order (minimal_of (apart_from p cs)))
      (λ T i.
      let w : In T cs × (stays p cs T ≡ true) = filter_cases (stays p cs) cs T i in
      ordered_has (minimal_of (apart_from p cs)) T (minimal_from_stays T w.0 w.1))
      (λ T i.
      let j : In T (minimal_of (apart_from p cs)) = ordered_parts (minimal_of (apart_from p cs)) T i in
      filter_from (stays p cs) cs T (apart_cases p cs T (minimal_of_parts (apart_from p cs) T j).0).0 (stays_from_minimal T j))

-- what the first row has
pub tidied_parts : (p : ℕ) (cs : List (List ℕ)) (T : List ℕ) → In T (first_row p cs) → In T cs × (In p T → ⊥)
tidied_parts p cs T i = apart_cases p cs T (minimal_of_parts (apart_from p cs) T (ordered_parts (minimal_of (apart_from p cs)) T i)).0

pub tidied_minimal : (p : ℕ) (cs : List (List ℕ)) → ((c : List ℕ) → In c cs → Ascending c) → (S T : List ℕ) → In S (first_row p cs) → In T (first_row p cs) → Inside S T → S ≡ T
tidied_minimal p cs up S T i j f =
    let a : In S (apart_from p cs) = (minimal_of_parts (apart_from p cs) S (ordered_parts (minimal_of (apart_from p cs)) S i)).0 in
    ascending_same S T (up S (tidied_parts p cs S i).0) (up T (tidied_parts p cs T j).0) f
    ((minimal_of_parts (apart_from p cs) T (ordered_parts (minimal_of (apart_from p cs)) T j)).1 S a f)

-- the clauses that stay are the first row
pub tidied_row : (pool : Interned) (p row : ℕ) (ids kept : List ℕ) → IsPool pool → row < length pool.rows →
    ids ≡ ids_at pool row → kept ≡ filter (λ id. stays p (clauses_at pool ids) (clause_at pool id)) ids → clauses_at pool kept ≡ first_row p (row_at pool row)
tidied_row pool p row ids kept is l same stay =
    ap (clauses_at pool) (stay ∙ ap (λ xs. filter (λ id. stays p (clauses_at pool xs) (clause_at pool id)) xs) same)
    ∙ map_filter (clause_at pool) (stays p (row_at pool row)) (ids_at pool row)
    ∙ tidied_is p (row_at pool row) (row_ascending pool is row l) (is.in_order row l)

pub kept_within : (pool : Interned) (p : ℕ) (ids kept : List ℕ) → kept ≡ filter (λ id. stays p (clauses_at pool ids) (clause_at pool id)) ids → (id : ℕ) → In id kept → In id ids
kept_within pool p ids kept stay id i =
    (filter_cases (λ id. stays p (clauses_at pool ids) (clause_at pool id)) ids id (subst (λ xs. In id xs) stay i)).0

-- the first rows of so many packages are made
pub record TidiedTo (pool : Interned) (rows : List ℕ) (made : List (List ℕ)) (n : ℕ) : Type 0 where
  pub table : table_of pool made ≡ map (λ p. first_row p (row_at pool (row_id rows p))) (numbers n 0)
  pub of_pool : (ids : List ℕ) → In ids made → OfPool pool ids

pub tidied_none : (pool : Interned) (rows : List ℕ) (made : List (List ℕ)) → made ≡ [] → TidiedTo pool rows made 0
unfolding numbers
tidied_none pool rows made e = record {
  table = ap (table_of pool) e;
  of_pool = λ ids i. absurd (In_none (subst (λ xs. In ids xs) e i));
}

pub tidied_more : (pool : Interned) (rows : List ℕ) (made after : List (List ℕ)) (n row : ℕ) (first : List ℕ) → TidiedTo pool rows made n →
    n < length rows → row ≡ get_or rows n row → OfPool pool first → clauses_at pool first ≡ first_row n (row_at pool row) → after ≡ made ++ first ∷ [] → TidiedTo pool rows after (n + 1)
tidied_more pool rows made after n row first t l e of_pool d a =
    let T : ℕ → List (List ℕ) = λ p. first_row p (row_at pool (row_id rows p)) in
    record {
      table =
          ap (table_of pool) a
          ∙ lists.map-append (clauses_at pool) made (first ∷ [])
          ∙ ap₂ (λ xs x. xs ++ x ∷ []) t.table (d ∙ ap (λ z. first_row n (row_at pool z)) (e ∙ get_or_default rows n row 0 l))
          ∙ sym (ap (map T) (numbers_more n) ∙ lists.map-append T (numbers n 0) (n ∷ []));
      of_pool = λ ids i. elim (In_append_cases made (first ∷ []) ids (subst (λ xs. In ids xs) a i)) [
        | inl j ↦ t.of_pool ids j
        | inr j ↦ elim (In_cases j) [ inl h ↦ subst (OfPool pool) (sym h) of_pool | inr h ↦ absurd (In_none h) ]
      ];
    }

module _ (pool : Interned) (rows : List ℕ) (made : List (List ℕ)) (t : TidiedTo pool rows made (length rows)) where
  pub tidied_count : length made ≡ length rows
  tidied_count = sym (lists.length-map made (clauses_at pool)) ∙ ap length t.table ∙ length_numbers (λ p. first_row p (row_at pool (row_id rows p))) (length rows) 0

  tidied_at : (p : ℕ) → p < length rows → clauses_at pool (listed_for made p) ≡ first_row p (row_at pool (row_id rows p))
  tidied_at p l =
      sym (lists_at pool made p)
      ∙ ap (λ xs. get_or xs p []) t.table
      ∙ at_numbers (λ p. first_row p (row_at pool (row_id rows p))) [] (length rows) 0 p l
      ∙ ap (λ q. first_row q (row_at pool (row_id rows q))) (omega arith)

  pub tidied_all : table_of pool made ≡ tidied_table (map (row_at pool) rows)
  unfolding tidied_table
  tidied_all =
      t.table
      ∙ map_same (λ p. first_row p (row_at pool (row_id rows p))) (λ p. first_row p (table_row (map (row_at pool) rows) p)) (numbers (length rows) 0)
      (λ p i.
      let w : (0 ≤ p) × (p < 0 + length rows) = numbers_parts (length rows) 0 p i in
      ap (first_row p) (sym (lists.get_or-map (row_at pool) rows p 0 [] (omega arith))))
      ∙ ap (λ n. map (λ p. first_row p (table_row (map (row_at pool) rows) p)) (numbers n 0)) (sym (lists.length-map rows (row_at pool)))

  -- what a clause of a first row is
  one_of : (p : ℕ) (c : List ℕ) → In c (clauses_at pool (listed_for made p)) → (p < length rows) × In c (first_row p (row_at pool (row_id rows p)))
  one_of p c i =
      let w : (id : ℕ) × In id (listed_for made p) × (c ≡ clause_at pool id) = In_map_cases (clause_at pool) (listed_for made p) c i in
      let l : p < length made = in_listed made p w.0 w.1 in
      let m : p < length rows = omega (arith, tidied_count) in
      (m, subst (λ cs. In c cs) (tidied_at p m) i)

  pub tidied_fit : RowsFit pool rows → ListsFit pool made
  tidied_fit fit = record {
    is_pool = fit.is_pool;
    of_pool = λ p id i. t.of_pool (listed_for made p) (In_at made p [] (in_listed made p id i)) id i;
    in_order = λ p. elim (cases_lt p (length rows)) [
      | inl l ↦ subst InOrder (sym (tidied_at p l)) (ordered_order (minimal_of (apart_from p (row_at pool (row_id rows p)))))
      | inr past ↦ subst (λ ids. InOrder (clauses_at pool ids)) (sym (lists.get_or_past made p [] (omega (arith, tidied_count)))) tt
    ];
    numbers = λ id p i n j.
        let w : (p < length rows) × In (clause_at pool id) (first_row p (row_at pool (row_id rows p))) = one_of p (clause_at pool id) (In_map (clause_at pool) (listed_for made p) id i) in
        let b : n < length rows = fit.numbers (row_id rows p) (In_at rows p 0 w.0) (clause_at pool id) (tidied_parts p (row_at pool (row_id rows p)) (clause_at pool id) w.1).0 n j in
        omega (arith, tidied_count);
  }

  pub tidied_tidy : RowsFit pool rows → ListsTidy pool made
  tidied_tidy fit = record {
    apart = λ p c i j. (tidied_parts p (row_at pool (row_id rows p)) c (one_of p c i).1).1 j;
    minimal = λ p c d i j f.
        tidied_minimal p (row_at pool (row_id rows p)) (row_ascending pool fit.is_pool (row_id rows p) (fit.of_pool (row_id rows p) (In_at rows p 0 (one_of p c i).0))) c d
        (one_of p c i).1 (one_of p d j).1 f;
  }
