-- The ids of the clauses of each class, and their rows.
use Rattle.std.specs.Prelude.{IfOk}
use Rattle.std.proofs.Common.{◌≡◌, ◌≢◌, ℕ, suc, Result, Ok, Err, ◌+◌, ◌<◌, List, [], ◌∷◌, ◌++◌, length, map, filter, get_or, set, take, eqb, inl, inr, refl}
use Rattle.std.proofs.{Common.{sym, ap, ap₂, ◌∙◌, subst, eq-eqb, zero-add, arith}, Math.ListN.{length-set}, lemmas.Bool.{cases_eq, ne_eqb}}
use Rattle.std.proofs.lemmas.List.{append-nil, ext_get_or, get_or-map, get_or-set_same, get_or-set_other, length-map, map-append, take_more}
use Rattle.std.proofs.lemmas.List.Elements.{filter-append}
use Rattle.clause_pool.specs.{Interned.{Interned, IsIdOf, Kept, OfPool, clauses_at, ids_at, row_at}, Lists.{InOrder}}
use Rattle.clause_pool.proofs.Interned.{kept_along, clauses_kept, kept_of_pool}
use Rattle.row_book.specs.{Book.{NumbersFit, listed_for, lists_of_pairs, repository_of}, Numbers.{numbers}, Repository.{Repository}, declared.book.Book.{Book}}
use Rattle.row_book.specs.declared.pair.Pair.{Pair}
use Rattle.listed.specs.Lists.{In, here, there}
use Rattle.listed.proofs.Lists.{In_append_cases, In_cases, In_map, In_map_cases, In_none, filter_cases}
use Rattle.row_book.proofs.Numbers.{at_numbers, length_numbers}
use Rattle.kernel_text.specs.{declared.reader.Clause.{Clause}, Booking.{AreRows, HasIdsByClass, IsBookable}}
use Rattle.kernel_text.specs.{Reading.{clauses_of_class, repository_of_reading, ClassClause, Reading}, declared.reader.Reader.{Reader}}
use Rattle.kernel_text.specs.Reader.{HoldsReading, entry_of}

pub no_ids : (pool : Interned) (classes : ℕ) (table : List (List ℕ)) → length table ≡ classes → ((n : ℕ) → listed_for table n ≡ []) → HasIdsByClass pool [] classes table
no_ids pool classes table count empty = record {
  count = count;
  of_pool = λ n id i. absurd (In_none (subst (λ ids. In id ids) (empty n) i));
  each = λ n l. ap (clauses_at pool) (empty n);
}

-- one more clause of a reader
pub entries_more : (clauses : List Clause) (i : ℕ) (item : Clause) → i < length clauses → item ≡ get_or clauses i item → map entry_of (take (i + 1) clauses) ≡ map entry_of (take i clauses) ++ entry_of item ∷ []
entries_more clauses i item l is =
    ap (map entry_of) (take_more clauses i item l) ∙ map-append entry_of (take i clauses) (get_or clauses i item ∷ []) ∙ ap (λ x. map entry_of (take i clauses) ++ entry_of x ∷ []) (sym is)

-- one more clause
module _ (old new : Interned) (entries : List ClassClause) (entry : ClassClause) (classes : ℕ) (table more : List (List ℕ)) (id : ℕ) (has : HasIdsByClass old entries classes table) (kept : Kept old new)
    (is : IsIdOf new.clauses entry.clause id) (inside : entry.class < classes) (made : more ≡ set table entry.class (listed_for table entry.class ++ id ∷ [])) where
  abbrev ids : List ℕ
  ids = listed_for table entry.class

  within : entry.class < length table
  within = let count : length table ≡ classes = has.count in omega arith

  own : listed_for more entry.class ≡ ids ++ id ∷ []
  own = ap (λ t. listed_for t entry.class) made ∙ get_or-set_same table entry.class (ids ++ id ∷ []) [] within

  others : (n : ℕ) → (n ≡ entry.class → ⊥) → listed_for more n ≡ listed_for table n
  others n ne = ap (λ t. listed_for t n) made ∙ get_or-set_other table entry.class n (ids ++ id ∷ []) [] ne

  clauses_more : (n : ℕ) → clauses_of_class (entries ++ entry ∷ []) n ≡ clauses_of_class entries n ++ clauses_of_class (entry ∷ []) n
  clauses_more n =
      ap (map (λ (e : ClassClause). e.clause)) (filter-append (λ (e : ClassClause). eqb e.class n) entries (entry ∷ []))
      ∙ map-append (λ (e : ClassClause). e.clause) (filter (λ (e : ClassClause). eqb e.class n) entries) (filter (λ (e : ClassClause). eqb e.class n) (entry ∷ []))

  mine : (n : ℕ) → entry.class ≡ n → clauses_of_class (entry ∷ []) n ≡ entry.clause ∷ []
  mine n e = rw (eq-eqb entry.class n e) refl

  not_mine : (n : ℕ) → entry.class ≢ n → clauses_of_class (entry ∷ []) n ≡ []
  not_mine n ne = rw (ne_eqb entry.class n ne) refl

  of_pool_own : OfPool new (ids ++ id ∷ [])
  of_pool_own other i = elim (In_append_cases ids (id ∷ []) other i) [
    | inl j ↦ kept_of_pool old new kept ids (has.of_pool entry.class) other j
    | inr j ↦ elim (In_cases j) [ inl e ↦ subst (λ k. k < length new.clauses) (sym e) is.within | inr k ↦ absurd (In_none k) ]
  ]

  at_own : clauses_at new (listed_for more entry.class) ≡ clauses_of_class (entries ++ entry ∷ []) entry.class
  at_own =
      ap (clauses_at new) own ∙ map-append (λ k. get_or new.clauses k []) ids (id ∷ [])
      ∙ ap₂ (λ cs c. cs ++ c ∷ []) (clauses_kept old new kept ids (has.of_pool entry.class) ∙ has.each entry.class inside) is.holds
      ∙ ap (λ cs. clauses_of_class entries entry.class ++ cs) (sym (mine entry.class refl)) ∙ sym (clauses_more entry.class)

  pub id_more : HasIdsByClass new (entries ++ entry ∷ []) classes more
  id_more = record {
    count = ap length made ∙ length-set table entry.class (ids ++ id ∷ []) ∙ has.count;
    of_pool = λ n. elim (cases_eq n entry.class) [
      | inl e ↦ subst (OfPool new) (sym (ap (listed_for more) e ∙ own)) of_pool_own
      | inr ne ↦ subst (OfPool new) (sym (others n ne)) (kept_of_pool old new kept (listed_for table n) (has.of_pool n))
    ];
    each = λ n l. elim (cases_eq n entry.class) [
      | inl e ↦ subst (λ k. clauses_at new (listed_for more k) ≡ clauses_of_class (entries ++ entry ∷ []) k) (sym e) at_own
      | inr ne ↦
          ap (clauses_at new) (others n ne) ∙ clauses_kept old new kept (listed_for table n) (has.of_pool n) ∙ has.each n l
          ∙ sym (clauses_more n ∙ ap (λ cs. clauses_of_class entries n ++ cs) (not_mine n (λ e. ne (sym e))) ∙ append-nil (clauses_of_class entries n))
    ];
  }

-- rows of lists of ids
pub no_rows : (pool : Interned) → AreRows pool [] []
no_rows pool = record { within = λ row i. absurd (In_none i); of_pool = λ row i. absurd (In_none i); same = refl }

row_kept : (a b : Interned) → Kept a b → (row : ℕ) → row < length a.rows → OfPool a (ids_at a row) → row_at b row ≡ row_at a row
row_kept a b kept row l within = ap (clauses_at b) (kept.rows row l).1 ∙ clauses_kept a b kept (ids_at a row) within

rows_kept : (a b : Interned) → Kept a b → (rows : List ℕ) → ((row : ℕ) → In row rows → row < length a.rows) → ((row : ℕ) → In row rows → OfPool a (ids_at a row)) →
    map (row_at b) rows ≡ map (row_at a) rows
rows_kept a b kept [] inside of_pool = refl
rows_kept a b kept (row ∷ rows) inside of_pool =
    ap₂ (λ r rs. r ∷ rs) (row_kept a b kept row (inside row here) (of_pool row here)) (rows_kept a b kept rows (λ other i. inside other (there i)) (λ other i. of_pool other (there i)))

pub row_more : (start old new : Interned) (lists : List (List ℕ)) (i : ℕ) (ids rows more : List ℕ) (row : ℕ) → i < length lists → get_or lists i [] ≡ ids →
    AreRows old (map (clauses_at start) (take i lists)) rows → Kept start old → Kept old new → IsIdOf new.rows ids row → OfPool start ids → more ≡ rows ++ row ∷ [] →
    AreRows new (map (clauses_at start) (take (i + 1) lists)) more
row_more start old new lists i ids rows more row l at are first kept is of_start pushed = record {
  within = λ other j. elim (In_append_cases rows (row ∷ []) other (subst (λ xs. In other xs) pushed j)) [
    | inl k ↦ (kept.rows other (are.within other k)).0
    | inr k ↦ elim (In_cases k) [ inl e ↦ subst (λ z. z < length new.rows) (sym e) is.within | inr nothing ↦ absurd (In_none nothing) ]
  ];
  of_pool = λ other j. elim (In_append_cases rows (row ∷ []) other (subst (λ xs. In other xs) pushed j)) [
    | inl k ↦ subst (OfPool new) (sym (kept.rows other (are.within other k)).1) (kept_of_pool old new kept (ids_at old other) (are.of_pool other k))
    | inr k ↦ elim (In_cases k) [
      | inl e ↦ subst (OfPool new) (sym (ap (ids_at new) e ∙ is.holds)) (kept_of_pool start new both ids of_start)
      | inr nothing ↦ absurd (In_none nothing)
    ]
  ];
  same = ap (map (row_at new)) pushed ∙ map-append (row_at new) rows (row ∷ [])
      ∙ ap₂ (λ rs r. rs ++ r ∷ []) (rows_kept old new kept rows are.within are.of_pool ∙ are.same) (ap (clauses_at new) is.holds ∙ clauses_kept start new both ids of_start)
      ∙ ap (λ r. map (clauses_at start) (take i lists) ++ clauses_at start r ∷ []) (sym at)
      ∙ sym (ap (map (clauses_at start)) (take_more lists i [] l) ∙ map-append (clauses_at start) (take i lists) (get_or lists i [] ∷ []));
}
  where
    both : Kept start new
    both = kept_along start old new first kept

-- a reader holds one reading
pub held_reading : (reader : Reader) (t u : Reading) → HoldsReading reader t → HoldsReading reader u → (t.clauses ≡ u.clauses) × (t.classes ≡ u.classes) × (t.conflicts ≡ u.conflicts)
held_reading reader t u h k = (sym h.clauses ∙ k.clauses, sym h.classes ∙ k.classes, sym h.conflicts ∙ k.conflicts)

-- the place of a list
place_of : (xs : List (List ℕ)) (x : List ℕ) → In x xs → (n : ℕ) × (n < length xs) × (get_or xs n [] ≡ x)
place_of [] x i = absurd (In_none i)
place_of (y ∷ ys) x i = elim (In_cases i) [
  | inl e ↦ (0, omega arith, sym e)
  | inr j ↦ let w : (n : ℕ) × (n < length ys) × (get_or ys n [] ≡ x) = place_of ys x j in (suc w.0, (let l : w.0 < length ys = w.1 in omega arith), w.2)
]

-- what the table says of each of its lists
pub table_of_pool : (pool : Interned) (entries : List ClassClause) (classes : ℕ) (table : List (List ℕ)) → HasIdsByClass pool entries classes table → (ids : List ℕ) → In ids table → OfPool pool ids
table_of_pool pool entries classes table has ids i =
    let w = place_of table ids i in subst (OfPool pool) w.2 (has.of_pool w.0)

module _ (pool : Interned) (t : Reading) (entries : List ClassClause) (table : List (List ℕ)) (same : entries ≡ t.clauses) (has : HasIdsByClass pool entries t.classes table) (b : IsBookable t) where
  each_is : (n : ℕ) → n < t.classes → clauses_at pool (listed_for table n) ≡ clauses_of_class t.clauses n
  each_is n l = has.each n l ∙ ap (λ cs. clauses_of_class cs n) same

  pub table_in_order : (ids : List ℕ) → In ids table → InOrder (clauses_at pool ids)
  table_in_order ids i =
      let w = place_of table ids i in
      let count : length table ≡ t.classes = has.count in
      let inside : w.0 < t.classes = let l : w.0 < length table = w.1 in omega arith in
      subst (λ k. InOrder (clauses_at pool k)) w.2 (subst InOrder (sym (each_is w.0 inside)) (b.in_order w.0 inside))

  table_says : map (clauses_at pool) table ≡ map (clauses_of_class t.clauses) (numbers t.classes 0)
  table_says =
      let count : length table ≡ t.classes = has.count in
      ext_get_or [] (map (clauses_at pool) table) (map (clauses_of_class t.clauses) (numbers t.classes 0))
      (length-map table (clauses_at pool) ∙ count ∙ sym (length_numbers (clauses_of_class t.clauses) t.classes 0))
      (λ i l.
      let short : i < length table = subst (λ n. i < n) (length-map table (clauses_at pool)) l in
      let inside : i < t.classes = omega arith in
      get_or-map (clauses_at pool) table i [] [] short ∙ each_is i inside
      ∙ sym (at_numbers (clauses_of_class t.clauses) [] t.classes 0 i inside ∙ ap (clauses_of_class t.clauses) (zero-add i)))

  module _ (new : Interned) (rows : List ℕ) (are : AreRows new (map (clauses_at pool) table) rows) where
    rows_say : map (row_at new) rows ≡ map (clauses_of_class t.clauses) (numbers t.classes 0)
    rows_say = are.same ∙ table_says

    pub rows_count : length rows ≡ t.classes
    rows_count = sym (length-map rows (row_at new)) ∙ ap length rows_say ∙ length_numbers (clauses_of_class t.clauses) t.classes 0

    pub numbers_fit : NumbersFit new rows
    numbers_fit id i c j n k =
        let row : In (row_at new id) (map (clauses_of_class t.clauses) (numbers t.classes 0)) = subst (λ rs. In (row_at new id) rs) rows_say (In_map (row_at new) rows id i) in
        let w : (m : ℕ) × In m (numbers t.classes 0) × (row_at new id ≡ clauses_of_class t.clauses m) = In_map_cases (clauses_of_class t.clauses) (numbers t.classes 0) (row_at new id) row in
        let v : (entry : ClassClause) × In entry (filter (λ (e : ClassClause). eqb e.class w.0) t.clauses) × (c ≡ entry.clause) =
        In_map_cases (λ (e : ClassClause). e.clause) (filter (λ (e : ClassClause). eqb e.class w.0) t.clauses) c (subst (λ cs. In c cs) w.2 j) in
        subst (λ m. n < m) (sym rows_count) (b.numbers v.0 (filter_cases (λ (e : ClassClause). eqb e.class w.0) t.clauses v.0 v.1).0 n (subst (λ d. In n d) v.2 k))

    pub booked : (book : Book) → book.rows ≡ rows → book.conflicts ≡ lists_of_pairs t.conflicts (length rows) → repository_of new book ≡ repository_of_reading t
    unfolding repository_of_reading
    booked book of_rows of_pairs =
        let R : List (List (List ℕ)) → List (List ℕ) → Repository = λ clauses conflicts. record { clauses = clauses; conflicts = conflicts } in
        ap₂ R (ap (map (row_at new)) of_rows ∙ rows_say) (of_pairs ∙ ap (lists_of_pairs t.conflicts) rows_count)

    -- the book that was built
    pub book_is : (reader : Reader) → HoldsReading reader t → (pairs : List Pair) → pairs ≡ t.conflicts → (lent : List ℕ) → lent ≡ rows → {E : Type 0} → (made : Result Book E) →
        IfOk made (λ book. book.rows ≡ lent) → IfOk made (λ book. book.conflicts ≡ lists_of_pairs pairs (length lent)) →
        IfOk made (λ book. (u : Reading) → HoldsReading reader u → repository_of new book ≡ repository_of_reading u)
    unfolding repository_of_reading
    book_is reader h pairs same_pairs lent same_rows (Ok book) r p = λ u k.
        let w : (t.clauses ≡ u.clauses) × (t.classes ≡ u.classes) × (t.conflicts ≡ u.conflicts) = held_reading reader t u h k in
        let R : List ClassClause → ℕ → List Pair → Repository = λ cs n ps. record { clauses = map (clauses_of_class cs) (numbers n 0); conflicts = lists_of_pairs ps n } in
        booked book (r ∙ same_rows) (p ∙ ap₂ (λ ps xs. lists_of_pairs ps (length xs)) same_pairs same_rows)
        ∙ ap₂ (λ cs n. R cs n t.conflicts) w.0 w.1 ∙ ap (R u.clauses u.classes) w.2
    book_is reader h pairs same_pairs lent same_rows (Err e) r p = tt
