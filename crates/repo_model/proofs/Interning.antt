-- What a pool gains, clause by clause and row by row.
use Rattle.std.proofs.Common.{◌≡◌, ℕ, ◌+◌, ◌<◌, ◌≤◌, ◌++◌, List, [], ◌∷◌, length, get_or, map, take, inl, inr, refl, sym, ap, ap₂, subst, ◌∙◌, length-append}
use Rattle.std.proofs.{Common.{arith}, lemmas.Bool.{cases_lt}, lemmas.List.{get_or_push, map-append, take_more}}
use Rattle.std.specs.List.{flat_map}
use Rattle.clause_pool.specs.{Interned.{Interned, clause_at, clauses_at, ids_at, row_at, Gains, IsIdOf, IsPool, Kept, OfPool}, Clauses.{in_row_order}}
use Rattle.clause_pool.proofs.{Interned.{kept_same, kept_along, clauses_kept, kept_of_pool}, Order.{ordered_has}}
use Rattle.listed.specs.Lists.{In, here, there}
use Rattle.listed.proofs.Lists.{In_cases, In_none, In_append_cases, In_append_left, In_append_right, In_flat_cases, In_map, In_map_cases}
use Rattle.repo_model.specs.Interning.{HasIds, HasRows}

-- one more clause behind the others
pub ids_behind : (start old new : Interned) (clauses : List (List ℕ)) (ids : List ℕ) (clause : List ℕ) (id : ℕ) → HasIds start old clauses ids → Kept old new → new.rows ≡ old.rows →
    IsIdOf new.clauses clause id → Gains old.clauses clause new.clauses → HasIds start new (clauses ++ clause ∷ []) (ids ++ id ∷ [])
ids_behind start old new clauses ids clause id h kept rows is gains = record {
  rows = rows ∙ h.rows;
  kept = kept_along start old new h.kept kept;
  of_pool = λ other i. elim (In_append_cases ids (id ∷ []) other i) [
    | inl j ↦ kept_of_pool old new kept ids h.of_pool other j
    | inr j ↦ elim (In_cases j) [ inl e ↦ subst (λ z. z < length new.clauses) (sym e) is.within | inr k ↦ absurd (In_none k) ]
  ];
  clauses = map-append (clause_at new) ids (id ∷ []) ∙ ap₂ (λ xs ys. xs ++ ys) (clauses_kept old new kept ids h.of_pool ∙ h.clauses) (ap (λ c. c ∷ []) is.holds);
  only = λ other l u.
      elim (cases_lt other (length old.clauses)) [
        | inl m ↦ In_append_left ids (id ∷ []) other (h.only other l m)
        | inr g ↦ subst (λ z. In z (ids ++ id ∷ [])) (sym (is.only other u (last other g u gains))) (In_append_right ids (id ∷ []) id here)
      ];
}
  where
    last : (other : ℕ) → length old.clauses ≤ other → other < length new.clauses → Gains old.clauses clause new.clauses → get_or new.clauses other [] ≡ clause
    last other g u (inl there_already) = absurd (let e : length new.clauses ≡ length old.clauses = ap length there_already.1 in omega arith)
    last other g u (inr pushed) =
        let e : length new.clauses ≡ length old.clauses + 1 = ap length pushed.1 ∙ length-append old.clauses (clause ∷ []) in
        ap (λ cs. get_or cs other []) pushed.1 ∙ get_or_push old.clauses clause [] other (omega arith)

-- the clause of the next element
pub ids_next : {A : Type 0} (f : A → List ℕ) (xs : List A) (i : ℕ) (x : A) (clause : List ℕ) (start old new : Interned) (ids : List ℕ) (id : ℕ) → i < length xs → x ≡ get_or xs i x → clause ≡ f x →
    HasIds start old (map f (take i xs)) ids → Kept old new → new.rows ≡ old.rows → IsIdOf new.clauses clause id → Gains old.clauses clause new.clauses →
    HasIds start new (map f (take (i + 1) xs)) (ids ++ id ∷ [])
ids_next f xs i x clause start old new ids id within is of h kept rows own gains =
    let table : map f (take i xs) ++ clause ∷ [] ≡ map f (take (i + 1) xs) =
    ap (λ c. map f (take i xs) ++ c ∷ []) of ∙ sym (map-append f (take i xs) (x ∷ [])) ∙ ap (λ y. map f (take i xs ++ y ∷ [])) is ∙ sym (ap (map f) (take_more xs i x within)) in
    subst (λ t. HasIds start new t (ids ++ id ∷ [])) table (ids_behind start old new (map f (take i xs)) ids clause id h kept rows own gains)

pub no_ids : {A : Type 0} (f : A → List ℕ) (xs : List A) (pool : Interned) (ids : List ℕ) → ids ≡ [] → HasIds pool pool (map f (take 0 xs)) ids
no_ids f xs pool ids none = record {
  rows = refl;
  kept = kept_same pool;
  of_pool = λ id i. absurd (In_none (subst (λ ns. In id ns) none i));
  clauses = ap (map (clause_at pool)) none;
  only = λ id l u. absurd (omega (arith, l, u));
}

only_one : (row other : ℕ) → In other (row ∷ []) → row ≡ other
only_one row other i = elim (In_cases i) [ inl e ↦ sym e | inr j ↦ absurd (In_none j) ]

-- ids become a row
pub row_made : (old new : Interned) (clauses : List (List ℕ)) (ids : List ℕ) (row : ℕ) → OfPool old ids → clauses_at old ids ≡ clauses → Kept old new → new.clauses ≡ old.clauses → IsIdOf new.rows ids row →
    Gains old.rows ids new.rows → HasRows old new (clauses ∷ []) (row ∷ [])
row_made old new clauses ids row of_pool are kept same is gains =
    let holds : ids_at new row ≡ ids = is.holds in
    let made : row_at new row ≡ clauses = ap (clauses_at new) holds ∙ clauses_kept old new kept ids of_pool ∙ are in
    record {
      kept = kept;
      within = λ other i. subst (λ z. z < length new.rows) (only_one row other i) is.within;
      of_pool = λ other i. subst (λ z. OfPool new (ids_at new z)) (only_one row other i) (subst (OfPool new) (sym holds) (kept_of_pool old new kept ids of_pool));
      clauses = ap (λ c. c ∷ []) made;
      only = record {
        rows = λ other l u. subst (λ z. In z (row ∷ [])) (sym (is.only other u (last other l u gains))) here;
        clauses = λ id l u. absurd (let e : length new.clauses ≡ length old.clauses = ap length same in omega (arith, l, u));
      };
    }
  where
    last : (other : ℕ) → length old.rows ≤ other → other < length new.rows → Gains old.rows ids new.rows → get_or new.rows other [] ≡ ids
    last other g u (inl there_already) = absurd (let e : length new.rows ≡ length old.rows = ap length there_already.1 in omega arith)
    last other g u (inr pushed) =
        let e : length new.rows ≡ length old.rows + 1 = ap length pushed.1 ∙ length-append old.rows (ids ∷ []) in
        ap (λ rs. get_or rs other []) pushed.1 ∙ get_or_push old.rows ids [] other (omega arith)

-- rows behind rows
module _ (start old new : Interned) (kept : Kept old new) where
  row_kept : (row : ℕ) → row < length old.rows → OfPool old (ids_at old row) → row_at new row ≡ row_at old row
  row_kept row l within = ap (clauses_at new) (kept.rows row l).1 ∙ clauses_kept old new kept (ids_at old row) within

  rows_kept : (rows : List ℕ) → ((row : ℕ) → In row rows → row < length old.rows) → ((row : ℕ) → In row rows → OfPool old (ids_at old row)) → map (row_at new) rows ≡ map (row_at old) rows
  rows_kept [] within of_pool = refl
  rows_kept (row ∷ rows) within of_pool =
      ap₂ (λ r rs. r ∷ rs) (row_kept row (within row here) (of_pool row here)) (rows_kept rows (λ other i. within other (there i)) (λ other i. of_pool other (there i)))

pub rows_more : (start old new : Interned) (clauses more : List (List (List ℕ))) (rows next : List ℕ) → HasRows start old clauses rows → HasRows old new more next →
    HasRows start new (clauses ++ more) (rows ++ next)
rows_more start old new clauses more rows next h n = record {
  kept = kept_along start old new h.kept n.kept;
  within = λ row i. elim (In_append_cases rows next row i) [
    | inl j ↦ (n.kept.rows row (h.within row j)).0
    | inr j ↦ n.within row j
  ];
  of_pool = λ row i. elim (In_append_cases rows next row i) [
    | inl j ↦ subst (OfPool new) (sym (n.kept.rows row (h.within row j)).1) (kept_of_pool old new n.kept (ids_at old row) (h.of_pool row j))
    | inr j ↦ n.of_pool row j
  ];
  clauses = map-append (row_at new) rows next ∙ ap₂ (λ cs ds. cs ++ ds) (rows_kept start old new n.kept rows h.within h.of_pool ∙ h.clauses) n.clauses;
  only = record {
    rows = λ id l u. elim (cases_lt id (length old.rows)) [
      | inl m ↦ In_append_left rows next id (h.only.rows id l m)
      | inr g ↦ In_append_right rows next id (n.only.rows id g u)
    ];
    clauses = λ id l u. elim (cases_lt id (length old.clauses)) [
      | inl m ↦
          let w : (row : ℕ) × In row rows × In id (ids_at old row) = h.only.clauses id l m in
          (w.0, In_append_left rows next w.0 w.1, subst (λ ids. In id ids) (sym (n.kept.rows w.0 (h.within w.0 w.1)).1) w.2)
      | inr g ↦
          let w : (row : ℕ) × In row next × In id (ids_at new row) = n.only.clauses id g u in
          (w.0, In_append_right rows next w.0 w.1, w.2)
    ];
  };
}

pub no_rows : (pool : Interned) (rows : List ℕ) → rows ≡ [] → HasRows pool pool [] rows
no_rows pool rows none = record {
  kept = kept_same pool;
  within = λ row i. absurd (In_none (subst (λ rs. In row rs) none i));
  of_pool = λ row i. absurd (In_none (subst (λ rs. In row rs) none i));
  clauses = ap (map (row_at pool)) none;
  only = record { rows = λ id l u. absurd (omega (arith, l, u)); clauses = λ id l u. absurd (omega (arith, l, u)) };
}

-- the row of the next package
pub rows_next : {A : Type 0} (f : A → List (List ℕ)) (xs : List A) (i : ℕ) (x : A) (start old new : Interned) (rows more : List ℕ) (row : ℕ) → i < length xs → x ≡ get_or xs i x →
    HasRows start old (map f (take i xs)) rows → HasRows old new (f x ∷ []) (row ∷ []) → more ≡ rows ++ row ∷ [] → HasRows start new (map f (take (i + 1) xs)) more
rows_next f xs i x start old new rows more row within is had next pushed =
    let table : map f (take i xs) ++ f x ∷ [] ≡ map f (take (i + 1) xs) = sym (map-append f (take i xs) (x ∷ [])) ∙ ap (λ y. map f (take i xs ++ y ∷ [])) is ∙ sym (ap (map f) (take_more xs i x within)) in
    subst (λ t. HasRows start new t more) table
    (subst (λ rs. HasRows start new (map f (take i xs) ++ f x ∷ []) rs) (sym pushed) (rows_more start old new (map f (take i xs)) (f x ∷ []) rows (row ∷ []) had next))

-- rows of clauses that were all put into the pool before: each of these is in one of the rows
pub rows_and_clauses : {X A : Type 0} (needs : X → List A) (f : A → List ℕ) (xs : List X) (elements : List A) (start middle new : Interned) (ids rows : List ℕ) → IsPool new →
    HasIds start middle (map f elements) ids → HasRows middle new (map (λ x. in_row_order (map f (needs x))) xs) rows → new.clauses ≡ middle.clauses →
    ((element : A) → In element elements → In element (flat_map needs xs)) → HasRows start new (map (λ x. in_row_order (map f (needs x))) xs) rows
rows_and_clauses {X} {A} needs f xs elements start middle new ids rows sound h r same each = record {
  kept = kept_along start middle new h.kept r.kept;
  within = r.within;
  of_pool = r.of_pool;
  clauses = r.clauses;
  only = record {
    rows = λ id l u. r.only.rows id (subst (λ rs. length rs ≤ id) (sym h.rows) l) u;
    clauses = λ id l u. in_a_row id (h.only id l (subst (λ cs. id < length cs) same u));
  };
}
  where
    in_a_row : (id : ℕ) → In id ids → (r : ℕ) × In r rows × In id (ids_at new r)
    in_a_row id i =
        let c : In (clause_at middle id) (map f elements) = subst (λ cs. In (clause_at middle id) cs) h.clauses (In_map (clause_at middle) ids id i) in
        let w : (element : A) × In element elements × (clause_at middle id ≡ f element) = In_map_cases f elements (clause_at middle id) c in
        let v : (x : X) × In x xs × In w.0 (needs x) = In_flat_cases needs xs w.0 (each w.0 w.1) in
        let t : In (in_row_order (map f (needs v.0))) (map (row_at new) rows) =
        subst (λ table. In (in_row_order (map f (needs v.0))) table) (sym r.clauses) (In_map (λ x. in_row_order (map f (needs x))) xs v.0 v.1) in
        let q : (n : ℕ) × In n rows × (in_row_order (map f (needs v.0)) ≡ row_at new n) = In_map_cases (row_at new) rows (in_row_order (map f (needs v.0))) t in
        let here_too : In (f w.0) (row_at new q.0) = subst (λ cs. In (f w.0) cs) q.2 (ordered_has (map f (needs v.0)) (f w.0) (In_map f (needs v.0) w.0 v.2)) in
        let p : (other : ℕ) × In other (ids_at new q.0) × (f w.0 ≡ clause_at new other) = In_map_cases (clause_at new) (ids_at new q.0) (f w.0) here_too in
        let mine : clause_at new id ≡ f w.0 = ap (λ cs. get_or cs id []) same ∙ w.2 in
        let one : p.0 ≡ id = sound.clauses_once p.0 id (r.of_pool q.0 q.1 p.0 p.1) (subst (λ cs. id < length cs) (sym same) (h.of_pool id i)) (sym (mine ∙ p.2)) in
        (q.0, q.1, subst (λ z. In z (ids_at new q.0)) one p.1)
