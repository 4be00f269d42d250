-- Rows of one pool that come into another, one after another.
use Rattle.std.proofs.Common.{◌≡◌, ℕ, zero, suc, ◌<◌, ◌≤◌, ◌+◌, List, [], ◌∷◌, ◌++◌, inl, inr, refl, sym, ◌∙◌, ap, ap₂, subst, length, get_or, take, map, arith}
use Rattle.std.proofs.{Common.{length-append}, lemmas.Bool.{cases_eq, cases_lt}}
use Rattle.std.proofs.{lemmas.List.{get_or_default, get_or-set_other, get_or-set_same, map-append, take_more}, lemmas.Option.{none-some, same_Some}}
use Rattle.std.specs.{Prelude.{Option, Some, None}, List.{slice_set}}
use Rattle.listed.proofs.Lists.{In_append_left, In_append_right}
use Rattle.clause_pool.specs.{Lists.{In, here, there}, Interned.{Interned, IsPool, Kept, Gains, clause_at, ids_at, row_at}}
use Rattle.clause_pool.specs.Compacting.{Adds, AddsOnly, AreCarried, RowsOf, StandsFor}
use Rattle.clause_pool.proofs.{Carrying.{In_either}, Interned.{kept_along, kept_same, row_stays}, Lists.{In_at, In_none, In_place}, Moved.{In_map}}

pub next_rows : (pool : Interned) (rows : List ℕ) (i row : ℕ) → i < length rows → row ≡ get_or rows i row → map (row_at pool) (take (i + 1) rows) ≡ map (row_at pool) (take i rows) ++ row_at pool row ∷ []
next_rows pool rows i row l e =
    ap (map (row_at pool)) (take_more rows i row l ∙ ap (λ z. take i rows ++ z ∷ []) (sym e)) ∙ map-append (row_at pool) (take i rows) (row ∷ [])

pub one_more : (made : List ℕ) (row size : ℕ) → ((id : ℕ) → In id made → id < size) → row < size → (id : ℕ) → In id (made ++ row ∷ []) → id < size
one_more made row size f l id i = elim (In_either made row id i) [ inl a ↦ f id a | inr e ↦ subst (λ z. z < size) (sym e) l ]

-- the id that is read at the place of a row
pub known_id : (known : List (Option ℕ)) (place row : ℕ) (x : Option ℕ) (id : ℕ) → place ≡ row → row < length known → x ≡ get_or known place x → x ≡ Some id → get_or known row None ≡ Some id
known_id known place row x id e l is f = get_or_default known row None x l ∙ ap (λ z. get_or known z x) (sym e) ∙ sym is ∙ f

-- one more row of which no id is known
pub one_unknown : (known : List (Option ℕ)) → ((row : ℕ) → get_or known row None ≡ None) → (row : ℕ) → get_or (known ++ None ∷ []) row None ≡ None
one_unknown [] f zero = refl
one_unknown [] f (suc row) = refl
one_unknown (x ∷ xs) f zero = f 0
one_unknown (x ∷ xs) f (suc row) = one_unknown xs (λ r. f (suc r)) row

-- no id is known to begin with
pub none_known : (known : List (Option ℕ)) (from pool : Interned) → ((i : ℕ) → get_or known i None ≡ None) → AreCarried from pool known
none_known known from pool f row id e = absurd (none-some id (sym (f row) ∙ e))

-- a known id stands for its row also when the pool has grown, and one more is known
pub known_more : (from pool next : Interned) (known : List (Option ℕ)) (place row id : ℕ) → IsPool pool → Kept pool next → place ≡ row → row < length known → StandsFor from row next id →
    AreCarried from pool known → AreCarried from next (slice_set known place (Some id))
known_more from pool next known place row id is kept e l stands before r i read =
    elim (cases_eq r place) [
      | inl same_place ↦
          let same : id ≡ i = same_Some id i (sym (get_or-set_same known place (Some id) None (subst (λ z. z < length known) (sym e) l)) ∙ ap (λ z. get_or (slice_set known place (Some id)) z None) (sym same_place) ∙ read) in
          subst (λ z. StandsFor from z next i) (sym (same_place ∙ e)) (subst (λ z. StandsFor from row next z) same stands)
      | inr other ↦
          let old : StandsFor from r pool i = before r i (sym (get_or-set_other known place r (Some id) None other) ∙ read) in
          record { within = (kept.rows i old.within).0; same = row_stays pool next is kept i old.within ∙ old.same }
    ]

-- each of these rows was carried, and nothing else came into the pool
pub record CarriedTo (from start pool : Interned) (rows made : List ℕ) (i : ℕ) : Type 0 where
  pub kept : Kept start pool
  pub sound : IsPool pool
  pub within : RowsOf pool made
  pub same : map (row_at pool) made ≡ map (row_at from) (take i rows)
  pub only : AddsOnly start pool made

pub carried_none : (from start : Interned) (rows made : List ℕ) → made ≡ [] → IsPool start → CarriedTo from start start rows made 0
carried_none from start rows made e is = record {
  kept = kept_same start;
  sound = is;
  within = λ id i. absurd (In_none (subst (λ z. In id z) e i));
  same = ap (map (row_at start)) e ∙ sym (ap (map (row_at from)) (take_none rows));
  only = record { rows = λ id l u. absurd (omega arith); clauses = λ id l u. absurd (omega arith) };
}
  where
    take_none : (xs : List ℕ) → take 0 xs ≡ []
    take_none [] = refl
    take_none (x ∷ xs) = refl

pub rows_stay : (old new : Interned) → IsPool old → Kept old new → (made : List ℕ) → ((id : ℕ) → In id made → id < length old.rows) → map (row_at new) made ≡ map (row_at old) made
rows_stay old new is k [] f = refl
rows_stay old new is k (id ∷ ids) f = ap₂ (λ x xs. x ∷ xs) (row_stays old new is k id (f id here)) (rows_stay old new is k ids (λ n i. f n (there i)))

last_at : (lists : List (List ℕ)) (list : List ℕ) → get_or (lists ++ list ∷ []) (length lists) [] ≡ list
last_at [] list = refl
last_at (x ∷ xs) list = last_at xs list

module _ (from start pool : Interned) (rows made : List ℕ) (i : ℕ) (done : CarriedTo from start pool rows made i)
    (next : Interned) (row id : ℕ) (more : List ℕ) (l : i < length rows) (row_is : row ≡ get_or rows i row)
    (stands : StandsFor from row next id) (gains : Gains pool.rows (ids_at next id) next.rows) (adds : Adds pool.clauses (row_at from row) next.clauses)
    (kept : Kept pool next) (sound : IsPool next) (more_is : more ≡ made ++ id ∷ []) where
  in_made : (k : ℕ) → In k made → In k more
  in_made k j = subst (λ z. In k z) (sym more_is) (In_append_left made (id ∷ []) k j)

  in_last : In id more
  in_last = subst (λ z. In id z) (sym more_is) (In_append_right made (id ∷ []) id here)

  -- a row that came is one of the carried ones
  rows_only : (k : ℕ) → length start.rows ≤ k → k < length next.rows → In k more
  rows_only k low high =
      elim (cases_lt k (length pool.rows)) [
        | inl u ↦ in_made k (done.only.rows k low u)
        | inr past ↦ elim gains [
          | inl g ↦ absurd (let n : length next.rows ≡ length pool.rows = ap length g.1 in omega arith)
          | inr g ↦
              let n : length next.rows ≡ length pool.rows + 1 = ap length g.1 ∙ length-append pool.rows (ids_at next id ∷ []) in
              let e : k ≡ length pool.rows = omega arith in
              let read : ids_at next k ≡ ids_at next id =
              ap (λ z. get_or next.rows z []) e ∙ ap (λ z. get_or z (length pool.rows) []) g.1 ∙ last_at pool.rows (ids_at next id) in
              subst (λ z. In z more) (sound.rows_once id k stands.within high (sym read)) in_last
        ]
      ]

  -- and a clause that came is one of a carried row
  clauses_only : (k : ℕ) → length start.clauses ≤ k → k < length next.clauses → (r : ℕ) × In r more × In k (ids_at next r)
  clauses_only k low high =
      elim (cases_lt k (length pool.clauses)) [
        | inl u ↦
            let w : (r : ℕ) × In r made × In k (ids_at pool r) = done.only.clauses k low u in
            (w.0, in_made w.0 w.1, subst (λ z. In k z) (sym (kept.rows w.0 (done.within w.0 w.1)).1) w.2)
        | inr past ↦ elim (adds (clause_at next k) (In_at next.clauses k [] high)) [
          | inl there_before ↦
              let p : (j : ℕ) × (j < length pool.clauses) × (get_or pool.clauses j [] ≡ clause_at next k) = In_place pool.clauses (clause_at next k) [] there_before in
              let here_too : (p.0 < length next.clauses) × (clause_at next p.0 ≡ clause_at pool p.0) = kept.clauses p.0 p.1 in
              let same : p.0 ≡ k = sound.clauses_once p.0 k here_too.0 high (here_too.1 ∙ p.2) in
              absurd (let u : p.0 < length pool.clauses = p.1 in omega arith)
          | inr of_row ↦
              let w : (m : ℕ) × In m (ids_at next id) × (clause_at next m ≡ clause_at next k) =
              In_map (clause_at next) (ids_at next id) (clause_at next k) (subst (λ z. In (clause_at next k) z) (sym stands.same) of_row) in
              let same : w.0 ≡ k = sound.clauses_once w.0 k (sound.of_pool id stands.within w.0 w.1) high w.2 in
              (id, in_last, subst (λ z. In z (ids_at next id)) same w.1)
        ]
      ]

  pub carried_more : CarriedTo from start next rows more (i + 1)
  carried_more = record {
    kept = kept_along start pool next done.kept kept;
    sound = sound;
    within = subst (λ z. (k : ℕ) → In k z → k < length next.rows) (sym more_is) (one_more made id (length next.rows) (λ k j. (kept.rows k (done.within k j)).0) stands.within);
    same =
        ap (map (row_at next)) more_is ∙ map-append (row_at next) made (id ∷ [])
        ∙ ap₂ (λ xs x. xs ++ x ∷ []) (rows_stay pool next done.sound kept made done.within ∙ done.same) stands.same
        ∙ sym (next_rows from rows i row l row_is);
    only = record { rows = rows_only; clauses = clauses_only };
  }

-- the same, and what is known of the rows of the first pool
pub record CarriedOnce (from start pool : Interned) (rows made : List ℕ) (ids : List (Option ℕ)) (i : ℕ) : Type 0 where
  pub carried : CarriedTo from start pool rows made i
  pub size : length ids ≡ length from.rows
  pub known : AreCarried from pool ids
