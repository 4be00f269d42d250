-- Ids of what is left of clauses, and clauses that stand in order already.
use Rattle.std.proofs.Common.{◌≡◌, ℕ, zero, suc, ◌<◌, ◌≤◌, Bool, true, false, cond, List, [], ◌∷◌, ◌++◌, length, get_or, filter, replicate, Some, None, inl}
use Rattle.std.proofs.{Common.{inr, refl, sym, ◌∙◌, ap, subst, arith}, lemmas.Bool.{both_ways, cases_Bool, cases_eq}}
use Rattle.std.proofs.{lemmas.List.{get_or_default, get_or-set_other, get_or-set_same, length-map, length-replicate, length-set}, lemmas.Option.{same_Some}}
use Rattle.row_book.specs.{Parts.{chosen_in, place_in}, Flags.{flag}}
use Rattle.std.specs.{Prelude.{Option}, List.{slice_set}}
use Rattle.listed.specs.Lists.{In}
use Rattle.listed.proofs.Lists.{In_cases, In_none, filter_short}
use Rattle.clause_pool.specs.{Interned.{Interned, clause_at, clauses_at, IsPool, Kept}, Lists.{Before, InOrder}}
use Rattle.clause_pool.proofs.{Interned.{row_stays}, Order.{before_trans}}
use Rattle.clause_families.proofs.Families.{clauses_item, clauses_length}
use Rattle.suite_part.specs.Left.{AreLeft, AreRowsLeft, IsLeft, IsRowLeft}

-- the known id of a place
pub known_id : (known : List (Option ℕ)) (place id : ℕ) (x : Option ℕ) (new : ℕ) → place ≡ id → id < length known → x ≡ get_or known place x → x ≡ Some new → get_or known id None ≡ Some new
known_id known place id x new e l is f = get_or_default known id None x l ∙ ap (λ z. get_or known z x) (sym e) ∙ sym is ∙ f

-- one more place without an id
pub one_unknown : {A : Type 0} (known : List (Option A)) → ((id : ℕ) → get_or known id None ≡ None) → (id : ℕ) → get_or (known ++ None ∷ []) id None ≡ None
one_unknown [] f zero = refl
one_unknown [] f (suc id) = refl
one_unknown (x ∷ xs) f zero = f 0
one_unknown (x ∷ xs) f (suc id) = one_unknown xs (λ n. f (suc n)) id

pub none_some : (new : ℕ) → None ≡ Some new → ⊥
none_some new e = cc

-- no flag is up
none_up : (n id : ℕ) → flag (replicate n false) id ≡ false
none_up zero id = refl
none_up (suc n) zero = refl
none_up (suc n) (suc id) = none_up n id

pub none_left : (from : Interned) (flags : List Bool) (pool : Interned) (known : List (Option ℕ)) (whole : List Bool) (count : ℕ) → count ≡ length from.clauses
    → length known ≡ count → ((id : ℕ) → get_or known id None ≡ None) → whole ≡ replicate count false → AreLeft from flags pool known whole
none_left from flags pool known whole count all size none down = record {
  size = size ∙ all;
  each = λ id new e. absurd (none_some new (sym (none id) ∙ e));
  count = ap length down ∙ length-replicate count false ∙ all;
  all = λ id up. absurd (both_ways (flag whole id) (ap (λ z. flag z id) down ∙ none_up count id) up);
}

-- the pool has grown
pub is_left_kept : (from : Interned) (flags : List Bool) (pool next : Interned) (id new : ℕ) → Kept pool next → IsLeft from flags pool id new → IsLeft from flags next id new
is_left_kept from flags pool next id new kept l = record { within = (kept.clauses new l.within).0; is = (kept.clauses new l.within).1 ∙ l.is }

pub left_kept : (from : Interned) (flags : List Bool) (pool next : Interned) (known : List (Option ℕ)) (whole : List Bool) → Kept pool next
    → AreLeft from flags pool known whole → AreLeft from flags next known whole
left_kept from flags pool next known whole kept are = record {
  size = are.size;
  each = λ id new e. is_left_kept from flags pool next id new kept (are.each id new e);
  count = are.count;
  all = are.all;
}

-- one more id is known
pub left_more : (from : Interned) (flags : List Bool) (pool next : Interned) (known : List (Option ℕ)) (whole : List Bool) (place at id new : ℕ) (is : Bool)
    → Kept pool next → place ≡ id → at ≡ id → id < length from.clauses → IsLeft from flags next id new
    → (is ≡ true → (n : ℕ) → In n (clause_at from id) → flag flags n ≡ true) → AreLeft from flags pool known whole
    → AreLeft from flags next (slice_set known place (Some new)) (slice_set whole at is)
left_more from flags pool next known whole place at id new is kept e f within one is_whole are = record {
  size = length-set known place (Some new) ∙ are.size;
  each = λ other found read. elim (cases_eq other place) [
    | inl same_place ↦
        let same : new ≡ found =
        same_Some new found (sym (get_or-set_same known place (Some new) None (subst (λ z. z < length known) (sym e) l)) ∙ ap (λ z. get_or (slice_set known place (Some new)) z None) (sym same_place) ∙ read) in
        subst (λ z. IsLeft from flags next z found) (sym (same_place ∙ e)) (subst (λ z. IsLeft from flags next id z) same one)
    | inr differs ↦
        is_left_kept from flags pool next other found kept (are.each other found (sym (get_or-set_other known place other (Some new) None differs) ∙ read))
  ];
  count = length-set whole at is ∙ are.count;
  all = λ other up. elim (cases_eq other at) [
    | inl same_place ↦
        let below : at < length whole = subst (λ z. at < z) (sym are.count) (subst (λ z. z < length from.clauses) (sym f) within) in
        let told : is ≡ true = sym (get_or-set_same whole at is false below) ∙ ap (flag (slice_set whole at is)) (sym same_place) ∙ up in
        subst (λ z. (n : ℕ) → In n (clause_at from z) → flag flags n ≡ true) (sym (same_place ∙ f)) (is_whole told)
    | inr differs ↦ are.all other (sym (get_or-set_other whole at other is false differs) ∙ up)
  ];
}
  where
    l : id < length known
    l = subst (λ z. id < z) (sym are.size) within

-- no row is known yet
pub no_rows_left : (from : Interned) (flags : List Bool) (pool : Interned) (known : List (Option ℕ)) (count : ℕ) → count ≡ length from.rows → length known ≡ count → ((id : ℕ) → get_or known id None ≡ None) → AreRowsLeft from flags pool known
no_rows_left from flags pool known count all size none = record { size = size ∙ all; each = λ id new e. absurd (none_some new (sym (none id) ∙ e)) }

-- the pool has grown
pub is_row_left_kept : (from : Interned) (flags : List Bool) (pool next : Interned) (id new : ℕ) → IsPool pool → Kept pool next → IsRowLeft from flags pool id new → IsRowLeft from flags next id new
is_row_left_kept from flags pool next id new is kept l = record { within = (kept.rows new l.within).0; is = row_stays pool next is kept new l.within ∙ l.is }

-- one more row is known
pub rows_left_more : (from : Interned) (flags : List Bool) (pool next : Interned) (known : List (Option ℕ)) (place id new : ℕ) → IsPool pool → Kept pool next → place ≡ id → id < length from.rows → IsRowLeft from flags next id new
    → AreRowsLeft from flags pool known → AreRowsLeft from flags next (slice_set known place (Some new))
rows_left_more from flags pool next known place id new is kept e within one are = record {
  size = length-set known place (Some new) ∙ are.size;
  each = λ other found read. elim (cases_eq other place) [
    | inl same_place ↦
        let same : new ≡ found =
        same_Some new found (sym (get_or-set_same known place (Some new) None (subst (λ z. z < length known) (sym e) l)) ∙ ap (λ z. get_or (slice_set known place (Some new)) z None) (sym same_place) ∙ read) in
        subst (λ z. IsRowLeft from flags next z found) (sym (same_place ∙ e)) (subst (λ z. IsRowLeft from flags next id z) same one)
    | inr differs ↦
        is_row_left_kept from flags pool next other found is kept (are.each other found (sym (get_or-set_other known place other (Some new) None differs) ∙ read))
  ];
}
  where
    l : id < length known
    l = subst (λ z. id < z) (sym are.size) within

-- a clause of which as many numbers are left as it has
pub whole_clause : (flags : List Bool) (ns : List ℕ) → length (chosen_in flags ns) ≡ length ns → (n : ℕ) → In n ns → flag flags n ≡ true
whole_clause flags ns same n i = none_gone ns (sym (length-map (filter (flag flags) ns) (place_in flags)) ∙ same) n i
  where
    none_gone : (ns : List ℕ) → length (filter (flag flags) ns) ≡ length ns → (n : ℕ) → In n ns → flag flags n ≡ true
    none_gone [] e n i = absurd (In_none i)
    none_gone (m ∷ ns) e n i =
        let rest : List ℕ = filter (flag flags) ns in
        let short : length rest ≤ length ns = filter_short (flag flags) ns in
        elim (cases_Bool (flag flags m)) [
          | inl up ↦ elim (In_cases i) [
            | inl first ↦ ap (flag flags) first ∙ up
            | inr later ↦ let more : suc (length rest) ≡ suc (length ns) = sym (ap (λ b. length (cond b (m ∷ rest) rest)) up) ∙ e in none_gone ns (omega (arith, more)) n later
          ]
          | inr down ↦ let fewer : length rest ≡ suc (length ns) = sym (ap (λ b. length (cond b (m ∷ rest) rest)) down) ∙ e in absurd (omega (arith, fewer))
        ]

-- where each comes before the next one, all are in order
pub pairs_order : (cs : List (List ℕ)) → ((k : ℕ) → suc k < length cs → Before (get_or cs k []) (get_or cs (suc k) [])) → InOrder cs
pairs_order [] f = tt
pairs_order (c ∷ []) f = ((λ d i. absurd (In_none i)), tt)
pairs_order (c ∷ d ∷ ds) f =
    let rest : InOrder (d ∷ ds) = pairs_order (d ∷ ds) (λ k l. f (suc k) (omega arith)) in
    let first : Before c d = f 0 (omega arith) in (
      (λ x i. elim (In_cases i) [ inl same ↦ subst (λ z. Before c z) (sym same) first | inr j ↦ before_trans c d x first (rest.0 x j) ]),
      rest,
    )

pub clauses_order : (pool : Interned) (ids : List ℕ) → ((k : ℕ) → suc k < length ids → Before (clause_at pool (get_or ids k 0)) (clause_at pool (get_or ids (suc k) 0))) → InOrder (clauses_at pool ids)
clauses_order pool ids f =
    pairs_order (clauses_at pool ids) (λ k l.
    let size : length (clauses_at pool ids) ≡ length ids = clauses_length pool ids in
    subst (λ z. Before z (get_or (clauses_at pool ids) (suc k) [])) (sym (clauses_item pool ids k (omega arith)))
    (subst (λ z. Before (clause_at pool (get_or ids k 0)) z) (sym (clauses_item pool ids (suc k) (omega arith))) (f k (omega arith))))
