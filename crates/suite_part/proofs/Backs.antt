-- Clauses and rows of a part in the numbers of the book.
use Rattle.std.proofs.Common.{◌≡◌, ℕ, zero, suc, ◌<◌, ◌+◌, ltb, List, [], ◌∷◌, ◌++◌, length, get_or, take, Some, None, inl, inr, sym, ◌∙◌, ap, ap₂, subst}
use Rattle.std.proofs.{Common.{arith}, lemmas.Bool.{cases_eq, lt-ltb, ltb-true}}
use Rattle.std.proofs.{lemmas.List.{get_or-set_other, get_or-set_same, length-set, map-append, take_more}, lemmas.Option.{same_Some}}
use Rattle.row_book.specs.Parts.{clause_in, clauses_in, number_in}
use Rattle.std.specs.{Prelude.{Option}, List.{slice_set}}
use Rattle.clause_pool.specs.{Interned.{Interned, clause_at, clauses_at, Kept}, Lists.{InOrder}}
use Rattle.clause_pool.proofs.Interned.{clauses_kept, kept_along, kept_of_pool}
use Rattle.clause_families.proofs.Families.{of_pool_push}
use Rattle.row_book.proofs.Parts.{order_there}
use Rattle.listed.specs.Lists.{Ascending, In, there}
use Rattle.listed.proofs.Lists.{In_at, In_map_cases}
use Rattle.suite_part.specs.Back.{AreBack, IsBack}
use Rattle.suite_part.proofs.{Lefts.{none_some}, Parted.{FirstInterned}}

-- one more number
pub numbers_more : (numbers places made more : List ℕ) (i x : ℕ) → i < length places → x ≡ number_in numbers (get_or places i 0) → made ≡ clause_in numbers (take i places) → more ≡ made ++ x ∷ [] → more ≡ clause_in numbers (take (i + 1) places)
numbers_more numbers places made more i x l e so_far pushed =
    pushed ∙ ap₂ (λ xs y. xs ++ y ∷ []) so_far e
    ∙ sym (ap (clause_in numbers) (take_more places i 0 l) ∙ map-append (number_in numbers) (take i places) (get_or places i 0 ∷ []))

-- numbers that ascend
pub numbers_rise : (numbers : List ℕ) → Ascending numbers → (m n : ℕ) → m < n → n < length numbers → number_in numbers m < number_in numbers n
numbers_rise [] a m n l k = absurd (omega arith)
numbers_rise (x ∷ xs) a zero zero l k = absurd (omega arith)
numbers_rise (x ∷ xs) a zero (suc n) l k = a.0 (get_or xs n 0) (In_at xs n 0 (omega arith))
numbers_rise (x ∷ xs) a (suc m) zero l k = absurd (omega arith)
numbers_rise (x ∷ xs) a (suc m) (suc n) l k = numbers_rise xs a.1 m n (omega arith) (omega arith)

pub clause_ascends : (numbers places : List ℕ) → Ascending numbers → Ascending places → ((k : ℕ) → In k places → k < length numbers) → Ascending (clause_in numbers places)
clause_ascends numbers [] a b within = tt
clause_ascends numbers (k ∷ places) a b within = (
  (λ y i.
      let w : (m : ℕ) × In m places × (y ≡ number_in numbers m) = In_map_cases (number_in numbers) places y i in
      subst (λ z. number_in numbers k < z) (sym w.2) (numbers_rise numbers a k w.0 (b.0 w.0 w.1) (within w.0 (there w.1)))),
  clause_ascends numbers places a b.1 (λ m i. within m (there i)),
)

pub clauses_in_order : (numbers : List ℕ) (cs : List (List ℕ)) → Ascending numbers → ((c : List ℕ) → In c cs → (n : ℕ) → In n c → n < length numbers) → InOrder cs → InOrder (clauses_in numbers cs)
clauses_in_order numbers cs a within order =
    order_there (λ n. ltb n (length numbers)) (number_in numbers) (λ m n u v l. numbers_rise numbers a m n l (ltb-true n (length numbers) v)) cs
    (λ c i n j. lt-ltb n (length numbers) (within c i n j)) order

-- ids of such clauses
pub none_back : (from : Interned) (numbers : List ℕ) (pool : Interned) (known : List (Option ℕ)) → length known ≡ length from.clauses → ((id : ℕ) → get_or known id None ≡ None) → AreBack from numbers pool known
none_back from numbers pool known size none = record { size = size; each = λ id new e. absurd (none_some new (sym (none id) ∙ e)) }

-- the pool has grown
is_back_kept : (from : Interned) (numbers : List ℕ) (pool next : Interned) (id new : ℕ) → Kept pool next → IsBack from numbers pool id new → IsBack from numbers next id new
is_back_kept from numbers pool next id new kept b = record { within = (kept.clauses new b.within).0; is = (kept.clauses new b.within).1 ∙ b.is }

pub back_kept : (from : Interned) (numbers : List ℕ) (pool next : Interned) (known : List (Option ℕ)) → Kept pool next → AreBack from numbers pool known → AreBack from numbers next known
back_kept from numbers pool next known kept are = record { size = are.size; each = λ id new e. is_back_kept from numbers pool next id new kept (are.each id new e) }

-- one more id is known
pub back_more : (from : Interned) (numbers : List ℕ) (pool next : Interned) (known : List (Option ℕ)) (place id new : ℕ) → Kept pool next → place ≡ id → id < length known → IsBack from numbers next id new →
    AreBack from numbers pool known → AreBack from numbers next (slice_set known place (Some new))
back_more from numbers pool next known place id new kept e l one are = record {
  size = length-set known place (Some new) ∙ are.size;
  each = λ other found read. elim (cases_eq other place) [
    | inl same_place ↦
        let same : new ≡ found =
        same_Some new found (sym (get_or-set_same known place (Some new) None (subst (λ z. z < length known) (sym e) l)) ∙ ap (λ z. get_or (slice_set known place (Some new)) z None) (sym same_place) ∙ read) in
        subst (λ z. IsBack from numbers next z found) (sym (same_place ∙ e)) (subst (λ z. IsBack from numbers next id z) same one)
    | inr differs ↦
        is_back_kept from numbers pool next other found kept (are.each other found (sym (get_or-set_other known place other (Some new) None differs) ∙ read))
  ];
}

-- one more clause of a row
pub back_interned : (start old new from : Interned) (numbers row : List ℕ) (i id : ℕ) (ids more : List ℕ) (made : ℕ) → i < length row → id ≡ get_or row i id
    → FirstInterned start old (clauses_in numbers (clauses_at from (take i row))) ids → Kept old new → IsBack from numbers new id made → more ≡ ids ++ made ∷ []
    → FirstInterned start new (clauses_in numbers (clauses_at from (take (i + 1) row))) more
back_interned start old new from numbers row i id ids more made l at s k back pushed =
    let next : take (i + 1) row ≡ take i row ++ id ∷ [] = take_more row i id l ∙ ap (λ z. take i row ++ z ∷ []) (sym at) in
    let all : clauses_at from (take (i + 1) row) ≡ clauses_at from (take i row) ++ clause_at from id ∷ [] = ap (clauses_at from) next ∙ map-append (clause_at from) (take i row) (id ∷ []) in
    record {
      made = ap (clauses_at new) pushed ∙ map-append (clause_at new) ids (made ∷ []) ∙ ap₂ (λ xs c. xs ++ c ∷ []) (clauses_kept old new k ids s.of_pool ∙ s.made) back.is
          ∙ sym (ap (clauses_in numbers) all ∙ map-append (clause_in numbers) (clauses_at from (take i row)) (clause_at from id ∷ []));
      of_pool = of_pool_push new ids more made (kept_of_pool old new k ids s.of_pool) back.within pushed;
      kept = kept_along start old new s.kept k;
    }
