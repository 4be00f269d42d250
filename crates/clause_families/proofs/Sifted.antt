-- Clauses of a row within a union.
use Rattle.std.proofs.{Common.{◌≡◌, ℕ, true, false, ◌&&◌, ltb, length, List, None}, lemmas.Bool.{and_parts, both_ways, false_from_ne_true}}
use Rattle.listed.specs.Lists.{In, Inside, is_inside}
use Rattle.clause_pool.specs.{Clauses.{apart_from}, Within.{is_within, some_within}}
use Rattle.listed.proofs.Lists.{any_cases, any_none}
use Rattle.clause_pool.proofs.Clauses.{apart_cases, apart_in, inside_at, inside_from}
use Rattle.clause_families.specs.{Inclusion.{has_shorter}, Families.{IncludesOneOf}}

pub shorter_found : (family : List (List ℕ)) (c : List ℕ) → has_shorter family c ≡ true → IncludesOneOf family c
shorter_found family c h =
    let w : (S : List ℕ) × In S family × ((ltb (length S) (length c) && is_inside S c) ≡ true) = any_cases (λ other. ltb (length other) (length c) && is_inside other c) family h in
    (w.0, w.1, inside_at w.0 c (and_parts (ltb (length w.0) (length c)) (is_inside w.0 c) w.2).1)

-- what is within a clause that does not hold the number does not hold it
pub row_found : (number : ℕ) (A : List (List ℕ)) (c : List ℕ) → (In number c → ⊥) → some_within None c A ≡ true → IncludesOneOf (apart_from number A) c
row_found number A c apart h =
    let w : (S : List ℕ) × In S A × (is_within None c S ≡ true) = any_cases (is_within None c) A h in
    let inside : Inside w.0 c = inside_at w.0 c w.2 in
    (w.0, apart_in number A w.0 w.1 (λ i. apart (inside number i)), inside)

pub row_clear : (number : ℕ) (A : List (List ℕ)) (c : List ℕ) → some_within None c A ≡ false → has_shorter (apart_from number A) c ≡ false
row_clear number A c h = false_from_ne_true (has_shorter (apart_from number A) c) (λ k.
    let w : IncludesOneOf (apart_from number A) c = shorter_found (apart_from number A) c k in
    both_ways (is_within None c w.0) (any_none (is_within None c) A h w.0 (apart_cases number A w.0 w.1).0) (inside_from w.0 c w.2))
