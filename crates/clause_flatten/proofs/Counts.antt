-- How many clauses a row has, and at most once a package is taken out.
use Rattle.std.proofs.Common.{◌≡◌, ℕ, suc, ◌<◌, ◌≤◌, ◌+◌, ◌*◌, Bool, true, false, not, ◌||◌, cond, ltb, List, [], ◌∷◌, length, map, refl, ◌∙◌, ap, arith}
use Rattle.std.proofs.{Common.{Option, Some, None}, lemmas.List.{length-append, length-map}, lemmas.List.Filters.{length-filter_both}, lemmas.Nat.{mul-le}}
use Rattle.std.proofs.Math.Nat.{suc-mul}
use Rattle.std.specs.List.{list_all}
use Rattle.listed.proofs.Lists.{filter_short}
use Rattle.listed.specs.Lists.{has, is_inside}
use Rattle.clause_pool.specs.Clauses.{apart_from, comes_before, insert_clause, in_row_order, minimal_of}
use Rattle.clause_flatten.specs.Holding.{clauses_with, most_clauses, over_limit}
use Rattle.clause_families.specs.Unions.{all_unions_for, clause_without, substituted, union_of, unions_for}

inserted_count : (c : List ℕ) (cs : List (List ℕ)) → length (insert_clause c cs) ≤ suc (length cs)
inserted_count c [] = omega arith
inserted_count c (d ∷ ds) = pick (comes_before c d) (comes_before d c) (inserted_count c ds)
  where
    pick : (a b : Bool) → length (insert_clause c ds) ≤ suc (length ds) →
        length (cond a (c ∷ (d ∷ ds)) (cond b (d ∷ insert_clause c ds) (d ∷ ds))) ≤ suc (suc (length ds))
    pick true b l = omega arith
    pick false true l = omega arith
    pick false false l = omega arith

ordered_count : (cs : List (List ℕ)) → length (in_row_order cs) ≤ length cs
ordered_count [] = omega arith
ordered_count (c ∷ cs) =
    let l : length (insert_clause c (in_row_order cs)) ≤ suc (length (in_row_order cs)) = inserted_count c (in_row_order cs) in
    let m : length (in_row_order cs) ≤ length cs = ordered_count cs in
    omega arith

-- a clause that does not hold the package stands for itself, and any other for as many as the package has
unions_count : (q : ℕ) (A B : List (List ℕ)) → length (all_unions_for q A B) ≡ most_clauses q A (length B)
unions_count q [] B = omega arith
unions_count q (T ∷ A) B = length-append (unions_for q B T) (all_unions_for q A B) ∙ ap (λ n. length (unions_for q B T) + n) (unions_count q A B) ∙ pick (has T q)
  where
    pick : (b : Bool) → length (cond b (map (λ U. union_of (clause_without q T) U) B) (T ∷ [])) + most_clauses q A (length B)
        ≡ length (cond (not b) (T ∷ apart_from q A) (apart_from q A)) + length (cond b (T ∷ clauses_with q A) (clauses_with q A)) * length B
    pick true =
        let e : length (map (λ U. union_of (clause_without q T) U) B) ≡ length B = length-map B (λ U. union_of (clause_without q T) U) in
        let f : suc (length (clauses_with q A)) * length B ≡ length (clauses_with q A) * length B + length B = suc-mul (length (clauses_with q A)) (length B) in
        omega arith
    pick false = omega arith

fewer_minimal : (cs : List (List ℕ)) → length (minimal_of cs) ≤ length cs
fewer_minimal cs = filter_short (λ T. list_all (λ S. not (is_inside S T) || is_inside T S) cs) cs

-- so the row has no more
pub row_count : (p q : ℕ) (A B : List (List ℕ)) → length (in_row_order (substituted p q A B)) ≤ most_clauses q A (length B)
row_count p q A B =
    let a : length (in_row_order (substituted p q A B)) ≤ length (substituted p q A B) = ordered_count (substituted p q A B) in
    let b : length (substituted p q A B) ≤ length (apart_from p (all_unions_for q A B)) = fewer_minimal (apart_from p (all_unions_for q A B)) in
    let c : length (apart_from p (all_unions_for q A B)) ≤ length (all_unions_for q A B) = filter_short (λ c. not (has c p)) (all_unions_for q A B) in
    let d : length (all_unions_for q A B) ≡ most_clauses q A (length B) = unions_count q A B in
    omega arith

-- the two parts of a row
pub parts_count : (q : ℕ) (cs : List (List ℕ)) → length (clauses_with q cs) + length (apart_from q cs) ≡ length cs
parts_count q cs = length-filter_both (λ c. has c q) (λ c. not (has c q)) (λ c. refl) cs

pub with_few : (q : ℕ) (cs : List (List ℕ)) → length (clauses_with q cs) ≤ length cs
with_few q cs = filter_short (λ c. has c q) cs

-- all clauses together, and for each of them one for each of the package's own row
pub most_few : (q : ℕ) (cs : List (List ℕ)) (n : ℕ) → most_clauses q cs n ≤ length cs + length cs * n
most_few q cs n =
    let few : length (clauses_with q cs) ≤ length cs = with_few q cs in
    let parts : length (clauses_with q cs) + length (apart_from q cs) ≡ length cs = parts_count q cs in
    let product : length (clauses_with q cs) * n ≤ length cs * n = mul-le (length (clauses_with q cs)) n (length cs) n few (omega arith) in
    omega arith

-- within the numbers of 64 bits
pub product_small : (m n : ℕ) → m < 4294967296 → n < 4294967296 → m * n ≤ 18446744065119617025
product_small m n l k = mul-le m n 4294967295 4294967295 (omega arith) (omega arith)

-- the count of a row over the limit
pub some_over_limit : (limit n k : ℕ) → Some k ≡ over_limit limit n → (ltb limit n ≡ true) × (k ≡ n)
some_over_limit limit n k e = pick (ltb limit n) refl e
  where
    pick : (b : Bool) → ltb limit n ≡ b → Some k ≡ cond b (Some n) None → (ltb limit n ≡ true) × (k ≡ n)
    pick true h f = (h, cc)
    pick false h f = absurd (let z : ⊥ = cc in z)

pub none_over_limit : (limit n : ℕ) → None ≡ over_limit limit n → ltb limit n ≡ false
none_over_limit limit n e = pick (ltb limit n) refl e
  where
    pick : (b : Bool) → ltb limit n ≡ b → ◌≡◌ {A = Option ℕ} None (cond b (Some n) None) → ltb limit n ≡ false
    pick true h f = absurd (let z : ⊥ = cc in z)
    pick false h f = h
