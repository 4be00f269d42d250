-- Merging where no two packages are alike.
use Rattle.std.proofs.Common.{◌≡◌, ◌≢◌, ℕ, zero, suc, ◌<◌, ◌≤◌, ◌+◌, Bool, true, false, cond, List, [], ◌∷◌, length, inl, inr, refl, sym, ◌∙◌, ap, ap₂, subst}
use Rattle.std.proofs.{Common.{arith, map, filter, zero-le, slice_index_or}, lemmas.Bool.{both_ways, cases_eq, not-true}}
use Rattle.std.specs.List.{list_any}
use Rattle.listed.proofs.{Bools.{same_bool}, Lists.{any_from, filter_cases, map_own}, Orders.{ascending_same}}
use Rattle.listed.specs.Lists.{In, Ascending}
use Rattle.clause_pool.specs.Clauses.{apart_from, minimal_of, in_row_order}
use Rattle.row_book.specs.{Numbers.{numbers}, Repository.{Repository, against, clauses_of}, Flattening.{packages}, Sound.{SoundRepository}}
use Rattle.row_book.specs.Merging.{are_alike, is_first, firsts, first_of, class_of, clause_image, quotient}
use Rattle.row_book.proofs.{Numbers.{numbers_from, numbers_count}, Repositories.{conflicts_same, in_packages, between}}
use Rattle.class_merge.specs.Laws.{MergePlain}
use Rattle.class_merge.proofs.Classes.{Alike, alike_sym, alike_test, class_alike, clause_image_ascending, clause_image_cases, clause_image_in, has_class_lem}
use Rattle.class_merge.proofs.Kept.{merge_is_tidy_lem, merged_against, merged_clauses, merged_size}

-- a filter that drops nothing
pub filter_less : (f : ℕ → Bool) (xs : List ℕ) → length (filter f xs) ≤ length xs
filter_less f [] = zero-le
filter_less f (x ∷ xs) = pick (f x) (filter_less f xs)
  where
    pick : (b : Bool) → length (filter f xs) ≤ length xs → length (cond b (x ∷ filter f xs) (filter f xs)) ≤ length (x ∷ xs)
    pick true l = omega arith
    pick false l = omega arith

filter_full : (f : ℕ → Bool) (xs : List ℕ) → length xs ≤ length (filter f xs) → filter f xs ≡ xs
filter_full f [] l = refl
filter_full f (x ∷ xs) l = pick (f x) (filter_full f xs) l
  where
    pick : (b : Bool) → (length xs ≤ length (filter f xs) → filter f xs ≡ xs) → length (x ∷ xs) ≤ length (cond b (x ∷ filter f xs) (filter f xs)) →
        cond b (x ∷ filter f xs) (filter f xs) ≡ (x ∷ xs)
    pick true g m = ap (λ ys. x ∷ ys) (g (omega arith))
    pick false g m = let k : length (filter f xs) ≤ length xs = filter_less f xs in absurd (omega arith)

pub number_at : (n k i d : ℕ) → i < n → slice_index_or (numbers n k) i d ≡ k + i
unfolding numbers
number_at zero k i d l = absurd (omega arith)
number_at (suc n) k zero d l = omega arith
number_at (suc n) k (suc i) d l = number_at n (suc k) i d (omega arith) ∙ omega arith

pub firsts_le : (R : Repository) → length (firsts R) ≤ length R.clauses
unfolding firsts
firsts_le R = subst (λ n. length (filter (is_first R) (packages R)) ≤ n) (numbers_count (length R.clauses) 0) (filter_less (is_first R) (packages R))

-- where each package is the first of its class
firsts_all : (R : Repository) → length (firsts R) ≡ length R.clauses → firsts R ≡ packages R
unfolding firsts
firsts_all R e = filter_full (is_first R) (packages R) (let c : length (packages R) ≡ length R.clauses = numbers_count (length R.clauses) 0 in omega (arith, e, c))

all_first : (R : Repository) → length (firsts R) ≡ length R.clauses → (p : ℕ) → p < length R.clauses → is_first R p ≡ true
unfolding firsts
all_first R e p l = (filter_cases (is_first R) (packages R) p (subst (λ xs. In p xs) (sym (firsts_all R e)) (in_packages R p l))).1

pub first_same : (R : Repository) → length (firsts R) ≡ length R.clauses → (k : ℕ) → k < length R.clauses → first_of R k ≡ k
first_same R e k l = ap (λ xs. slice_index_or xs k 0) (firsts_all R e) ∙ (number_at (length R.clauses) 0 k 0 l ∙ omega arith)

pub none_before : (R : Repository) (p q : ℕ) → is_first R p ≡ true → q < p → Alike R p q → ⊥
none_before R p q f l a =
    both_ways (list_any (are_alike R p) (numbers p 0)) (not-true (list_any (are_alike R p) (numbers p 0)) f)
    (any_from (are_alike R p) (numbers p 0) q (numbers_from p 0 q zero-le (omega arith)) (alike_test R p q a))

pub alike_one : (R : Repository) → length (firsts R) ≡ length R.clauses → (p q : ℕ) → p < length R.clauses → q < length R.clauses → Alike R p q → q ≡ p
alike_one R e p q l m a =
    elim (cases_eq q p) [
      | inl s ↦ s
      | inr ne ↦ absurd (three p q ne (λ u. none_before R p q (all_first R e p l) u a) (λ u. none_before R q p (all_first R e q m) u (alike_sym R p q a)))
    ]
  where
    three : (p q : ℕ) → q ≢ p → (q < p → ⊥) → (p < q → ⊥) → ⊥
    three zero zero ne f g = ne refl
    three zero (suc q) ne f g = g (omega arith)
    three (suc p) zero ne f g = f (omega arith)
    three (suc p) (suc q) ne f g = three p q (λ s. ne (ap suc s)) (λ u. f (omega arith)) (λ u. g (omega arith))

pub class_same : (R : Repository) → length (firsts R) ≡ length R.clauses → (p : ℕ) → p < length R.clauses → class_of R p ≡ p
class_same R e p l =
    let m : class_of R p < length R.clauses = subst (λ n. class_of R p < n) e (has_class_lem R p l).within in
    let f : first_of R (class_of R p) ≡ class_of R p = first_same R e (class_of R p) m in
    alike_one R e p (class_of R p) l m (subst (λ q. Alike R p q) f (class_alike R p l))

image_same : (R : Repository) → length (firsts R) ≡ length R.clauses → (c : List ℕ) → Ascending c → ((n : ℕ) → In n c → n < length R.clauses) → clause_image R c ≡ c
image_same R e c a range =
    ascending_same (clause_image R c) c (clause_image_ascending R c) a
    (λ k i. let w : (n : ℕ) × (n < length R.clauses) × In n c × (class_of R n ≡ k) = clause_image_cases R c k i in
    subst (λ z. In z c) (sym (class_same R e w.0 w.1) ∙ w.3) w.2)
    (λ n i. subst (λ z. In z (clause_image R c)) (class_same R e n (range n i)) (clause_image_in R c n (range n i) i))

pub merge_plain_lem : MergePlain
merge_plain_lem R s e p l =
    let f : first_of R p ≡ p = first_same R e p l in
    let images : map (clause_image R) (clauses_of R (first_of R p)) ≡ clauses_of R p =
    ap (λ k. map (clause_image R) (clauses_of R k)) f ∙ map_own (clause_image R) (clauses_of R p) (λ c i. image_same R e c (s.clauses p c i).0 (s.clauses p c i).1) in
    record { class = class_same R e p l; clauses = merged_clauses R p (subst (λ n. p < n) (sym e) l) ∙ ap (λ cs. in_row_order (minimal_of (apart_from p cs))) images }

-- and the conflicts stay
pub plain_conflicts : (R : Repository) → SoundRepository R → length (firsts R) ≡ length R.clauses → (quotient R).conflicts ≡ R.conflicts
plain_conflicts R s e =
    let size : length (quotient R).clauses ≡ length R.clauses = merged_size R ∙ e in
    let m : SoundRepository (quotient R) = (merge_is_tidy_lem R s).sound in
    conflicts_same (quotient R) R m s size (λ k l.
    let same : k < length R.clauses → l < length R.clauses → against (quotient R) k l ≡ against R k l =
    λ a b. merged_against R k l (subst (λ n. k < n) (sym e) a) (subst (λ n. l < n) (sym e) b)
    ∙ ap₂ (λ x y. against R x y) (first_same R e k a) (first_same R e l b) in
    same_bool (against (quotient R) k l) (against R k l)
    (λ t. let w : (k < length (quotient R).clauses) × (l < length (quotient R).clauses) = between (quotient R) m k l t in
    sym (same (subst (λ n. k < n) size w.0) (subst (λ n. l < n) size w.1)) ∙ t)
    (λ t. let w : (k < length R.clauses) × (l < length R.clauses) = between R s k l t in same w.0 w.1 ∙ t))
