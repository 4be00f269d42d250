-- What some clause of a row passes, and what none does.
use Rattle.std.proofs.Common.{◌≡◌, ℕ, zero, suc, ◌<◌, Bool, true, false, not, ◌&&◌, ◌||◌, cond, eqb, List, [], ◌∷◌, length, get_or, refl, sym, ◌∙◌, ap, ap₂}
use Rattle.std.proofs.Common.{subst, inl, inr, arith, map, Some, None, length-set}
use Rattle.std.proofs.lemmas.Bool.{and_from, both_ways, cases_Bool, false_from_ne_true, not_from_false, not_from_true, not-true, or_cases, or_left, or_right}
use Rattle.std.proofs.lemmas.List.{get_or-set_same, length-map}
use Rattle.std.specs.{List.{find, list_all, list_any, filter}, Cmp.Lexicographic.{pointwise}}
use Rattle.listed.proofs.{Bools.{same_bool}, Lists.{In_has, In_map, all_at, all_from, all_same, has_In}}
use Rattle.clause_pool.specs.Interned.{Interned, IsPool, clause_at, clauses_at, row_at}
use Rattle.listed.specs.Lists.{In, has, is_inside}
use Rattle.row_book.specs.{Book.{listed_for}, Flattening.{packages}, Repository.{Repository, against, clauses_of}}
use Rattle.row_book.specs.{Pruning.{is_forced, is_harmless, is_idle, is_hit_anyway, serves}, Facing.{against_in}}
use Rattle.row_book.proofs.Repositories.{in_packages, numbers_test, same_numbers}
use Rattle.clause_prune.specs.Tests.{forces_in, harmless_in, with_ids, hit_anyway_in}

-- the clauses in what is left
module _ (pool : Interned) (rows : List ℕ) (p : ℕ) (left : List ℕ) (table : List (List ℕ)) (inside : p < length rows) where
  pub left_own : clauses_of (with_ids pool rows p left table) p ≡ clauses_at pool left
  left_own = get_or-set_same (map (row_at pool) rows) p (clauses_at pool left) [] (let e : length (map (row_at pool) rows) ≡ length rows = length-map rows (row_at pool) in omega (arith, e))

-- some of those that pass one test pass another
pub any_filter : (test keep : List ℕ → Bool) (xs : List (List ℕ)) → list_any test (filter keep xs) ≡ list_any (λ x. keep x && test x) xs
any_filter test keep [] = refl
any_filter test keep (x ∷ xs) = pick (keep x) (any_filter test keep xs)
  where
    pick : (b : Bool) → list_any test (filter keep xs) ≡ list_any (λ x. keep x && test x) xs → list_any test (cond b (x ∷ filter keep xs) (filter keep xs)) ≡ ((b && test x) || list_any (λ x. keep x && test x) xs)
    pick true e = ap (λ z. test x || z) e
    pick false e = e

-- ids of a pool differ where their clauses do
pub other_id : (pool : Interned) → IsPool pool → (i j : ℕ) → i < length pool.clauses → j < length pool.clauses → (i ≡ j → ⊥) → not (pointwise eqb (clause_at pool i) (clause_at pool j)) ≡ true
other_id pool is i j l m f = not_from_false (pointwise eqb (clause_at pool i) (clause_at pool j)) (false_from_ne_true (pointwise eqb (clause_at pool i) (clause_at pool j)) (λ t. f (is.clauses_once i j l m (same_numbers (clause_at pool i) (clause_at pool j) t))))

pub same_id : (pool : Interned) (i j : ℕ) → i ≡ j → not (pointwise eqb (clause_at pool i) (clause_at pool j)) ≡ false
same_id pool i j e = not_from_true (pointwise eqb (clause_at pool i) (clause_at pool j)) (numbers_test (clause_at pool i) (clause_at pool j) (ap (clause_at pool) e))

pub both_tests : (a b x : Bool) → x ≡ true → a ≡ b → a ≡ (x && b)
both_tests a b x e f = f ∙ ap (λ z. z && b) (sym e)

pub first_fails : (b x : Bool) → x ≡ false → false ≡ (x && b)
first_fails b x e = ap (λ z. z && b) (sym e)

pub read_zero : (xs : List ℕ) (i d : ℕ) → i < length xs → get_or xs i d ≡ get_or xs i 0
read_zero [] i d l = absurd (omega arith)
read_zero (x ∷ xs) zero d l = refl
read_zero (x ∷ xs) (suc i) d l = read_zero xs i d (omega arith)

-- forced by one of the clauses that are left
pub forced_is : (pool : Interned) (rows : List ℕ) (p : ℕ) (left d : List ℕ) → p < length rows →
    is_forced (with_ids pool rows p left []) p d ≡ list_any (forces_in pool rows p left d) (clauses_at pool left)
forced_is pool rows p left d l =
    ap (λ cs. list_any (λ e. list_all (serves (with_ids pool rows p left []) d) e) (filter (λ c. not (pointwise eqb c d)) cs)) (left_own pool rows p left [] l)
    ∙ any_filter (λ e. list_all (serves (with_ids pool rows p left []) d) e) (λ c. not (pointwise eqb c d)) (clauses_at pool left)

-- idle, by the lists at hand
module _ (pool : Interned) (rows : List ℕ) (p : ℕ) (left : List ℕ) (table : List (List ℕ)) (inside : p < length rows) where
  abbrev R : Repository
  R = with_ids pool rows p left table

  size : length R.clauses ≡ length rows
  size = length-set (map (row_at pool) rows) p (clauses_at pool left) ∙ length-map rows (row_at pool)

  harmless_is : (d : List ℕ) (y : ℕ) → is_harmless R p d y ≡ harmless_in pool table p left d y
  harmless_is d y =
      ap (λ b. not (eqb y p) && (has d y || (against_in table p y || b)))
      (ap (λ cs. list_any (λ e. list_all (against_in table y) e) (filter (λ c. not (pointwise eqb c d)) cs)) (left_own pool rows p left table inside)
      ∙ any_filter (λ e. list_all (against_in table y) e) (λ c. not (pointwise eqb c d)) (clauses_at pool left))

  hit_anyway_is : (d c : List ℕ) → is_hit_anyway R p d c ≡ hit_anyway_in pool p left d c
  hit_anyway_is d c =
      ap (λ b. has c p || b)
      (ap (λ cs. list_any (λ e. is_inside e c) (filter (λ c. not (pointwise eqb c d)) cs)) (left_own pool rows p left table inside)
      ∙ any_filter (λ e. is_inside e c) (λ c. not (pointwise eqb c d)) (clauses_at pool left))

  conflicting_are : (d : List ℕ) (x : ℕ) → ((n : ℕ) → In n (listed_for table x) → n < length rows) →
      list_all (λ y. not (against R x y) || is_harmless R p d y) (packages R) ≡ list_all (harmless_in pool table p left d) (listed_for table x)
  conflicting_are d x range =
      same_bool (list_all (λ y. not (against R x y) || is_harmless R p d y) (packages R)) (list_all (harmless_in pool table p left d) (listed_for table x))
      (λ t. all_from (harmless_in pool table p left d) (listed_for table x) (λ y i.
      elim (or_cases (not (against R x y)) (is_harmless R p d y) (all_at (λ y. not (against R x y) || is_harmless R p d y) (packages R) t y (in_packages R y (subst (λ z. y < z) (sym size) (range y i))))) [
        | inl f ↦ absurd (both_ways (against R x y) (not-true (against R x y) f) (In_has i))
        | inr g ↦ sym (harmless_is d y) ∙ g
      ]))
      (λ t. all_from (λ y. not (against R x y) || is_harmless R p d y) (packages R) (λ y i.
      elim (cases_Bool (against R x y)) [
        | inl h ↦ or_right (not (against R x y)) (is_harmless R p d y) (harmless_is d y ∙ all_at (harmless_in pool table p left d) (listed_for table x) t y (has_In (listed_for table x) y h))
        | inr h ↦ or_left (not (against R x y)) (is_harmless R p d y) (not_from_false (against R x y) h)
      ]))

  pub idle_is : (d : List ℕ) (x : ℕ) → In x d → ((n : ℕ) → In n (listed_for table x) → n < length rows) →
      is_idle R p d x ≡ (list_all (harmless_in pool table p left d) (listed_for table x) && list_all (hit_anyway_in pool p left d) (clauses_of R x))
  idle_is d x i range =
      ap (λ b. b && (list_all (λ y. not (against R x y) || is_harmless R p d y) (packages R) && list_all (is_hit_anyway R p d) (clauses_of R x))) (In_has i)
      ∙ ap₂ (λ a b. a && b) (conflicting_are d x range) (all_same (is_hit_anyway R p d) (hit_anyway_in pool p left d) (clauses_of R x) (λ c j. hit_anyway_is d c))

-- the first that passes
pub find_first : (test : ℕ → Bool) (xs : List ℕ) (i : ℕ) → i < length xs → ((k : ℕ) → k < i → test (get_or xs k 0) ≡ false) → test (get_or xs i 0) ≡ true → Some (get_or xs i 0) ≡ find test xs
find_first test [] i l f e = absurd (omega arith)
find_first test (x ∷ xs) zero l f e = sym (ap (λ b. cond b (Some x) (find test xs)) e)
find_first test (x ∷ xs) (suc i) l f e =
    find_first test xs i (omega arith) (λ k m. f (suc k) (omega arith)) e ∙ sym (ap (λ b. cond b (Some x) (find test xs)) (f 0 (omega arith)))

pub find_nothing : (test : ℕ → Bool) (xs : List ℕ) → ((k : ℕ) → k < length xs → test (get_or xs k 0) ≡ false) → None ≡ find test xs
find_nothing test [] f = refl
find_nothing test (x ∷ xs) f = find_nothing test xs (λ k m. f (suc k) (omega arith)) ∙ sym (ap (λ b. cond b (Some x) (find test xs)) (f 0 (omega arith)))

-- clauses of a row, one of which fails
pub each_fails : (p : List ℕ → Bool) (f : ℕ → List ℕ) (xs : List ℕ) (x : ℕ) → In x xs → p (f x) ≡ false → list_all p (map f xs) ≡ false
each_fails p f xs x i h = false_from_ne_true (list_all p (map f xs)) (λ t. both_ways (p (f x)) h (all_at p (map f xs) t (f x) (In_map f xs x i)))

pub each_pass : (p : List ℕ → Bool) (f : ℕ → List ℕ) (xs : List ℕ) → ((k : ℕ) → k < length xs → p (f (get_or xs k 0)) ≡ true) → list_all p (map f xs) ≡ true
each_pass p f [] h = refl
each_pass p f (x ∷ xs) h = and_from (p (f x)) (list_all p (map f xs)) (h 0 (omega arith)) (each_pass p f xs (λ k l. h (suc k) (omega arith)))
