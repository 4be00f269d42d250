-- A package taken out of a table of rows, and what is looked at then.
use Rattle.std.proofs.Common.{◌≡◌, ◌≢◌, ℕ, zero, suc, ◌<◌, ◌≤◌, ◌+◌, Bool, true, false, ◌&&◌, ◌||◌, eqb, ltb, cond, List, [], ◌∷◌, ◌++◌, length, get_or, inl}
use Rattle.std.proofs.Common.{inr, refl, sym, ◌∙◌, ap, subst, arith, take, Some, None, eq-eqb, eqb-true, ne_eqb, zero-le}
use Rattle.std.proofs.lemmas.Bool.{cond-true, cond-false, ltb-false}
use Rattle.std.specs.{List.{find}, Option.{option_map}}
use Rattle.std.proofs.lemmas.List as lists
use Rattle.listed.specs.Lists.{In, has, Inside}
use Rattle.clause_pool.specs.{Lists.{InOrder}, Clauses.{apart_from, in_row_order}}
use Rattle.row_book.specs.{Numbers.{numbers}, Flattening.{Passed, passed_by}}
use Rattle.listed.proofs.Lists.{any_none, find_not, find_none}
use Rattle.clause_pool.proofs.Clauses.{apart_cases, apart_in, minimal_of_from, minimal_of_parts}
use Rattle.clause_pool.proofs.Order.{order_same, ordered_has, ordered_order, ordered_parts}
use Rattle.row_book.proofs.Numbers.{at_numbers, length_numbers, numbers_from, numbers_parts, numbers_count}
use Rattle.clause_flatten.specs.{Substitution.{table_without, table_passes, length_in, table_row}, TakingOut.{counted_anew, is_over}}
use Rattle.clause_flatten.specs.Waiting.{Filed, recounted}
use Rattle.clause_families.specs.Unions.{all_unions_for, substituted}
use Rattle.clause_families.proofs.Unions.{Comes, replaced_cases, replaced_kept}
use Rattle.clause_flatten.proofs.Turns.{filed_as}

-- a tidy row that does not hold q stays as it is
pub untouched : (p q : ℕ) (A B : List (List ℕ)) → InOrder A → ((c : List ℕ) → In c A → In q c → ⊥) → ((c : List ℕ) → In c A → In p c → ⊥) →
    ((c d : List ℕ) → In c A → In d A → Inside c d → c ≡ d) → in_row_order (substituted p q A B) ≡ A
untouched p q A B o f g m =
    let back : (c : List ℕ) → In c (apart_from p (all_unions_for q A B)) → In c A =
    λ c i.
    let w : (T : List ℕ) × In T A × Comes q B T c = replaced_cases q A B c (apart_cases p (all_unions_for q A B) c i).0 in
    elim w.2.how [ inl k ↦ subst (λ z. In z A) (sym k.1) w.1 | inr n ↦ absurd (f w.0 w.1 n.2) ] in
    order_same (in_row_order (substituted p q A B)) A (ordered_order (substituted p q A B)) o
    (λ c i. back c (minimal_of_parts (apart_from p (all_unions_for q A B)) c (ordered_parts (substituted p q A B) c i)).0)
    (λ c i. ordered_has (substituted p q A B) c
    (minimal_of_from (apart_from p (all_unions_for q A B)) c
    (apart_in p (all_unions_for q A B) c (replaced_kept q A B c i (f c i)) (g c i))
    (λ S j h. subst (λ z. Inside c z) (sym (m S c (back S j) i h)) (λ n k. k))))

-- the rows of a table when q is taken out
pub eliminated_at : (q : ℕ) (t : List (List (List ℕ))) (p : ℕ) → p < length t → table_row (table_without q t) p ≡ cond (eqb p q) (table_row t q) (in_row_order (substituted p q (table_row t p) (table_row t q)))
unfolding table_without
eliminated_at q t p l =
    let new : ℕ → List (List ℕ) = λ p. cond (eqb p q) (table_row t q) (in_row_order (substituted p q (table_row t p) (table_row t q))) in
    at_numbers new [] (length t) 0 p l ∙ ap new (omega arith)

pub eliminated_count : (q : ℕ) (t : List (List (List ℕ))) → length (table_without q t) ≡ length t
unfolding table_without
eliminated_count q t = length_numbers (λ p. cond (eqb p q) (table_row t q) (in_row_order (substituted p q (table_row t p) (table_row t q)))) (length t) 0

-- that of q, and any other
pub own_without : (q : ℕ) (t : List (List (List ℕ))) → q < length t → table_row (table_without q t) q ≡ table_row t q
own_without q t l = eliminated_at q t q l ∙ cond-true (eqb q q) (table_row t q) (in_row_order (substituted q q (table_row t q) (table_row t q))) (eq-eqb q q refl)

pub other_without : (q : ℕ) (t : List (List (List ℕ))) (p : ℕ) → p < length t → p ≢ q → table_row (table_without q t) p ≡ in_row_order (substituted p q (table_row t p) (table_row t q))
other_without q t p l ne =
    eliminated_at q t p l ∙ cond-false (eqb p q) (table_row t q) (in_row_order (substituted p q (table_row t p) (table_row t q))) (ne_eqb p q ne)

-- the first of a list that passes, by places
pub find_at : (p : ℕ → Bool) (xs : List ℕ) (i x : ℕ) → i < length xs → x ≡ get_or xs i x → ((k : ℕ) → k < i → p (get_or xs k 0) ≡ false) → p x ≡ true → find p xs ≡ Some x
find_at p [] i x l e f h = absurd (omega arith)
find_at p (y ∷ ys) zero x l e f h = cond-true (p y) (Some y) (find p ys) (ap p (sym e) ∙ h) ∙ ap (λ z. Some z) (sym e)
find_at p (y ∷ ys) (suc i) x l e f h =
    cond-false (p y) (Some y) (find p ys) (f 0 (omega arith)) ∙ find_at p ys i x (omega arith) e (λ k m. f (suc k) (omega arith)) h

pub find_nowhere : (p : ℕ → Bool) (xs : List ℕ) → ((k : ℕ) → k < length xs → p (get_or xs k 0) ≡ false) → find p xs ≡ None
find_nowhere p [] f = refl
find_nowhere p (x ∷ xs) f = cond-false (p x) (Some x) (find p xs) (f 0 (omega arith)) ∙ find_nowhere p xs (λ k l. f (suc k) (omega arith))

number_at : (n s k d : ℕ) → k < n → get_or (numbers n s) k d ≡ s + k
unfolding numbers
number_at zero s k d l = absurd (omega arith)
number_at (suc n) s zero d l = omega arith
number_at (suc n) s (suc k) d l = number_at n (suc s) k d (omega arith) ∙ omega arith

-- the least number that passes
pub least_passing : (p : ℕ → Bool) (n x : ℕ) → x < n → ((k : ℕ) → k < x → p k ≡ false) → p x ≡ true → find p (numbers n 0) ≡ Some x
least_passing p n x l f h =
    find_at p (numbers n 0) x x (omega (arith, numbers_count n 0)) (sym (number_at n 0 x x l ∙ omega arith))
    (λ k m. ap p (number_at n 0 k 0 (omega arith) ∙ omega arith) ∙ f k m) h

pub none_passing : (p : ℕ → Bool) (n : ℕ) → ((k : ℕ) → k < n → p k ≡ false) → find p (numbers n 0) ≡ None
none_passing p n f = find_not p (numbers n 0) (λ k i. let w : (0 ≤ k) × (k < 0 + n) = numbers_parts n 0 k i in f k (omega arith))

-- what is told of the first one
pub passed_some : (t : List (List (List ℕ))) (limit i q n : ℕ) (ps : List ℕ) → find (is_over t limit) ps ≡ Some q → n ≡ length_in t q →
    passed_by (length_in t) ps limit i ≡ Some (record { gone = i; over = q; count = n })
passed_some t limit i q n ps e d =
    ap (option_map (λ p. record { gone = i; over = p; count = length_in t p })) e ∙ ap (λ k. Some (record { gone = i; over = q; count = k })) (sym d)

pub none_over : (t : List (List (List ℕ))) (limit : ℕ) (n : ℕ) → find (is_over t limit) (numbers n 0) ≡ None → (p : ℕ) → p < n → length_in t p ≤ limit
none_over t limit n e p l =
    ltb-false limit (length_in t p) (find_none (is_over t limit) (numbers n 0) e p (numbers_from n 0 p zero-le (omega arith)))

-- one more user filed
or_cond : (a b c : Bool) → (a || cond b true c) ≡ cond b true (a || c)
or_cond true true c = refl
or_cond true false c = refl
or_cond false true c = refl
or_cond false false c = refl

has_push : (ys : List ℕ) (y n : ℕ) → has (ys ++ y ∷ []) n ≡ cond (eqb n y) true (has ys n)
has_push [] y n = last (eqb n y)
  where
    last : (b : Bool) → (b || false) ≡ cond b true false
    last true = refl
    last false = refl
has_push (z ∷ zs) y n = ap (λ b. eqb n z || b) (has_push zs y n) ∙ or_cond (eqb n z) (eqb n y) (has zs n)

has_more : (xs : List ℕ) (i n : ℕ) → i < length xs → has (take (i + 1) xs) n ≡ cond (eqb n (get_or xs i 0)) true (has (take i xs) n)
has_more xs i n l = ap (λ ys. has ys n) (lists.take_more xs i 0 l) ∙ has_push (take i xs) (get_or xs i 0) n

pub file_more : (old new : List ℕ) (may : ℕ → Bool) (count : ℕ → ℕ) (t : List (List (List ℕ))) (users : List ℕ) (i : ℕ) → i < length users →
    Filed old may (counted_anew count t (take i users)) →
    ((may : ℕ → Bool) (count : ℕ → ℕ) → Filed old may count → Filed new may (recounted count (get_or users i 0) (length_in t (get_or users i 0)))) →
    Filed new may (counted_anew count t (take (i + 1) users))
file_more old new may count t users i l d f =
    filed_as new may may (recounted (counted_anew count t (take i users)) (get_or users i 0) (length_in t (get_or users i 0))) (counted_anew count t (take (i + 1) users))
    (f may (counted_anew count t (take i users)) d)
    (λ q. refl)
    (λ q h. pick q (eqb q (get_or users i 0)) refl ∙ ap (λ b. cond b (length_in t q) (count q)) (sym (has_more users i q l)))
  where
    pick : (q : ℕ) (b : Bool) → eqb q (get_or users i 0) ≡ b →
        cond b (length_in t (get_or users i 0)) (cond (has (take i users) q) (length_in t q) (count q)) ≡ cond (cond b true (has (take i users) q)) (length_in t q) (count q)
    pick q true u = ap (length_in t) (sym (eqb-true q (get_or users i 0) u))
    pick q false u = refl

-- a limit that is passed when a package is taken out, where it is held if some row would pass it
pub holds_none : (hold : Bool) (t : List (List (List ℕ))) (limit i n : ℕ) (w : Passed) → n ≡ length t → false ≡ (hold && table_passes limit t) →
    passed_by (length_in t) (numbers n 0) limit i ≡ Some w → hold ≡ false
unfolding table_passes
holds_none false t limit i n w size e h = refl
holds_none true t limit i n w size e h =
    let none : find (is_over t limit) (numbers n 0) ≡ None =
    find_not (is_over t limit) (numbers n 0) (λ p j.
    any_none (λ p. ltb limit (length_in t p)) (numbers (length t) 0) (sym e) p (subst (λ m. In p (numbers m 0)) size j)) in
    let made : ℕ → Passed = λ p. record { gone = i; over = p; count = length_in t p } in
    absurd (none_some (sym (ap (option_map made) none) ∙ h))
  where
    none_some : None ≡ Some w → ⊥
    none_some f = cc
