-- Packages without conflicts, and those of them that wait.
use Rattle.std.proofs.Common.{◌≡◌, ℕ, ◌<◌, ◌+◌, Bool, true, false, not, ◌&&◌, ◌||◌, eqb, ltb, List, [], ◌∷◌, length, inl, inr, refl, sym, ◌∙◌, ap, ap₂, subst}
use Rattle.std.proofs.Common.{arith, ne_eqb, zero-le}
use Rattle.std.specs.Cmp.{both_ways as bool_same}
use Rattle.std.proofs.lemmas.Bool.{both_ways, cases_eq, and_left, and_parts, and_from, or_left, or_cases, not_from_true, false_from_ne_true, ltb-true, lt-ltb}
use Rattle.std.proofs.lemmas.Bool.{le-ltb, not_from_false}
use Rattle.std.proofs.lemmas.List as lists
use Rattle.clause_pool.specs.Interned.{Interned, row_at}
use Rattle.row_book.specs.{declared.book.Book.{Book}, Sets.{plus}, Repository.{Repository, against, conflicts_of}, Sound.{BetweenPackages}}
use Rattle.row_book.specs.{Book.{Sound, listed_for, repository_of}, Flattening.{has_conflict, may_go, none_gone, packages}}
use Rattle.listed.specs.Lists.{In, here}
use Rattle.row_book.proofs.{Sets.{plus_cases, plus_new, plus_old}, Books.{between_packages}, Numbers.{numbers_from}}
use Rattle.listed.proofs.Lists.{In_none, any_cases, any_from, has_In, In_has}
use Rattle.clause_flatten.specs.{TakingOut.{is_free}, Waiting.{Filed}}
use Rattle.clause_flatten.proofs.Turns.{filed_as}

-- packages without conflicts
conflict_from : (R : Repository) → BetweenPackages R → (q n : ℕ) → In n (conflicts_of R q) → has_conflict R q ≡ true
conflict_from R between q n i =
    let h : against R q n ≡ true = In_has i in
    let l : n < length R.clauses = (between q n h).1 in
    any_from (λ n. against R q n || against R n q) (packages R) n (numbers_from (length R.clauses) 0 n zero-le (omega arith)) (or_left (against R q n) (against R n q) h)

free_list : (R : Repository) → BetweenPackages R → ((p q : ℕ) → against R p q ≡ true → against R q p ≡ true) → (q : ℕ) (xs : List ℕ) → conflicts_of R q ≡ xs →
    eqb (length xs) 0 ≡ not (has_conflict R q)
free_list R between either q [] e =
    sym (not_from_false (has_conflict R q) (false_from_ne_true (has_conflict R q) (λ h.
    let w : (n : ℕ) × In n (packages R) × ((against R q n || against R n q) ≡ true) = any_cases (λ n. against R q n || against R n q) (packages R) h in
    let a : against R q w.0 ≡ true = elim (or_cases (against R q w.0) (against R w.0 q) w.2) [ inl b ↦ b | inr b ↦ either w.0 q b ] in
    In_none (subst (λ ys. In w.0 ys) e (has_In (conflicts_of R q) w.0 a)))))
free_list R between either q (x ∷ xs) e =
    ne_eqb (length (x ∷ xs)) 0 (λ h. omega (arith, h))
    ∙ sym (not_from_true (has_conflict R q) (conflict_from R between q x (subst (λ ys. In x ys) (sym e) here)))

pub start_may : (pool : Interned) (book : Book) → Sound pool book → (q : ℕ) →
    (ltb q (length book.rows) && is_free book.conflicts q) ≡ may_go (repository_of pool book) (none_gone (repository_of pool book)) q
start_may pool book s q =
    let count : length (repository_of pool book).clauses ≡ length book.rows = lists.length-map book.rows (row_at pool) in
    ap₂ (λ a b. a && b) (ap (ltb q) (sym count))
    (free_list (repository_of pool book) (between_packages pool book s) (λ p q h. s.conflicts.either_way p q h) q (listed_for book.conflicts q) refl
    ∙ and_whole (not (has_conflict (repository_of pool book) q)))
  where
    and_whole : (a : Bool) → a ≡ (a && true)
    and_whole true = refl
    and_whole false = refl

-- the packages without conflicts, up to one of them
pub waiting_none : (w : List ℕ) (conflicts : List (List ℕ)) (count : ℕ → ℕ) → Filed w (λ q. false) count → Filed w (λ q. ltb q 0 && is_free conflicts q) count
waiting_none w conflicts count f = filed_as w (λ q. false) (λ q. ltb q 0 && is_free conflicts q) count count f (λ q. sym (and_left (ltb q 0) (is_free conflicts q) (le-ltb q 0 (omega arith)))) (λ q h. refl)

below_more : (conflicts : List (List ℕ)) (p q : ℕ) → (ltb q p && is_free conflicts q) ≡ true → (ltb q (p + 1) && is_free conflicts q) ≡ true
below_more conflicts p q h =
    let w : (ltb q p ≡ true) × (is_free conflicts q ≡ true) = and_parts (ltb q p) (is_free conflicts q) h in
    and_from (ltb q (p + 1)) (is_free conflicts q) (lt-ltb q (p + 1) (let l : q < p = ltb-true q p w.0 in omega arith)) w.1

pub waiting_more : (w : List ℕ) (conflicts : List (List ℕ)) (count : ℕ → ℕ) (p : ℕ) → is_free conflicts p ≡ true →
    Filed w (plus (λ q. ltb q p && is_free conflicts q) p) count → Filed w (λ q. ltb q (p + 1) && is_free conflicts q) count
waiting_more w conflicts count p e f =
    filed_as w (plus (λ q. ltb q p && is_free conflicts q) p) (λ q. ltb q (p + 1) && is_free conflicts q) count count f
    (λ q. bool_same (plus (λ q. ltb q p && is_free conflicts q) p q) (ltb q (p + 1) && is_free conflicts q)
    (λ h. elim (plus_cases (λ q. ltb q p && is_free conflicts q) p q h) [
      | inl a ↦ below_more conflicts p q a
      | inr s ↦ and_from (ltb q (p + 1)) (is_free conflicts q) (lt-ltb q (p + 1) (omega (arith, s))) (ap (is_free conflicts) s ∙ e)
    ])
    (λ h. let w : (ltb q (p + 1) ≡ true) × (is_free conflicts q ≡ true) = and_parts (ltb q (p + 1)) (is_free conflicts q) h in
    let l : q < p + 1 = ltb-true q (p + 1) w.0 in
    elim (cases_eq q p) [
      | inl s ↦ plus_new (λ q. ltb q p && is_free conflicts q) p q s
      | inr ne ↦ plus_old (λ q. ltb q p && is_free conflicts q) p q (and_from (ltb q p) (is_free conflicts q) (lt-ltb q p (omega (arith, ne))) w.1)
    ]))
    (λ q h. refl)

pub waiting_same : (w : List ℕ) (conflicts : List (List ℕ)) (count : ℕ → ℕ) (p : ℕ) → is_free conflicts p ≡ false →
    Filed w (λ q. ltb q p && is_free conflicts q) count → Filed w (λ q. ltb q (p + 1) && is_free conflicts q) count
waiting_same w conflicts count p e f =
    filed_as w (λ q. ltb q p && is_free conflicts q) (λ q. ltb q (p + 1) && is_free conflicts q) count count f
    (λ q. bool_same (ltb q p && is_free conflicts q) (ltb q (p + 1) && is_free conflicts q)
    (below_more conflicts p q)
    (λ h. let w : (ltb q (p + 1) ≡ true) × (is_free conflicts q ≡ true) = and_parts (ltb q (p + 1)) (is_free conflicts q) h in
    let l : q < p + 1 = ltb-true q (p + 1) w.0 in
    elim (cases_eq q p) [
      | inl s ↦ absurd (both_ways (is_free conflicts q) (ap (is_free conflicts) s ∙ e) w.1)
      | inr ne ↦ and_from (ltb q p) (is_free conflicts q) (lt-ltb q p (omega (arith, ne))) w.1
    ]))
    (λ q h. refl)
