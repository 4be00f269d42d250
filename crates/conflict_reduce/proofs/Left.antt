-- What is left of a table of conflicts when some are gone.
use Rattle.std.proofs.Common.{◌≡◌, ◌≢◌, ℕ, ◌<◌, Bool, true, false, not, ◌&&◌, ◌||◌, cond, eqb, List, [], ◌∷◌, ◌++◌, ◌⊎◌, length, inl, inr, refl, sym, ◌∙◌, ap}
use Rattle.std.proofs.{Common.{ap₂, subst, arith, filter, map, eq-eqb, eqb-true, ne_eqb, length-set}, lemmas.Bool.{and_parts, cases_eq, cases_lt, or_cases}}
use Rattle.std.proofs.lemmas.List.{get_or_past, get_or-set_other, get_or-set_same, length-map}
use Rattle.listed.proofs.{Orders.{ascending_push}, Lists.{In_has, filter_same, has_In}}
use Rattle.clause_pool.specs.Interned.{Interned, row_at}
use Rattle.row_book.specs.{declared.book.Book.{Book}, declared.pair.Pair.{Pair}, Facing.{against_in}, Book.{listed_for}, Thinning.{is_pair, without_pair}}
use Rattle.listed.specs.Lists.{In, has, Ascending}
use Rattle.row_book.proofs.{Numbers.{at_numbers, length_numbers}, Repositories.{has_filter, repository_same, table_same}}
use Rattle.conflict_reduce.specs.Tests.{book_left, conflict_but, left_for, left_of, with_behind, with_gone}
use Rattle.conflict_reduce.proofs.Thinned.{less_count, less_list}

-- tests
or_false : (x : Bool) → x ≡ (x || false)
or_false true = refl
or_false false = refl

or_or : (x y z : Bool) → (x || (y || z)) ≡ ((x || y) || z)
or_or true y z = refl
or_or false y z = refl

not_or : (x y : Bool) → not (x || y) ≡ (not x && not y)
not_or true y = refl
not_or false y = refl

-- lists
filter_all : (f : ℕ → Bool) (xs : List ℕ) → ((x : ℕ) → f x ≡ true) → filter f xs ≡ xs
filter_all f [] h = refl
filter_all f (x ∷ xs) h = ap (λ b. cond b (x ∷ filter f xs) (filter f xs)) (h x) ∙ ap (λ z. x ∷ z) (filter_all f xs h)

filter_twice : (f g : ℕ → Bool) (xs : List ℕ) → filter (λ q. f q && g q) xs ≡ filter g (filter f xs)
filter_twice f g [] = refl
filter_twice f g (x ∷ xs) = pick (f x) (filter_twice f g xs)
  where
    pick : (b : Bool) → filter (λ q. f q && g q) xs ≡ filter g (filter f xs) →
        cond (b && g x) (x ∷ filter (λ q. f q && g q) xs) (filter (λ q. f q && g q) xs) ≡ filter g (cond b (x ∷ filter f xs) (filter f xs))
    pick true e = ap (λ z. cond (g x) (x ∷ z) z) e
    pick false e = e

has_behind : (xs : List ℕ) (y q : ℕ) → has (xs ++ y ∷ []) q ≡ (has xs q || eqb q y)
has_behind [] y q = sym (or_false (eqb q y))
has_behind (x ∷ xs) y q = ap (λ z. eqb q x || z) (has_behind xs y q) ∙ or_or (eqb q x) (has xs q) (eqb q y)

-- what is left of the conflicts of a package
pub left_size : (table gone : List (List ℕ)) → length (left_of table gone) ≡ length table
unfolding left_of
left_size table gone = length_numbers (left_for table gone) (length table) 0

pub left_at : (table gone : List (List ℕ)) (p : ℕ) → listed_for (left_of table gone) p ≡ left_for table gone p
unfolding left_of
left_at table gone p =
    elim (cases_lt p (length table)) [
      | inl l ↦ at_numbers (left_for table gone) [] (length table) 0 p l ∙ ap (left_for table gone) (omega arith)
      | inr past ↦
          get_or_past (left_of table gone) p [] (let e : length (left_of table gone) ≡ length table = left_size table gone in omega (arith, e, past))
          ∙ sym (ap (filter (λ q. not (against_in gone p q))) (get_or_past table p [] past))
    ]

pub left_test : (table gone : List (List ℕ)) (m n : ℕ) → against_in (left_of table gone) m n ≡ (against_in table m n && not (against_in gone m n))
left_test table gone m n = ap (λ xs. has xs n) (left_at table gone m) ∙ has_filter (λ q. not (against_in gone m q)) (listed_for table m) n

pub left_own : (table gone : List (List ℕ)) (pair : Pair) (m n : ℕ) → conflict_but (left_of table gone) pair m n ≡ true → has (listed_for table m) n ≡ true
left_own table gone pair m n t =
    let w : (against_in (left_of table gone) m n ≡ true) × (not (is_pair pair.low pair.high m n) ≡ true) =
    and_parts (against_in (left_of table gone) m n) (not (is_pair pair.low pair.high m n)) t in
    (and_parts (against_in table m n) (not (against_in gone m n)) (sym (left_test table gone m n) ∙ w.0)).0

-- nothing goes of a list of which nothing is gone
pub none_go : (gone : List (List ℕ)) (p : ℕ) (list : List ℕ) → listed_for gone p ≡ [] → filter (λ q. not (against_in gone p q)) list ≡ list
none_go gone p list e = filter_all (λ q. not (against_in gone p q)) list (λ q. ap (λ xs. not (has xs q)) e)

pub left_none : (table gone : List (List ℕ)) → ((p : ℕ) → listed_for gone p ≡ []) → left_of table gone ≡ table
left_none table gone e =
    table_same (left_of table gone) table (left_size table gone)
    (λ p l. left_at table gone p ∙ none_go gone p (listed_for table p) (e p))

-- one more conflict that is gone
module _ (gone : List (List ℕ)) (a b : ℕ) (up : a < b) (inside : b < length gone) where
  apart : b ≢ a
  apart e = absurd (omega (arith, e))

  apart2 : a ≢ b
  apart2 e = absurd (omega (arith, e))

  first : List (List ℕ)
  first = with_behind gone a b

  first_size : length (with_behind gone a b) ≡ length gone
  first_size = length-set gone a (listed_for gone a ++ b ∷ [])

  pub gone_size : length (with_gone gone a b) ≡ length gone
  gone_size = length-set (with_behind gone a b) b (listed_for (with_behind gone a b) b ++ a ∷ []) ∙ first_size

  pub gone_high : listed_for (with_gone gone a b) b ≡ listed_for gone b ++ a ∷ []
  gone_high =
      get_or-set_same (with_behind gone a b) b (listed_for (with_behind gone a b) b ++ a ∷ []) [] (let e : length (with_behind gone a b) ≡ length gone = first_size in omega (arith, e))
      ∙ ap (λ xs. xs ++ a ∷ []) (get_or-set_other gone a b (listed_for gone a ++ b ∷ []) [] apart)

  pub gone_low : listed_for (with_gone gone a b) a ≡ listed_for gone a ++ b ∷ []
  gone_low =
      get_or-set_other (with_behind gone a b) b a (listed_for (with_behind gone a b) b ++ a ∷ []) [] apart2
      ∙ get_or-set_same gone a (listed_for gone a ++ b ∷ []) [] (omega arith)

  pub gone_other : (p : ℕ) → p ≢ b → p ≢ a → listed_for (with_gone gone a b) p ≡ listed_for gone p
  gone_other p f g =
      get_or-set_other (with_behind gone a b) b p (listed_for (with_behind gone a b) b ++ a ∷ []) [] f
      ∙ get_or-set_other gone a p (listed_for gone a ++ b ∷ []) [] g

  pub gone_test : (p q : ℕ) → against_in (with_gone gone a b) p q ≡ (against_in gone p q || is_pair a b p q)
  gone_test p q =
      elim (cases_eq p b) [
        | inl e ↦ subst (λ z. against_in (with_gone gone a b) z q ≡ (against_in gone z q || is_pair a b z q)) (sym e)
            (ap (λ xs. has xs q) gone_high ∙ has_behind (listed_for gone b) a q
            ∙ ap (λ z. against_in gone b q || z) (sym (ap₂ (λ s t. (s && eqb q b) || (t && eqb q a)) (ne_eqb b a apart) (eq-eqb b b refl))))
        | inr f ↦ elim (cases_eq p a) [
          | inl e ↦ subst (λ z. against_in (with_gone gone a b) z q ≡ (against_in gone z q || is_pair a b z q)) (sym e)
              (ap (λ xs. has xs q) gone_low ∙ has_behind (listed_for gone a) b q
              ∙ ap (λ z. against_in gone a q || z) (or_false (eqb q b) ∙ sym (ap₂ (λ s t. (s && eqb q b) || (t && eqb q a)) (eq-eqb a a refl) (ne_eqb a b apart2))))
          | inr g ↦
              ap (λ xs. has xs q) (gone_other p f g) ∙ or_false (against_in gone p q)
              ∙ ap (λ z. against_in gone p q || z) (sym (ap₂ (λ s t. (s && eqb q b) || (t && eqb q a)) (ne_eqb p a g) (ne_eqb p b f)))
        ]
      ]

  pub gone_cases : (p q : ℕ) → In q (listed_for (with_gone gone a b) p) → In q (listed_for gone p) ⊎ (((p ≡ a) × (q ≡ b)) ⊎ ((p ≡ b) × (q ≡ a)))
  gone_cases p q i =
      elim (or_cases (against_in gone p q) (is_pair a b p q) (sym (gone_test p q) ∙ In_has i)) [
        | inl h ↦ inl (has_In (listed_for gone p) q h)
        | inr h ↦ elim (or_cases (eqb p a && eqb q b) (eqb p b && eqb q a) h) [
          | inl k ↦ let w : (eqb p a ≡ true) × (eqb q b ≡ true) = and_parts (eqb p a) (eqb q b) k in inr (inl (eqb-true p a w.0, eqb-true q b w.1))
          | inr k ↦ let w : (eqb p b ≡ true) × (eqb q a ≡ true) = and_parts (eqb p b) (eqb q a) k in inr (inr (eqb-true p b w.0, eqb-true q a w.1))
        ]
      ]

  pub gone_ascending : ((p : ℕ) → Ascending (listed_for gone p)) → ((q : ℕ) → In q (listed_for gone a) → q < b) → ((q : ℕ) → In q (listed_for gone b) → q < a) →
      (p : ℕ) → Ascending (listed_for (with_gone gone a b) p)
  gone_ascending f low high p =
      elim (cases_eq p b) [
        | inl e ↦ subst (λ z. Ascending (listed_for (with_gone gone a b) z)) (sym e) (subst Ascending (sym gone_high) (ascending_push (listed_for gone b) a (f b) high))
        | inr g ↦ elim (cases_eq p a) [
          | inl e ↦ subst (λ z. Ascending (listed_for (with_gone gone a b) z)) (sym e) (subst Ascending (sym gone_low) (ascending_push (listed_for gone a) b (f a) low))
          | inr h ↦ subst Ascending (sym (gone_other p g h)) (f p)
        ]
      ]

-- what is left then is what was left without that conflict
pub left_without : (pool : Interned) (book : Book) (gone : List (List ℕ)) (a b : ℕ) → a < b → b < length gone → length gone ≡ length book.rows →
    book_left pool book (with_gone gone a b) ≡ without_pair (book_left pool book gone) a b
left_without pool book gone a b up inside count =
    repository_same (book_left pool book (with_gone gone a b)) (without_pair (book_left pool book gone) a b) refl
    (table_same (left_of book.conflicts (with_gone gone a b)) (without_pair (book_left pool book gone) a b).conflicts
    (left_size book.conflicts (with_gone gone a b) ∙ book.paired ∙ sym (length-map book.rows (row_at pool)) ∙ sym (less_count (book_left pool book gone) a b)) (λ p l.
    let size : length (left_of book.conflicts (with_gone gone a b)) ≡ length (map (row_at pool) book.rows) = left_size book.conflicts (with_gone gone a b) ∙ book.paired ∙ sym (length-map book.rows (row_at pool)) in
    left_at book.conflicts (with_gone gone a b) p
    ∙ filter_same (λ q. not (against_in (with_gone gone a b) p q)) (λ q. not (against_in gone p q) && not (is_pair a b p q)) (listed_for book.conflicts p)
    (λ q i. ap not (gone_test gone a b up inside p q) ∙ not_or (against_in gone p q) (is_pair a b p q))
    ∙ filter_twice (λ q. not (against_in gone p q)) (λ q. not (is_pair a b p q)) (listed_for book.conflicts p)
    ∙ ap (filter (λ q. not (is_pair a b p q))) (sym (left_at book.conflicts gone p))
    ∙ sym (less_list (book_left pool book gone) a b p (subst (λ n. p < n) size l))))
