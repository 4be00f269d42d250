-- Numbers in a row, and the families of all sets of them.
use Rattle.std.proofs.Common.{◌≡◌, ℕ, zero, suc, ◌<◌, ◌≤◌, ◌+◌, List, [], ◌∷◌, ◌++◌, length, inl, inr, refl, sym, ◌∙◌, ap, ap₂, subst, arith, map, zero-le}
use Rattle.std.proofs.{Common.{slice_index_or}, lemmas.Bool.{cases_eq}, lemmas.List.{map-append}}
use Rattle.std.specs.List.{range_with_len}
use Rattle.listed.specs.Lists.{In, here, there, Ascending}
use Rattle.clause_pool.specs.Lists.{Before, InOrder}
use Rattle.row_book.specs.Numbers.{numbers, nonempty_from, subsets}
use Rattle.listed.proofs.Lists.{In_cases, In_none, In_append_cases, In_append_left, In_append_right, In_map, In_map_cases}
use Rattle.clause_pool.proofs.Order.{order_append}

order_map : (k : ℕ) (cs : List (List ℕ)) → InOrder cs → InOrder (map (λ s. k ∷ s) cs)
order_map k [] a = tt
order_map k (c ∷ cs) a = (
  (λ d i. let w : (s : List ℕ) × In s cs × (d ≡ (k ∷ s)) = In_map_cases (λ s. k ∷ s) cs d i in
      subst (λ z. Before (k ∷ c) z) (sym w.2) (inr (refl, a.0 w.0 w.1))),
  order_map k cs a.1,
)

begins : (n k : ℕ) (T : List ℕ) → In T (nonempty_from n k) → (t : ℕ) × (ts : List ℕ) × (T ≡ (t ∷ ts)) × (k ≤ t)
unfolding nonempty_from
begins zero k T i = absurd (In_none i)
begins (suc n) k T i =
    elim (In_append_cases (map (λ s. k ∷ s) ([] ∷ nonempty_from n (suc k))) (nonempty_from n (suc k)) T i) [
      | inl l ↦ let w : (s : List ℕ) × In s ([] ∷ nonempty_from n (suc k)) × (T ≡ (k ∷ s)) = In_map_cases (λ s. k ∷ s) ([] ∷ nonempty_from n (suc k)) T l in
          (k, w.0, w.2, omega arith)
      | inr r ↦ let w : (t : ℕ) × (ts : List ℕ) × (T ≡ (t ∷ ts)) × (suc k ≤ t) = begins n (suc k) T r in (w.0, w.1, w.2, omega arith)
    ]

nil_first : (n k : ℕ) (T : List ℕ) → In T (nonempty_from n k) → Before [] T
nil_first n k T i =
    let w : (t : ℕ) × (ts : List ℕ) × (T ≡ (t ∷ ts)) × (k ≤ t) = begins n k T i in subst (λ z. Before [] z) (sym w.2) tt

nonempty_order : (n k : ℕ) → InOrder (nonempty_from n k)
unfolding nonempty_from
nonempty_order zero k = tt
nonempty_order (suc n) k =
    let rest : InOrder (nonempty_from n (suc k)) = nonempty_order n (suc k) in
    order_append (map (λ s. k ∷ s) ([] ∷ nonempty_from n (suc k))) (nonempty_from n (suc k))
    (order_map k ([] ∷ nonempty_from n (suc k)) (nil_first n (suc k), rest)) rest
    (λ x y i j.
    let u : (s : List ℕ) × In s ([] ∷ nonempty_from n (suc k)) × (x ≡ (k ∷ s)) = In_map_cases (λ s. k ∷ s) ([] ∷ nonempty_from n (suc k)) x i in
    let v : (t : ℕ) × (ts : List ℕ) × (y ≡ (t ∷ ts)) × (suc k ≤ t) = begins n (suc k) y j in
    subst (λ z. Before z y) (sym u.2) (subst (λ z. Before (k ∷ u.0) z) (sym v.2) (inl (let l : suc k ≤ v.0 = v.3 in omega arith))))

pub subsets_order : (n : ℕ) → InOrder (subsets n)
unfolding subsets
subsets_order n = (nil_first n 0, nonempty_order n 0)

-- numbers
pub numbers_from : (n k m : ℕ) → k ≤ m → m < k + n → In m (numbers n k)
unfolding numbers
numbers_from zero k m l u = absurd (omega arith)
numbers_from (suc n) k m l u =
    elim (cases_eq m k) [ inl e ↦ subst (λ z. In m (z ∷ numbers n (suc k))) e here | inr ne ↦ there (numbers_from n (suc k) m (omega (arith, ne)) (omega arith)) ]

pub numbers_parts : (n k m : ℕ) → In m (numbers n k) → (k ≤ m) × (m < k + n)
unfolding numbers
numbers_parts zero k m i = absurd (In_none i)
numbers_parts (suc n) k m i =
    elim (In_cases i) [
      | inl e ↦ (omega (arith, e), omega (arith, e))
      | inr j ↦ let w : (suc k ≤ m) × (m < suc k + n) = numbers_parts n (suc k) m j in (omega arith, omega arith)
    ]

pub numbers_ascending : (n k : ℕ) → Ascending (numbers n k)
unfolding numbers
numbers_ascending zero k = tt
numbers_ascending (suc n) k = ((λ m i. let w : (suc k ≤ m) × (m < suc k + n) = numbers_parts n (suc k) m i in omega arith), numbers_ascending n (suc k))

pub length_numbers : {A : Type 0} (f : ℕ → A) (n k : ℕ) → length (map f (numbers n k)) ≡ n
unfolding numbers
length_numbers f zero k = refl
length_numbers f (suc n) k = ap suc (length_numbers f n (suc k))

pub at_numbers : {A : Type 0} (f : ℕ → A) (d : A) (n k i : ℕ) → i < n → slice_index_or (map f (numbers n k)) i d ≡ f (k + i)
unfolding numbers
at_numbers f d zero k i l = absurd (omega arith)
at_numbers f d (suc n) k zero l = ap f (omega arith)
at_numbers f d (suc n) k (suc i) l = at_numbers f d n (suc k) i (omega arith) ∙ ap f (omega arith)

pub map_same : {A : Type 0} (f g : ℕ → A) (ks : List ℕ) → ((k : ℕ) → In k ks → f k ≡ g k) → map f ks ≡ map g ks
map_same f g [] e = refl
map_same f g (k ∷ ks) e = ap₂ (λ x xs. x ∷ xs) (e k here) (map_same f g ks (λ m i. e m (there i)))

-- the sets of numbers below n
nonempty_parts : (n k : ℕ) (T : List ℕ) → In T (nonempty_from n k) → Ascending T × ((m : ℕ) → In m T → (k ≤ m) × (m < k + n))
unfolding nonempty_from
nonempty_parts zero k T i = absurd (In_none i)
nonempty_parts (suc n) k T i =
    elim (In_append_cases (map (λ s. k ∷ s) ([] ∷ nonempty_from n (suc k))) (nonempty_from n (suc k)) T i) [
      | inl l ↦
          let w : (s : List ℕ) × In s ([] ∷ nonempty_from n (suc k)) × (T ≡ (k ∷ s)) = In_map_cases (λ s. k ∷ s) ([] ∷ nonempty_from n (suc k)) T l in
          let rest : Ascending w.0 × ((m : ℕ) → In m w.0 → (suc k ≤ m) × (m < suc k + n)) =
          elim (In_cases w.1) [
            | inl e ↦ subst (λ s. Ascending s × ((m : ℕ) → In m s → (suc k ≤ m) × (m < suc k + n))) (sym e) (tt, λ m j. absurd (In_none j))
            | inr j ↦ nonempty_parts n (suc k) w.0 j
          ] in
          subst (λ t. Ascending t × ((m : ℕ) → In m t → (k ≤ m) × (m < k + suc n))) (sym w.2) (
            ((λ y j. let b : (suc k ≤ y) × (y < suc k + n) = rest.1 y j in omega arith), rest.0),
            λ m j. elim (In_cases j) [
              | inl e ↦ (omega (arith, e), omega (arith, e))
              | inr l ↦ let b : (suc k ≤ m) × (m < suc k + n) = rest.1 m l in (omega arith, omega arith)
            ],
          )
      | inr r ↦
          let w : Ascending T × ((m : ℕ) → In m T → (suc k ≤ m) × (m < suc k + n)) = nonempty_parts n (suc k) T r in
          (w.0, λ m j. let b : (suc k ≤ m) × (m < suc k + n) = w.1 m j in (omega arith, omega arith))
    ]

-- each ascending list of them is there
nonempty_has : (n k : ℕ) (T : List ℕ) → Ascending T → ((m : ℕ) → In m T → (k ≤ m) × (m < k + n)) → In T ([] ∷ nonempty_from n k)
unfolding nonempty_from
nonempty_has n k [] a f = here
nonempty_has zero k (t ∷ ts) a f = let b : (k ≤ t) × (t < k + 0) = f t here in absurd (omega arith)
nonempty_has (suc n) k (t ∷ ts) a f =
    elim (cases_eq t k) [
      | inl e ↦
          let rest : In ts ([] ∷ nonempty_from n (suc k)) = nonempty_has n (suc k) ts a.1
          (λ m j. let l : t < m = a.0 m j in let b : (k ≤ m) × (m < k + suc n) = f m (there j) in (omega (arith, e), omega arith)) in
          there (In_append_left (map (λ s. k ∷ s) ([] ∷ nonempty_from n (suc k))) (nonempty_from n (suc k)) (t ∷ ts)
          (subst (λ x. In (x ∷ ts) (map (λ s. k ∷ s) ([] ∷ nonempty_from n (suc k)))) (sym e) (In_map (λ s. k ∷ s) ([] ∷ nonempty_from n (suc k)) ts rest)))
      | inr ne ↦
          let first : (k ≤ t) × (t < k + suc n) = f t here in
          let whole : In (t ∷ ts) ([] ∷ nonempty_from n (suc k)) = nonempty_has n (suc k) (t ∷ ts) a
          (λ m j. let b : (k ≤ m) × (m < k + suc n) = f m j in (
            elim (In_cases j) [ inl e ↦ omega (arith, e, ne) | inr l ↦ let u : t < m = a.0 m l in omega arith ],
            omega arith,
          )) in
          elim (In_cases whole) [
            | inl e ↦ absurd (In_none (subst (λ s. In t s) e here))
            | inr j ↦ there (In_append_right (map (λ s. k ∷ s) ([] ∷ nonempty_from n (suc k))) (nonempty_from n (suc k)) (t ∷ ts) j)
          ]
    ]

pub subsets_parts : (n : ℕ) (T : List ℕ) → In T (subsets n) → Ascending T × ((m : ℕ) → In m T → m < n)
unfolding subsets
subsets_parts n T i =
    elim (In_cases i) [
      | inl e ↦ subst (λ s. Ascending s × ((m : ℕ) → In m s → m < n)) (sym e) (tt, λ m j. absurd (In_none j))
      | inr j ↦ let w : Ascending T × ((m : ℕ) → In m T → (0 ≤ m) × (m < 0 + n)) = nonempty_parts n 0 T j in
          (w.0, λ m l. let b : (0 ≤ m) × (m < 0 + n) = w.1 m l in omega arith)
    ]

pub subsets_has : (n : ℕ) (T : List ℕ) → Ascending T → ((m : ℕ) → In m T → m < n) → In T (subsets n)
unfolding subsets
subsets_has n T a f = nonempty_has n 0 T a (λ m i. (zero-le, let l : m < n = f m i in omega arith))

-- the first numbers, one more of them, and lists by them
pub numbers_ranged : (n k : ℕ) → range_with_len k n ≡ numbers n k
unfolding numbers
numbers_ranged zero k = refl
numbers_ranged (suc n) k = ap (λ ns. k ∷ ns) (ap (λ s. range_with_len s n) (let e : k + 1 ≡ suc k = omega arith in e) ∙ numbers_ranged n (suc k))

pub numbers_end : (n k : ℕ) → numbers (suc n) k ≡ numbers n k ++ (k + n) ∷ []
unfolding numbers
numbers_end zero k = ap (λ x. x ∷ []) (omega arith)
numbers_end (suc n) k = ap (λ xs. k ∷ xs) (numbers_end n (suc k) ∙ ap (λ x. numbers n (suc k) ++ x ∷ []) (omega arith))

pub numbers_more : (n : ℕ) → numbers (n + 1) 0 ≡ numbers n 0 ++ n ∷ []
numbers_more n = ap (λ m. numbers m 0) (omega arith) ∙ numbers_end n 0 ∙ ap (λ x. numbers n 0 ++ x ∷ []) (omega arith)

pub numbers_count : (n s : ℕ) → length (numbers n s) ≡ n
unfolding numbers
numbers_count zero s = refl
numbers_count (suc n) s = ap suc (numbers_count n (suc s))

pub lists_more : (f : ℕ → List ℕ) (n : ℕ) (old new : List (List ℕ)) (list : List ℕ) → old ≡ map f (numbers n 0) → list ≡ f n → new ≡ old ++ list ∷ [] → new ≡ map f (numbers (n + 1) 0)
lists_more f n old new list e h g = g ∙ ap₂ (λ xs x. xs ++ x ∷ []) e h ∙ sym (ap (map f) (numbers_more n) ∙ map-append f (numbers n 0) (n ∷ []))
