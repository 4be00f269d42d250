-- What the part of some packages has of one of them.
use Rattle.std.proofs.Common.{◌≡◌, ℕ, zero, suc, ◌<◌, Bool, true, false, cond, List, [], ◌∷◌, length, map, filter, inl, inr, refl, sym, ◌∙◌, ap, subst, arith}
use Rattle.std.proofs.{lemmas.Bool.{false≢true}, lemmas.List.{get_or-map, length-map}, lemmas.Simd.{map-map}}
use Rattle.std.specs.List.{items_where_true}
use Rattle.clause_pool.specs.{Clauses.{in_row_order}, Lists.{Before, InOrder}}
use Rattle.clause_pool.proofs.Order.{order_same, ordered_has, ordered_order, ordered_parts}
use Rattle.listed.specs.Lists.{In, here, there}
use Rattle.listed.proofs.Lists.{In_has, In_map, In_map_cases, map_alike, map_own}
use Rattle.row_book.specs.{Flags.{flag}, Parts.{chosen_in, part, place_in, row_in}, Repository.{Repository, clauses_of, conflicts_of}, Sets.{NumSet}}
use Rattle.row_book.specs.Sound.{SoundRepository}
use Rattle.row_book.proofs.{PartSound.{made_at, made_count}, Placed.{count_in, place_rises}, Repositories.{between, ranged, repository_same, table_same}}

-- clauses whose numbers are told in two steps
pub clauses_through : (f g h : ℕ → ℕ) (cs : List (List ℕ)) → ((c : List ℕ) → In c cs → (n : ℕ) → In n c → f (g n) ≡ h n) → map (map f) (map (map g) cs) ≡ map (map h) cs
clauses_through f g h cs e =
    map-map (map f) (map g) cs
    ∙ map_alike (λ c. map f (map g c)) (map h) cs (λ c i. map-map f g c ∙ map_alike (λ n. f (g n)) h c (λ n j. e c i n j))

-- a family in order is that of its clauses
pub ordered_already : (cs : List (List ℕ)) → InOrder cs → cs ≡ in_row_order cs
ordered_already cs order = order_same cs (in_row_order cs) order (ordered_order cs) (λ c i. ordered_has cs c i) (λ c i. ordered_parts cs c i)

-- the order of clauses is kept where the numbers of their members rise
module _ (U : NumSet) (to : ℕ → ℕ) (rising : (m n : ℕ) → U m ≡ true → U n ≡ true → m < n → to m < to n) where
  before_there : (S T : List ℕ) → ((n : ℕ) → In n S → U n ≡ true) → ((n : ℕ) → In n T → U n ≡ true) → Before S T → Before (map to S) (map to T)
  before_there [] [] f g b = b
  before_there [] (y ∷ ys) f g b = tt
  before_there (x ∷ xs) [] f g b = b
  before_there (x ∷ xs) (y ∷ ys) f g (inl l) = inl (rising x y (f x here) (g y here) l)
  before_there (x ∷ xs) (y ∷ ys) f g (inr b) = inr (ap to b.0, before_there xs ys (λ n i. f n (there i)) (λ n i. g n (there i)) b.1)

  pub order_there : (cs : List (List ℕ)) → ((c : List ℕ) → In c cs → (n : ℕ) → In n c → U n ≡ true) → InOrder cs → InOrder (map (map to) cs)
  order_there [] f o = tt
  order_there (c ∷ cs) f o = (
    (λ d i. let w : (e : List ℕ) × In e cs × (d ≡ map to e) = In_map_cases (map to) cs d i in
        subst (λ z. Before (map to c) z) (sym w.2) (before_there c w.0 (f c here) (f w.0 (there w.1)) (o.0 w.0 w.1))),
    order_there cs (λ d i. f d (there i)) o.1,
  )

  -- so rows keep theirs
  pub row_moved : (cs : List (List ℕ)) → ((c : List ℕ) → In c cs → (n : ℕ) → In n c → U n ≡ true) → map (map to) (in_row_order cs) ≡ in_row_order (map (map to) cs)
  row_moved cs up =
      order_same (map (map to) (in_row_order cs)) (in_row_order (map (map to) cs))
      (order_there (in_row_order cs) (λ c i. up c (ordered_parts cs c i)) (ordered_order cs))
      (ordered_order (map (map to) cs))
      (λ c i. let w : (d : List ℕ) × In d (in_row_order cs) × (c ≡ map to d) = In_map_cases (map to) (in_row_order cs) c i in
      ordered_has (map (map to) cs) c (subst (λ z. In z (map (map to) cs)) (sym w.2) (In_map (map to) cs w.0 (ordered_parts cs w.0 w.1))))
      (λ c i. let w : (d : List ℕ) × In d cs × (c ≡ map to d) = In_map_cases (map to) cs c (ordered_parts (map (map to) cs) c i) in
      subst (λ z. In z (map (map to) (in_row_order cs))) (sym w.2) (In_map (map to) (in_row_order cs) w.0 (ordered_has cs w.0 w.1)))

-- where all are chosen, all are left
pub chosen_all : (flags : List Bool) (ns : List ℕ) → ((n : ℕ) → In n ns → flag flags n ≡ true) → chosen_in flags ns ≡ map (place_in flags) ns
chosen_all flags [] up = refl
chosen_all flags (n ∷ ns) up =
    ap (λ b. map (place_in flags) (cond b (n ∷ filter (flag flags) ns) (filter (flag flags) ns))) (up n here) ∙ ap (λ more. place_in flags n ∷ more) (chosen_all flags ns (λ m i. up m (there i)))

pub row_all : (flags : List Bool) (cs : List (List ℕ)) → ((c : List ℕ) → In c cs → (n : ℕ) → In n c → flag flags n ≡ true) → InOrder cs → row_in flags cs ≡ map (map (place_in flags)) cs
row_all flags cs up order =
    ap in_row_order (map_alike (chosen_in flags) (map (place_in flags)) cs (λ c i. chosen_all flags c (up c i)))
    ∙ sym (ordered_already (map (map (place_in flags)) cs) (order_there (flag flags) (place_in flags) (λ m n u v l. place_rises flags m n u l) cs up order))

-- and they are in order already
pub row_whole : (flags : List Bool) (cs : List (List ℕ)) → ((c : List ℕ) → In c cs → (n : ℕ) → In n c → flag flags n ≡ true) → InOrder cs
    → row_in flags cs ≡ map (chosen_in flags) cs
row_whole flags cs up order = row_all flags cs up order ∙ sym (map_alike (chosen_in flags) (map (place_in flags)) cs (λ c i. chosen_all flags c (up c i)))

-- what the part of chosen packages has of one of them
module _ (R : Repository) (s : SoundRepository R) (flags : List Bool) (size : length flags ≡ length R.clauses) where
  pub part_count : length (part flags R).clauses ≡ count_in flags
  unfolding part
  part_count = made_count (row_in flags) flags R.clauses size

  pub part_conflicts : (x : ℕ) → flag flags x ≡ true → conflicts_of (part flags R) (place_in flags x) ≡ chosen_in flags (conflicts_of R x)
  unfolding part
  part_conflicts x up = made_at (chosen_in flags) flags R.conflicts [] [] (size ∙ sym s.count) x up

  pub part_row : (x : ℕ) → flag flags x ≡ true → clauses_of (part flags R) (place_in flags x) ≡ row_in flags (clauses_of R x)
  unfolding part
  part_row x up = made_at (row_in flags) flags R.clauses [] [] size x up

  -- where all that its clauses name are chosen, these are the same
  pub part_clauses : (x : ℕ) → flag flags x ≡ true → ((c : List ℕ) → In c (clauses_of R x) → (n : ℕ) → In n c → flag flags n ≡ true) → InOrder (clauses_of R x) →
      clauses_of (part flags R) (place_in flags x) ≡ map (map (place_in flags)) (clauses_of R x)
  part_clauses x up all order = part_row x up ∙ row_all flags (clauses_of R x) all order

-- the part of all packages is the repository itself
pub place_all : (flags : List Bool) → ((k : ℕ) → k < length flags → flag flags k ≡ true) → (k : ℕ) → k < length flags → place_in flags k ≡ k
place_all [] up k l = absurd (omega arith)
place_all (false ∷ flags) up k l = absurd (false≢true (up 0 (omega arith)))
place_all (true ∷ flags) up zero l = refl
place_all (true ∷ flags) up (suc k) l = ap suc (place_all flags (λ j m. up (suc j) (omega arith)) k (omega arith))

items_all : {A : Type 0} (flags : List Bool) (xs : List A) → ((k : ℕ) → k < length flags → flag flags k ≡ true) → length flags ≡ length xs → items_where_true flags xs ≡ xs
items_all [] [] up e = refl
items_all [] (x ∷ xs) up e = absurd (omega (arith, e))
items_all (b ∷ flags) [] up e = absurd (omega (arith, e))
items_all (false ∷ flags) (x ∷ xs) up e = absurd (false≢true (up 0 (omega arith)))
items_all (true ∷ flags) (x ∷ xs) up e = ap (λ ys. x ∷ ys) (items_all flags xs (λ j m. up (suc j) (omega arith)) (omega (arith, e)))

module _ (R : Repository) (s : SoundRepository R) (order : (p : ℕ) → p < length R.clauses → InOrder (clauses_of R p)) (flags : List Bool) (size : length flags ≡ length R.clauses)
    (up : (k : ℕ) → k < length flags → flag flags k ≡ true) where
  up_in : (k : ℕ) → k < length R.clauses → flag flags k ≡ true
  up_in k l = up k (omega (arith, size, l))

  place_own : (k : ℕ) → k < length R.clauses → place_in flags k ≡ k
  place_own k l = place_all flags up k (omega (arith, size, l))

  numbers_own : (ns : List ℕ) → ((n : ℕ) → In n ns → n < length R.clauses) → chosen_in flags ns ≡ ns
  numbers_own ns l = chosen_all flags ns (λ n i. up_in n (l n i)) ∙ map_own (place_in flags) ns (λ n i. place_own n (l n i))

  row_own : (p : ℕ) → p < length R.clauses → row_in flags (clauses_of R p) ≡ clauses_of R p
  row_own p l =
      row_whole flags (clauses_of R p) (λ c i n j. up_in n (ranged R s p c i n j)) (order p l)
      ∙ map_own (chosen_in flags) (clauses_of R p) (λ c i. numbers_own c (ranged R s p c i))

  list_own : (p : ℕ) → chosen_in flags (conflicts_of R p) ≡ conflicts_of R p
  list_own p = numbers_own (conflicts_of R p) (λ n i. (between R s p n (In_has i)).1)

  pub part_of_all : part flags R ≡ R
  unfolding part
  part_of_all =
      repository_same (part flags R) R
      (ap (map (row_in flags)) (items_all flags R.clauses up size)
      ∙ table_same (map (row_in flags) R.clauses) R.clauses (length-map R.clauses (row_in flags)) (λ i l.
      let m : i < length R.clauses = subst (λ z. i < z) (length-map R.clauses (row_in flags)) l in
      get_or-map (row_in flags) R.clauses i [] [] m ∙ row_own i m))
      (ap (map (chosen_in flags)) (items_all flags R.conflicts up (size ∙ sym s.count))
      ∙ table_same (map (chosen_in flags) R.conflicts) R.conflicts (length-map R.conflicts (chosen_in flags)) (λ i l.
      let m : i < length R.conflicts = subst (λ z. i < z) (length-map R.conflicts (chosen_in flags)) l in
      get_or-map (chosen_in flags) R.conflicts i [] [] m ∙ list_own i))
