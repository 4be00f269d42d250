-- The order of two parts, pieces taken off their fronts.
use Rattle.std.proofs.Common.{◌≡◌, ℕ, zero, suc, ◌+◌, ◌-◌, ◌<◌, ◌≤◌, max, Bool, true, false, cond, List, [], ◌∷◌, length, take, drop, refl, sym, ap, ◌∙◌, arith}
use Rattle.std.proofs.{lemmas.Bool.{and_from}, lemmas.List.{length-drop}}
use Rattle.std.specs.{declared.cmp.Ordering.{Ordering}, declared.cmp.Ordering.TheVariants.{Less, Equal, Greater}, Char.{is_ascii_digit}}
use Rattle.std.specs.{Cmp.Lexicographic.{slice_cmp}, List.{prefix_len, take_while, list_all}, Ordering.{ordering_then, nat_cmp, int_cmp, is_ne}}
use Rattle.deb_version.specs.Order.{number, is_plain, weights, behind_plain, behind_digits, behind, plain_piece, number_piece, pieces_order, first_difference}
use Rattle.deb_version.specs.Order.{part_order}

then_equal : (o : Ordering) → ordering_then o Equal ≡ o
then_equal Less = refl
then_equal Equal = refl
then_equal Greater = refl

then_assoc : (o p q : Ordering) → ordering_then (ordering_then o p) q ≡ ordering_then o (ordering_then p q)
then_assoc Less p q = refl
then_assoc Equal p q = refl
then_assoc Greater p q = refl

-- what is left behind the two pieces at the front
abbrev pub behind_front : List ℕ → List ℕ
behind_front part = behind_digits (behind_plain part)

-- the first comparison, and then the others
first_difference-step : (f : ℕ → Ordering) (n : ℕ) → first_difference f (suc n) ≡ ordering_then (f 0) (first_difference (λ k. f (suc k)) n)
unfolding first_difference
first_difference-step f zero = sym (then_equal (f 0))
first_difference-step f (suc n) =
    ap (λ o. ordering_then o (f (suc n))) (first_difference-step f n) ∙ then_assoc (f 0) (first_difference (λ k. f (suc k)) n) (f (suc n))

-- comparisons that find nothing to tell apart add nothing
first_difference-more : (f : ℕ → Ordering) (n m : ℕ) → ((k : ℕ) → n ≤ k → f k ≡ Equal) → first_difference f (n + m) ≡ first_difference f n
unfolding first_difference
first_difference-more f n zero h = let same : n + zero ≡ n = omega arith in ap (first_difference f) same
first_difference-more f n (suc m) h =
    let next : n + suc m ≡ suc (n + m) = omega arith in
    let level : f (n + m) ≡ Equal = h (n + m) (omega arith) in
    ap (first_difference f) next ∙ ap (ordering_then (first_difference f (n + m))) level ∙ then_equal (first_difference f (n + m)) ∙ first_difference-more f n m h

length-behind_plain : (part : List ℕ) → length (behind_plain part) ≤ length part
length-behind_plain part = omega (arith, length-drop (prefix_len is_plain part) part)

pub length-behind_front : (part : List ℕ) → length (behind_front part) ≤ length part
length-behind_front part = omega (arith, length-drop (prefix_len is_ascii_digit (behind_plain part)) (behind_plain part), length-behind_plain part)

-- the front of a part that is not empty has a byte
pub shorter-behind_front : (part : List ℕ) → 0 < length part → length (behind_front part) < length part
shorter-behind_front [] h = absurd (omega arith)
shorter-behind_front (x ∷ xs) h =
    elim (is_ascii_digit x) as (λ b. is_ascii_digit x ≡ b → length (behind_front (x ∷ xs)) < length (x ∷ xs)) [
      | true ↦ λ is.
          let none : prefix_len is_plain (x ∷ xs) ≡ 0 = rw is refl in
          let some : 0 < prefix_len is_ascii_digit (x ∷ xs) = rw is (omega arith) in
          let whole : length (behind_front (x ∷ xs)) ≡ length (behind_digits (x ∷ xs)) = ap (λ n. length (behind_digits (drop n (x ∷ xs)))) none in
          omega (arith, whole, length-drop (prefix_len is_ascii_digit (x ∷ xs)) (x ∷ xs))
      | false ↦ λ is.
          let some : 0 < prefix_len is_plain (x ∷ xs) = rw is (omega arith) in
          omega (arith, length-drop (prefix_len is_plain (x ∷ xs)) (x ∷ xs), length-drop (prefix_len is_ascii_digit (behind_plain (x ∷ xs))) (behind_plain (x ∷ xs)))
    ] refl

-- past its length a part has nothing left
behind-past : (k : ℕ) (part : List ℕ) → length part ≤ k → behind k part ≡ []
unfolding behind
behind-past zero [] h = refl
behind-past zero (x ∷ xs) h = absurd (omega arith)
behind-past (suc k) [] h = behind-past k [] (omega arith)
behind-past (suc k) (x ∷ xs) h = behind-past k (behind_front (x ∷ xs)) (let less = shorter-behind_front (x ∷ xs) (omega arith) in omega arith)

-- past the lengths of both there is nothing to tell apart
pieces_order-past : (v w : List ℕ) (k : ℕ) → length v ≤ k → length w ≤ k → pieces_order v w k ≡ Equal
unfolding pieces_order plain_piece number_piece
pieces_order-past v w k g h = rw (behind-past k v g, behind-past k w h) refl

-- the order of two parts, over any numbers that go past both
pub part_order-at : (v w : List ℕ) (n : ℕ) → length v ≤ n → length w ≤ n → part_order v w ≡ first_difference (pieces_order v w) n
unfolding part_order
part_order-at v w n g h =
    let top : ℕ = max (length v) (length w) in
    let settled : (m : ℕ) → first_difference (pieces_order v w) (top + m) ≡ first_difference (pieces_order v w) top
    = λ m. first_difference-more (pieces_order v w) top m (λ k past. pieces_order-past v w k (omega arith) (omega arith)) in
    let one : suc top ≡ top + 1 = omega arith in
    let there : n ≡ top + (n - top) = omega arith in
    ap (first_difference (pieces_order v w)) one ∙ settled 1 ∙ sym (settled (n - top)) ∙ ap (first_difference (pieces_order v w)) (sym there)

-- what the pieces at the two fronts say
abbrev pub front_order : List ℕ → List ℕ → Ordering
front_order v w = ordering_then (slice_cmp int_cmp (weights (take_while is_plain v)) (weights (take_while is_plain w))) (nat_cmp (number (take_while is_ascii_digit (behind_plain v))) (number (take_while is_ascii_digit (behind_plain w))))

pieces_order-zero : (v w : List ℕ) → pieces_order v w 0 ≡ front_order v w
unfolding pieces_order plain_piece number_piece behind
pieces_order-zero v w = refl

pieces_order-suc : (v w : List ℕ) (k : ℕ) → pieces_order v w (suc k) ≡ pieces_order (behind_front v) (behind_front w) k
unfolding pieces_order plain_piece number_piece behind
pieces_order-suc v w k = refl

-- the fronts decide, and else what is left behind them
pub part_order-step : (v w : List ℕ) → part_order v w ≡ ordering_then (front_order v w) (part_order (behind_front v) (behind_front w))
part_order-step v w =
    let n : ℕ = length v + length w in
    let all : part_order v w ≡ first_difference (pieces_order v w) (suc n) = part_order-at v w (suc n) (omega arith) (omega arith) in
    let rest : part_order (behind_front v) (behind_front w) ≡ first_difference (pieces_order (behind_front v) (behind_front w)) n
    = part_order-at (behind_front v) (behind_front w) n (omega (arith, length-behind_front v)) (omega (arith, length-behind_front w)) in
    all ∙ first_difference-step (pieces_order v w) n ∙ ap (λ o. ordering_then o (first_difference (λ k. pieces_order v w (suc k)) n)) (pieces_order-zero v w)
    ∙ ap (λ f. ordering_then (front_order v w) (first_difference f n)) (λ i k. pieces_order-suc v w k i)
    ∙ ap (ordering_then (front_order v w)) (sym rest)

-- a comparison that tells its sides apart decides
pub decided : (o p q : Ordering) → q ≡ ordering_then o p → is_ne o ≡ true → o ≡ q
decided Less p q e h = sym e
decided Equal p q e h = cc
decided Greater p q e h = sym e

pub part_order-decided : (v w : List ℕ) (o : Ordering) → o ≡ front_order v w → is_ne o ≡ true → o ≡ part_order v w
part_order-decided v w o e h = decided o (part_order (behind_front v) (behind_front w)) (part_order v w) (part_order-step v w ∙ ap (λ p. ordering_then p (part_order (behind_front v) (behind_front w))) (sym e)) h

-- and else the next one does
pub tied : (o p q : Ordering) → q ≡ ordering_then o p → is_ne o ≡ false → q ≡ p
tied Less p q e h = cc
tied Equal p q e h = e
tied Greater p q e h = cc

pub part_order-tied : (v w : List ℕ) (o : Ordering) → o ≡ front_order v w → is_ne o ≡ false → part_order v w ≡ part_order (behind_front v) (behind_front w)
part_order-tied v w o e h = tied o (part_order (behind_front v) (behind_front w)) (part_order v w) (part_order-step v w ∙ ap (λ p. ordering_then p (part_order (behind_front v) (behind_front w))) (sym e)) h

pub part_order-empty : (v w : List ℕ) → length v ≡ 0 → length w ≡ 0 → Equal ≡ part_order v w
unfolding first_difference
part_order-empty v w g h = sym (part_order-at v w 0 (omega arith) (omega arith))

-- each element of the longest front that passes does
pub take_while-all : (p : ℕ → Bool) (xs : List ℕ) → list_all p (take_while p xs) ≡ true
take_while-all p [] = refl
take_while-all p (x ∷ xs) =
    elim (p x) as (λ b. p x ≡ b → list_all p (take (cond b (1 + prefix_len p xs) 0) (x ∷ xs)) ≡ true) [
      | true ↦ λ is.
          let more : 1 + prefix_len p xs ≡ suc (prefix_len p xs) = omega arith in
          ap (λ k. list_all p (take k (x ∷ xs))) more ∙ and_from _ _ is (take_while-all p xs)
      | false ↦ λ is. refl
    ] refl

-- the longest front of digits has digits alone
pub digits_front : (digits xs : List ℕ) (n : ℕ) → digits ≡ take n xs → n ≡ prefix_len is_ascii_digit xs → list_all is_ascii_digit digits ≡ true
digits_front digits xs n e h = ap (λ (ds : List ℕ). list_all is_ascii_digit ds) (e ∙ ap (λ m. take m xs) h) ∙ take_while-all is_ascii_digit xs
