-- Thinning drops a conflict or nothing; filters that keep fewer.
use Rattle.std.proofs.Common.{◌≡◌, ℕ, zero, suc, ◌<◌, ◌≤◌, ◌+◌, ◌*◌, Bool, true, false, not, ◌&&◌, eqb, cond, List, [], ◌∷◌, ◌++◌, length, ◌⊎◌, inl, inr, refl}
use Rattle.std.proofs.Common.{sym, ◌∙◌, ap, ap₂, subst, arith, map, filter, slice_index_or, eq-eqb, zero-le, length-append}
use Rattle.std.proofs.lemmas.Bool.{and_from, and_right, both_ways, cases_Bool, cases_eq, false≢true, not_from_true, or_left}
use Rattle.listed.proofs.Lists.{filter_short, filter_le, In_append_left, In_append_right, In_cases, In_map, In_none, filter_cases, filter_from}
use Rattle.listed.specs.Lists.{In, here, there, has}
use Rattle.row_book.specs.{Numbers.{numbers}, Repository.{Repository, against}, Sound.{SoundRepository}, Flattening.{packages}}
use Rattle.row_book.specs.Thinning.{is_pair, without_pair, is_redundant, thin_pair, thin_over, all_pairs, conflicting_pairs, thin}
use Rattle.row_book.proofs.Numbers.{length_numbers, numbers_from}
use Rattle.conflict_reduce.proofs.Thinned.{less_sound, less_test, thin_is_sound_lem}
use Rattle.kernel_rounds.specs.Tails.{conflict_count}

pub filter_lt : {A : Type 0} (f g : A → Bool) (xs : List A) → ((x : A) → f x ≡ true → g x ≡ true) → (w : A) → In w xs → g w ≡ true → f w ≡ false →
    length (filter f xs) < length (filter g xs)
filter_lt f g [] h w i t e = absurd (In_none i)
filter_lt f g (x ∷ xs) h w i t e =
    elim (In_cases i) [
      | inl s ↦ first (f x) (g x) (ap f (sym s) ∙ e) (ap g (sym s) ∙ t) (filter_le f g xs h)
      | inr j ↦ later (f x) (g x) (h x) (filter_lt f g xs h w j t e)
    ]
  where
    first : (a b : Bool) → a ≡ false → b ≡ true → length (filter f xs) ≤ length (filter g xs) →
        length (cond a (x ∷ filter f xs) (filter f xs)) < length (cond b (x ∷ filter g xs) (filter g xs))
    first true b m n l = absurd (false≢true (sym m))
    first false true m n l = omega arith
    first false false m n l = absurd (false≢true n)

    later : (a b : Bool) → (a ≡ true → b ≡ true) → length (filter f xs) < length (filter g xs) →
        length (cond a (x ∷ filter f xs) (filter f xs)) < length (cond b (x ∷ filter g xs) (filter g xs))
    later true true m l = omega arith
    later true false m l = absurd (false≢true (m refl))
    later false true m l = omega arith
    later false false m l = l

-- a conflict that is gone does not come back
pub over_against : (ws : List (ℕ × ℕ)) (R : Repository) → SoundRepository R → (a b : ℕ) → against R a b ≡ false → against (thin_over R ws) a b ≡ false
over_against [] R s a b e = e
over_against (w ∷ ws) R s a b e =
    pick (is_redundant R w.0 w.1)
    (over_against ws (without_pair R w.0 w.1) (less_sound R w.0 w.1 s) a b
    (less_test R w.0 w.1 s a b ∙ ap (λ t. t && not (is_pair w.0 w.1 a b)) e))
    (over_against ws R s a b e)
  where
    pick : (t : Bool) → against (thin_over (without_pair R w.0 w.1) ws) a b ≡ false → against (thin_over R ws) a b ≡ false →
        against (thin_over (cond t (without_pair R w.0 w.1) R) ws) a b ≡ false
    pick true f g = f
    pick false f g = g

pub pair_gone : (R : Repository) → SoundRepository R → (a b : ℕ) → against (without_pair R a b) a b ≡ false
pair_gone R s a b =
    less_test R a b s a b
    ∙ and_right (against R a b) (not (is_pair a b a b))
    (not_from_true (is_pair a b a b) (or_left (eqb a a && eqb b b) (eqb a b && eqb b a) (and_from (eqb a a) (eqb b b) (eq-eqb a a refl) (eq-eqb b b refl))))

over_find : (ws : List (ℕ × ℕ)) (R : Repository) → SoundRepository R → ((w : ℕ × ℕ) → In w ws → against R w.0 w.1 ≡ true) →
    (thin_over R ws ≡ R) ⊎ ((w : ℕ × ℕ) × In w ws × (against (thin_over R ws) w.0 w.1 ≡ false))
over_find [] R s f = inl refl
over_find (v ∷ ws) R s f = pick (is_redundant R v.0 v.1) refl (over_find ws R s (λ w i. f w (there i)))
  where
    pick : (t : Bool) → is_redundant R v.0 v.1 ≡ t → ((thin_over R ws ≡ R) ⊎ ((w : ℕ × ℕ) × In w ws × (against (thin_over R ws) w.0 w.1 ≡ false))) →
        (thin_over R (v ∷ ws) ≡ R) ⊎ ((w : ℕ × ℕ) × In w (v ∷ ws) × (against (thin_over R (v ∷ ws)) w.0 w.1 ≡ false))
    pick true t r =
        inr (
          v,
          here,
          ap (λ b. against (thin_over (cond b (without_pair R v.0 v.1) R) ws) v.0 v.1) t
              ∙ over_against ws (without_pair R v.0 v.1) (less_sound R v.0 v.1 s) v.0 v.1 (pair_gone R s v.0 v.1),
        )
    pick false t r =
        let same : thin_pair R v.0 v.1 ≡ R = ap (λ b. cond b (without_pair R v.0 v.1) R) t in
        elim r [
          | inl e ↦ inl (ap (λ F. thin_over F ws) same ∙ e)
          | inr w ↦ inr (w.0, there w.1, ap (λ F. against (thin_over F ws) w.0.0 w.0.1) same ∙ w.2)
        ]

over_clauses : (R : Repository) → SoundRepository R → (thin_over R (conflicting_pairs R)).clauses ≡ R.clauses
unfolding thin
over_clauses R s = (thin_is_sound_lem R s).clauses

pub thin_or : (R : Repository) → SoundRepository R → (thin R ≡ R) ⊎ (conflict_count (thin R) < conflict_count R)
unfolding thin conflict_count
thin_or R s =
    let all : List (ℕ × ℕ) = all_pairs (packages R) in
    let T : Repository = thin_over R (conflicting_pairs R) in
    elim (over_find (conflicting_pairs R) R s (λ w i. (filter_cases (λ w. against R w.0 w.1) all w i).1)) [
      | inl e ↦ inl e
      | inr w ↦
          let v : In w.0 all × (against R w.0.0 w.0.1 ≡ true) = filter_cases (λ w. against R w.0 w.1) all w.0 w.1 in
          let less : length (filter (λ w. against T w.0 w.1) all) < length (filter (λ w. against R w.0 w.1) all) =
          filter_lt (λ w. against T w.0 w.1) (λ w. against R w.0 w.1) all
          (λ x t. elim (cases_Bool (against R x.0 x.1)) [ inl y ↦ y | inr f ↦ absurd (both_ways (against T x.0 x.1) (over_against (conflicting_pairs R) R s x.0 x.1 f) t) ])
          w.0 v.0 v.1 w.2 in
          inr (subst (λ n. length (filter (λ w. against T w.0 w.1) (all_pairs (numbers n 0))) < length (filter (λ w. against R w.0 w.1) all))
          (sym (ap (λ c. length c) (over_clauses R s))) less)
    ]

pub count_same : (R F : Repository) → length R.clauses ≡ length F.clauses → R.conflicts ≡ F.conflicts → conflict_count R ≡ conflict_count F
unfolding conflict_count
count_same R F e f =
    let count : ℕ → List (List ℕ) → ℕ = λ n table. length (filter (λ w. has (slice_index_or table w.0 []) w.1) (all_pairs (numbers n 0))) in
    ap₂ count e f

-- there are no more pairs than the square of the size
pairs_few : (n k : ℕ) → length (all_pairs (numbers n k)) ≤ n * n
unfolding numbers
pairs_few zero k = zero-le
pairs_few (suc n) k =
    let front : List (ℕ × ℕ) = map (λ b. (k, b)) (numbers n (suc k)) in
    let h : length (all_pairs (numbers n (suc k))) ≤ n * n = pairs_few n (suc k) in
    let e : length (front ++ all_pairs (numbers n (suc k))) ≡ length front + length (all_pairs (numbers n (suc k))) = length-append front (all_pairs (numbers n (suc k))) in
    let pair : ℕ → ℕ × ℕ = λ b. (k, b) in
    let m : length front ≡ n = length_numbers pair n (suc k) in
    omega (arith, h, e, m)

pub count_few : (R : Repository) → conflict_count R ≤ length R.clauses * length R.clauses
unfolding conflict_count
count_few R =
    let a : length (conflicting_pairs R) ≤ length (all_pairs (packages R)) = filter_short (λ w. against R w.0 w.1) (all_pairs (packages R)) in
    let b : length (all_pairs (packages R)) ≤ length R.clauses * length R.clauses = pairs_few (length R.clauses) 0 in
    omega (arith, a, b)

-- where thinning changes nothing, no pair is redundant
over_fixed : (ws : List (ℕ × ℕ)) (R : Repository) → SoundRepository R → ((w : ℕ × ℕ) → In w ws → against R w.0 w.1 ≡ true) → ((a b : ℕ) → against (thin_over R ws) a b ≡ against R a b) →
    (w : ℕ × ℕ) → In w ws → is_redundant R w.0 w.1 ≡ false
over_fixed [] R s f e w i = absurd (In_none i)
over_fixed (v ∷ ws) R s f e w i = pick (is_redundant R v.0 v.1) refl (λ g. over_fixed ws R s (λ u j. f u (there j)) g w)
  where
    pick : (t : Bool) → is_redundant R v.0 v.1 ≡ t → (((a b : ℕ) → against (thin_over R ws) a b ≡ against R a b) → In w ws → is_redundant R w.0 w.1 ≡ false) →
        is_redundant R w.0 w.1 ≡ false
    pick true t g =
        let gone : against (thin_over R (v ∷ ws)) v.0 v.1 ≡ false =
        ap (λ b. against (thin_over (cond b (without_pair R v.0 v.1) R) ws) v.0 v.1) t
        ∙ over_against ws (without_pair R v.0 v.1) (less_sound R v.0 v.1 s) v.0 v.1 (pair_gone R s v.0 v.1) in
        absurd (both_ways (against R v.0 v.1) (sym (e v.0 v.1) ∙ gone) (f v here))
    pick false t g =
        let same : thin_pair R v.0 v.1 ≡ R = ap (λ b. cond b (without_pair R v.0 v.1) R) t in
        elim (In_cases i) [
          | inl s ↦ ap (λ u. is_redundant R u.0 u.1) s ∙ t
          | inr j ↦ g (subst (λ F. (a b : ℕ) → against (thin_over F ws) a b ≡ against R a b) same e) j
        ]

pub pairs_has : (n k a b : ℕ) → k ≤ a → a < b → b < k + n → In (a, b) (all_pairs (numbers n k))
unfolding numbers
pairs_has zero k a b l m u = absurd (omega arith)
pairs_has (suc n) k a b l m u =
    elim (cases_eq a k) [
      | inl e ↦ In_append_left (map (λ c. (k, c)) (numbers n (suc k))) (all_pairs (numbers n (suc k))) (a, b)
          (subst (λ z. In {A = ℕ × ℕ} (z, b) (map (λ c. (k, c)) (numbers n (suc k)))) (sym e) (In_map (λ c. (k, c)) (numbers n (suc k)) b (numbers_from n (suc k) b (omega arith) (omega arith))))
      | inr ne ↦ In_append_right (map (λ c. (k, c)) (numbers n (suc k))) (all_pairs (numbers n (suc k))) (a, b) (pairs_has n (suc k) a b (omega (arith, ne)) m (omega arith))
    ]

pub thin_needed : (K : Repository) → SoundRepository K → thin K ≡ K → (a b : ℕ) → a < b → b < length K.clauses → against K a b ≡ true → is_redundant K a b ≡ false
unfolding thin
thin_needed K s e a b l m t =
    over_fixed (conflicting_pairs K) K s
    (λ w i. (filter_cases (λ w. against K w.0 w.1) (all_pairs (packages K)) w i).1)
    (λ x y. ap (λ R. against R x y) e) (a, b)
    (filter_from (λ w. against K w.0 w.1) (all_pairs (packages K)) (a, b) (pairs_has (length K.clauses) 0 a b zero-le l (omega arith)) t)
