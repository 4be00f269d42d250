-- Sides that conflict as a whole.
use Rattle.std.proofs.Common.{◌≡◌, ℕ, Bool, true, false, ◌&&◌, ◌||◌, List, [], ◌∷◌, inl, inr, refl, sym, ◌∙◌, ap, ap₂, subst, filter}
use Rattle.std.specs.List.{list_all, list_any}
use Rattle.listed.proofs.{Bools.{same_bool}, Lists.{In_cases, In_has, all_at, all_from, any_cases, filter_cases, filter_from, has_In}}
use Rattle.listed.proofs.Orders.{ascending_filter}
use Rattle.row_book.specs.{Sets.{NumSet, Hit, Is}, Book.{listed_for}, Repository.{Repository, Healthy}}
use Rattle.row_book.specs.Facing.{sides, against_in, all_against, common_to, face}
use Rattle.listed.specs.Lists.{In, here, there, has, Ascending, is_inside}

pub face_parts : (f : ℕ → ℕ → Bool) (ds es : List (List ℕ)) → face f ds es ≡ true →
    (d : List ℕ) × (e : List ℕ) × In d ds × In e es × ((m n : ℕ) → In m d → In n e → f m n ≡ true)
face_parts f ds es h =
    let u : (d : List ℕ) × In d ds × (list_any (all_against f d) es ≡ true) = any_cases (λ d. list_any (all_against f d) es) ds h in
    let v : (e : List ℕ) × In e es × (all_against f u.0 e ≡ true) = any_cases (all_against f u.0) es u.2 in
    (u.0, v.0, u.1, v.1, λ m n i j. all_at (f m) v.0 (all_at (λ k. list_all (f k) v.0) u.0 v.2 m i) n j)

-- a healthy set with the package hits each of its sides
pub side_hit : (R : Repository) (I : NumSet) (p : ℕ) (d : List ℕ) → Healthy R I → Is I p → In d (sides R p) → Hit (Is I) d
side_hit R I p d h i j =
    elim (In_cases j) [
      | inl e ↦ subst (λ k. Hit (Is I) k) (sym e) (record { by = p; inside = here; alive = i })
      | inr k ↦ h.abundance p i d k
    ]

-- lists that conflict as a whole, member by member
pub all_against_at : (f : ℕ → ℕ → Bool) (d e : List ℕ) → all_against f d e ≡ true → (m n : ℕ) → In m d → In n e → f m n ≡ true
all_against_at f d e h m n i j = all_at (f m) e (all_at (λ k. list_all (f k) e) d h m i) n j

pub all_against_from : (f : ℕ → ℕ → Bool) (d e : List ℕ) → ((m n : ℕ) → In m d → In n e → f m n ≡ true) → all_against f d e ≡ true
all_against_from f d e g = all_from (λ m. list_all (f m) e) d (λ m i. all_from (f m) e (λ n j. g m n i j))

-- a list conflicts as a whole with what lies within the conflicts that its members have in common
pub common_within : (table : List (List ℕ)) (m : ℕ) (ms e : List ℕ) → all_against (against_in table) (m ∷ ms) e ≡ is_inside e (common_to table m ms)
common_within table m ms e =
    same_bool (all_against (against_in table) (m ∷ ms) e) (is_inside e (common_to table m ms))
    (λ h. all_from (has (common_to table m ms)) e (λ n i.
    In_has (filter_from (λ k. list_all (λ o. against_in table o k) ms) (listed_for table m) n
    (has_In (listed_for table m) n (all_against_at (against_in table) (m ∷ ms) e h m n here i))
    (all_from (λ o. against_in table o n) ms (λ o j. all_against_at (against_in table) (m ∷ ms) e h o n (there j) i)))))
    (λ h. all_against_from (against_in table) (m ∷ ms) e (λ o n i j.
    let w : In n (listed_for table m) × (list_all (λ k. against_in table k n) ms ≡ true) =
    filter_cases (λ k. list_all (λ l. against_in table l k) ms) (listed_for table m) n (has_In (common_to table m ms) n (all_at (has (common_to table m ms)) e h n j)) in
    elim (In_cases i) [
      | inl s ↦ subst (λ z. against_in table z n ≡ true) (sym s) (In_has w.0)
      | inr k ↦ all_at (λ l. against_in table l n) ms w.1 o k
    ]))

pub common_ascending : (table : List (List ℕ)) (m : ℕ) (ms : List ℕ) → Ascending (listed_for table m) → Ascending (common_to table m ms)
common_ascending table m ms a = ascending_filter (λ n. list_all (λ o. against_in table o n) ms) (listed_for table m) a

any_same : {A : Type 0} (p q : A → Bool) (xs : List A) → ((x : A) → p x ≡ q x) → list_any p xs ≡ list_any q xs
any_same p q [] f = refl
any_same p q (x ∷ xs) f = ap₂ (λ a b. a || b) (f x) (any_same p q xs f)

-- and so it faces a side of a package
pub faces_within : (table cs : List (List ℕ)) (p m : ℕ) (ms : List ℕ) →
    list_any (all_against (against_in table) (m ∷ ms)) ((p ∷ []) ∷ cs) ≡ (has (common_to table m ms) p || list_any (λ e. is_inside e (common_to table m ms)) cs)
faces_within table cs p m ms =
    any_same (all_against (against_in table) (m ∷ ms)) (λ e. is_inside e (common_to table m ms)) ((p ∷ []) ∷ cs) (common_within table m ms)
    ∙ ap (λ z. z || list_any (λ e. is_inside e (common_to table m ms)) cs) (and_true (has (common_to table m ms) p))
  where
    and_true : (b : Bool) → (b && true) ≡ b
    and_true true = refl
    and_true false = refl

-- the same for any test that the first member passes with its listed conflicts alone
pub filtered_within : (f : ℕ → ℕ → Bool) (listed : List ℕ) (m : ℕ) (ms e : List ℕ) → ((n : ℕ) → f m n ≡ true → has listed n ≡ true) →
    all_against f (m ∷ ms) e ≡ is_inside e (filter (λ n. list_all (λ o. f o n) (m ∷ ms)) listed)
filtered_within f listed m ms e own =
    same_bool (all_against f (m ∷ ms) e) (is_inside e (filter (λ n. list_all (λ o. f o n) (m ∷ ms)) listed))
    (λ h. all_from (has (filter (λ n. list_all (λ o. f o n) (m ∷ ms)) listed)) e (λ n i.
    In_has (filter_from (λ k. list_all (λ o. f o k) (m ∷ ms)) listed n
    (has_In listed n (own n (all_against_at f (m ∷ ms) e h m n here i)))
    (all_from (λ o. f o n) (m ∷ ms) (λ o j. all_against_at f (m ∷ ms) e h o n j i)))))
    (λ h. all_against_from f (m ∷ ms) e (λ o n i j.
    let w : In n listed × (list_all (λ k. f k n) (m ∷ ms) ≡ true) =
    filter_cases (λ k. list_all (λ l. f l k) (m ∷ ms)) listed n (has_In (filter (λ n. list_all (λ o. f o n) (m ∷ ms)) listed) n (all_at (has (filter (λ n. list_all (λ o. f o n) (m ∷ ms)) listed)) e h n j)) in
    all_at (λ l. f l n) (m ∷ ms) w.1 o i))

pub faces_filtered : (f : ℕ → ℕ → Bool) (listed : List ℕ) (cs : List (List ℕ)) (p m : ℕ) (ms : List ℕ) → ((n : ℕ) → f m n ≡ true → has listed n ≡ true) →
    list_any (all_against f (m ∷ ms)) ((p ∷ []) ∷ cs) ≡ (has (filter (λ n. list_all (λ o. f o n) (m ∷ ms)) listed) p || list_any (λ e. is_inside e (filter (λ n. list_all (λ o. f o n) (m ∷ ms)) listed)) cs)
faces_filtered f listed cs p m ms own =
    any_same (all_against f (m ∷ ms)) (λ e. is_inside e (filter (λ n. list_all (λ o. f o n) (m ∷ ms)) listed)) ((p ∷ []) ∷ cs) (λ e. filtered_within f listed m ms e own)
    ∙ ap (λ z. z || list_any (λ e. is_inside e (filter (λ n. list_all (λ o. f o n) (m ∷ ms)) listed)) cs) (and_true (has (filter (λ n. list_all (λ o. f o n) (m ∷ ms)) listed) p))
  where
    and_true : (b : Bool) → (b && true) ≡ b
    and_true true = refl
    and_true false = refl
