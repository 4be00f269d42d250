-- Packages that stand in clauses: flattening brings no package into them, and where a round leaves as many without conflicts
-- there, it leaves the same.
use Rattle.std.proofs.Common.{◌≡◌, ℕ, ◌<◌, ◌≤◌, Bool, true, false, not, ◌&&◌, ◌||◌, List, [], length, filter, ◌⊎◌, inl, inr, refl, sym, ◌∙◌, ap, ap₂, subst}
use Rattle.std.proofs.{Common.{arith, slice_index_or, zero-le}, lemmas.Bool.{and_from, and_parts, both_ways, cases_Bool, not-true, not_from_false}}
use Rattle.std.proofs.lemmas.List.{length-map}
use Rattle.std.specs.List.{list_any}
use Rattle.listed.specs.Lists.{In, has}
use Rattle.row_book.specs.{Sets.{NumSet}, Numbers.{numbers}, Repository.{Repository, clauses_of}, Support.{MinimalBlock}, Flattening.{has_conflict, packages}}
use Rattle.row_book.proofs.{Books.{in_listed}, Numbers.{length_numbers, numbers_from}}
use Rattle.listed.proofs.Lists.{In_has, any_cases, any_from, any_none, filter_same, has_In, filter_short}
use Rattle.clause_flatten.proofs.Rows.{member_stands}
use Rattle.kernel_rounds.specs.Laws.{standing_count, stands}
use Rattle.kernel_rounds.proofs.Thins.{filter_lt}

pub stands_from : (R : Repository) (p : ℕ) (c : List ℕ) (q : ℕ) → In c (clauses_of R p) → In q c → stands R q ≡ true
stands_from R p c q i j =
    let l : p < length R.clauses = in_listed R.clauses p c i in
    any_from (λ p. list_any (λ c. has c q) (clauses_of R p)) (packages R) p (numbers_from (length R.clauses) 0 p zero-le (omega arith))
    (any_from (λ c. has c q) (clauses_of R p) c i (In_has j))

-- where a package stands
pub record StandsAt (R : Repository) (q : ℕ) : Type 0 where
  pub holder : ℕ
  pub clause : List ℕ
  pub listed : In clause (clauses_of R holder)
  pub inside : In q clause

pub stands_parts : (R : Repository) (q : ℕ) → stands R q ≡ true → StandsAt R q
stands_parts R q h =
    let v : (p : ℕ) × In p (packages R) × (list_any (λ c. has c q) (clauses_of R p) ≡ true) = any_cases (λ p. list_any (λ c. has c q) (clauses_of R p)) (packages R) h in
    let w : (c : List ℕ) × In c (clauses_of R v.0) × (has c q ≡ true) = any_cases (λ c. has c q) (clauses_of R v.0) v.2 in
    record { holder = v.0; clause = w.0; listed = w.1; inside = has_In w.0 q w.2 }

-- what a minimal blocking set holds stands in some clause
pub blocks_stand : (R : Repository) (V : NumSet) (p : ℕ) (T : List ℕ) (q : ℕ) → MinimalBlock R V p T → In q T → stands R q ≡ true
blocks_stand R V p T q m i =
    let w : (o : ℕ) × (c : List ℕ) × In c (clauses_of R o) × In q c = member_stands R V p T q m i in
    stands_from R w.0 w.1 q w.2 w.3

-- conflicts are those of the data
pub conflicted_same : (F R : Repository) → length F.clauses ≡ length R.clauses → F.conflicts ≡ R.conflicts → (q : ℕ) → has_conflict F q ≡ has_conflict R q
conflicted_same F R e f q =
    let test : ℕ → List (List ℕ) → Bool = λ size table. list_any (λ n. has (slice_index_or table q []) n || has (slice_index_or table n []) q) (numbers size 0) in
    ap₂ test e f

-- of two tests that pass the same, the one that passes fewer passes them all, or fewer
pub filter_or : (f g : ℕ → Bool) (xs : List ℕ) → ((x : ℕ) → f x ≡ true → g x ≡ true) →
    (length (filter f xs) < length (filter g xs)) ⊎ ((length (filter f xs) ≡ length (filter g xs)) × ((x : ℕ) → In x xs → g x ≡ true → f x ≡ true))
filter_or f g xs h = elim (cases_Bool (list_any (λ x. g x && not (f x)) xs)) [
  | inl t ↦
      let w : (x : ℕ) × In x xs × ((g x && not (f x)) ≡ true) = any_cases (λ x. g x && not (f x)) xs t in
      let both : (g w.0 ≡ true) × (not (f w.0) ≡ true) = and_parts (g w.0) (not (f w.0)) w.2 in
      inl (filter_lt f g xs h w.0 w.1 both.0 (not-true (f w.0) both.1))
  | inr n ↦
      let each : (x : ℕ) → In x xs → g x ≡ true → f x ≡ true = λ x i u. elim (cases_Bool (f x)) [
        | inl y ↦ y
        | inr z ↦ absurd (both_ways (g x && not (f x)) (any_none (λ x. g x && not (f x)) xs n x i) (and_from (g x) (not (f x)) u (not_from_false (f x) z)))
      ] in
      inr (ap length (filter_same f g xs (λ x i. same (f x) (g x) (h x) (each x i))), each)
]
  where
    same : (a b : Bool) → (a ≡ true → b ≡ true) → (b ≡ true → a ≡ true) → a ≡ b
    same true b u v = sym (u refl)
    same false true u v = v refl
    same false false u v = refl

-- where each package that stands in a clause did so before, there are fewer without conflicts, or the same
pub standing_or : (F R : Repository) → length F.clauses ≡ length R.clauses → F.conflicts ≡ R.conflicts → ((q : ℕ) → stands F q ≡ true → stands R q ≡ true) →
    (standing_count F < standing_count R) ⊎ ((standing_count F ≡ standing_count R) × ((q : ℕ) → q < length R.clauses → has_conflict R q ≡ false → stands R q ≡ true → stands F q ≡ true))
unfolding standing_count
standing_or F R e f h =
    let later : ℕ → Bool = λ q. stands F q && not (has_conflict F q) in
    let before : ℕ → Bool = λ q. stands R q && not (has_conflict R q) in
    let kept : (q : ℕ) → later q ≡ true → before q ≡ true = λ q t.
    let w : (stands F q ≡ true) × (not (has_conflict F q) ≡ true) = and_parts (stands F q) (not (has_conflict F q)) t in
    and_from (stands R q) (not (has_conflict R q)) (h q w.0) (subst (λ b. not b ≡ true) (conflicted_same F R e f q) w.1) in
    let count : length (filter later (packages F)) ≡ length (filter later (packages R)) = ap (λ n. length (filter later (numbers n 0))) e in
    elim (filter_or later before (packages R) kept) [
      | inl l ↦ inl (subst (λ n. n < length (filter before (packages R))) (sym count) l)
      | inr w ↦ inr (
        count ∙ w.0,
        λ q l g t. (and_parts (stands F q) (not (has_conflict F q))
            (w.1 q (numbers_from (length R.clauses) 0 q zero-le (omega arith)) (and_from (stands R q) (not (has_conflict R q)) t (not_from_false (has_conflict R q) g)))).0,
      )
    ]

-- there are no more of them than packages
pub standing_few : (R : Repository) → standing_count R ≤ length R.clauses
unfolding standing_count
standing_few R =
    let few : length (filter (λ q. stands R q && not (has_conflict R q)) (packages R)) ≤ length (packages R) = filter_short (λ q. stands R q && not (has_conflict R q)) (packages R) in
    let same : length (packages R) ≡ length R.clauses = sym (length-map (packages R) (λ p. p)) ∙ length_numbers (λ p. p) (length R.clauses) 0 in
    omega (arith, few, same)
