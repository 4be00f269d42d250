-- Sound repositories: their tests of conflicts, and when two of them are the same.
use Rattle.std.proofs.Common.{◌≡◌, ℕ, suc, ◌<◌, ◌≤◌, ◌+◌, Bool, true, ◌&&◌, List, [], ◌∷◌, length, inl, inr, refl, sym, ◌∙◌, ap₂, subst, arith, filter}
use Rattle.std.proofs.{Common.{slice_index_or, eqb, zero-le, ◌↔◌}, lemmas.Bool.{and_from, and_parts, cases_lt}, lemmas.List.{get_or_past}}
use Rattle.std.specs.Cmp.Lexicographic.{pointwise, pointwise_decides, bytes_decides}
use Rattle.listed.proofs.{Bools.{same_bool}, Lists.{In_has, has_In, filter_cases, filter_from}, Orders.{ascending_same}}
use Rattle.row_book.specs.{Sets.{NumSet, Hit}, Repository.{Repository, Healthy, Coinst, against, clauses_of, conflicts_of}, Flattening.{packages}}
use Rattle.row_book.specs.Sound.{BetweenPackages, SoundRepository}
use Rattle.listed.specs.Lists.{In, has, Inside}
use Rattle.row_book.proofs.{Books.{in_listed}, Numbers.{numbers_from, numbers_parts}}

pub has_filter : (f : ℕ → Bool) (xs : List ℕ) (n : ℕ) → has (filter f xs) n ≡ (has xs n && f n)
has_filter f xs n =
    same_bool (has (filter f xs) n) (has xs n && f n)
    (λ h. let w : In n xs × (f n ≡ true) = filter_cases f xs n (has_In (filter f xs) n h) in and_from (has xs n) (f n) (In_has w.0) w.1)
    (λ h. let w : (has xs n ≡ true) × (f n ≡ true) = and_parts (has xs n) (f n) h in In_has (filter_from f xs n (has_In xs n w.0) w.1))

pub in_packages : (R : Repository) (p : ℕ) → p < length R.clauses → In p (packages R)
in_packages R p l = numbers_from (length R.clauses) 0 p zero-le (omega arith)

pub of_packages : (R : Repository) (p : ℕ) → In p (packages R) → p < length R.clauses
of_packages R p i = let w : (0 ≤ p) × (p < 0 + length R.clauses) = numbers_parts (length R.clauses) 0 p i in omega arith

pub Hit_inside : {A : ℕ → Type 0} {c d : List ℕ} → Inside c d → Hit A c → Hit A d
Hit_inside f h = record { by = h.by; inside = f h.by h.inside; alive = h.alive }

pub both : {A B C : Type 0} → (A ↔ B) → (B ↔ C) → (A ↔ C)
both f g = ((λ a. g.0 (f.0 a)), (λ c. f.1 (g.1 c)))

pub healthy_coinst : (R F : Repository) → ((I : NumSet) → (Healthy R I ↔ Healthy F I)) → (S : NumSet) → (Coinst R S ↔ Coinst F S)
healthy_coinst R F f S = (
  (λ h. record { whole = h.whole; healthy = (f h.whole).0 h.healthy; contains = h.contains }),
  (λ h. record { whole = h.whole; healthy = (f h.whole).1 h.healthy; contains = h.contains }),
)

-- the test of conflicts
pub symmetric : (R : Repository) → SoundRepository R → (m n : ℕ) → against R m n ≡ against R n m
symmetric R s m n = same_bool (against R m n) (against R n m) (s.conflicts.either_way m n) (s.conflicts.either_way n m)

pub conflict_within : (R : Repository) → length R.conflicts ≡ length R.clauses → (m n : ℕ) → against R m n ≡ true → m < length R.clauses
conflict_within R e m n h = subst (λ k. m < k) e (in_listed R.conflicts m n (has_In (conflicts_of R m) n h))

pub between : (R : Repository) → SoundRepository R → BetweenPackages R
between R s m n h = (conflict_within R s.count m n h, conflict_within R s.count n m (s.conflicts.either_way m n h))

pub ranged : (R : Repository) → SoundRepository R → (p : ℕ) (c : List ℕ) → In c (clauses_of R p) → (n : ℕ) → In n c → n < length R.clauses
ranged R s p c i = (s.clauses p c i).1

-- the same data
pub table_same : {A : Type 0} (xs ys : List (List A)) → length xs ≡ length ys → ((p : ℕ) → p < length xs → slice_index_or xs p [] ≡ slice_index_or ys p []) → xs ≡ ys
table_same [] [] e f = refl
table_same [] (y ∷ ys) e f = absurd (omega (arith, e))
table_same (x ∷ xs) [] e f = absurd (omega (arith, e))
table_same (x ∷ xs) (y ∷ ys) e f = ap₂ (λ z zs. z ∷ zs) (f 0 (omega arith)) (table_same xs ys (omega (arith, e)) (λ p l. f (suc p) (omega arith)))

pub repository_same : (R F : Repository) → R.clauses ≡ F.clauses → R.conflicts ≡ F.conflicts → R ≡ F
repository_same R F e f =
    let make : List (List (List ℕ)) → List (List ℕ) → Repository = λ c d. record { clauses = c; conflicts = d } in
    ap₂ make e f

pub conflicts_same : (R F : Repository) → SoundRepository R → SoundRepository F → length R.clauses ≡ length F.clauses → ((m n : ℕ) → against R m n ≡ against F m n) → R.conflicts ≡ F.conflicts
conflicts_same R F r f e same =
    table_same R.conflicts F.conflicts (r.count ∙ (e ∙ sym f.count))
    (λ p l. ascending_same (conflicts_of R p) (conflicts_of F p) (r.conflicts.ascending p) (f.conflicts.ascending p)
    (λ n i. has_In (conflicts_of F p) n (sym (same p n) ∙ In_has i))
    (λ n i. has_In (conflicts_of R p) n (same p n ∙ In_has i)))

-- tests of lists
pub same_numbers : (xs ys : List ℕ) → pointwise eqb xs ys ≡ true → xs ≡ ys
same_numbers xs ys h = (bytes_decides xs ys).0 h

pub numbers_test : (xs ys : List ℕ) → xs ≡ ys → pointwise eqb xs ys ≡ true
numbers_test xs ys e = (bytes_decides xs ys).1 e

pub same_rows : (cs ds : List (List ℕ)) → pointwise (pointwise eqb) cs ds ≡ true → cs ≡ ds
same_rows cs ds h = (pointwise_decides bytes_decides cs ds).0 h

pub rows_test : (cs ds : List (List ℕ)) → cs ≡ ds → pointwise (pointwise eqb) cs ds ≡ true
rows_test cs ds e = (pointwise_decides bytes_decides cs ds).1 e

pub same_tables : (xs ys : List (List (List ℕ))) → pointwise (pointwise (pointwise eqb)) xs ys ≡ true → xs ≡ ys
same_tables xs ys h = (pointwise_decides (pointwise_decides bytes_decides) xs ys).0 h

pub tables_test : (xs ys : List (List (List ℕ))) → xs ≡ ys → pointwise (pointwise (pointwise eqb)) xs ys ≡ true
tables_test xs ys e = (pointwise_decides (pointwise_decides bytes_decides) xs ys).1 e

-- each list of a table
pub each_list : {A : Type 0} (P : List A → Type 0) (table : List (List A)) → P [] → ((p : ℕ) → p < length table → P (slice_index_or table p [])) → (p : ℕ) → P (slice_index_or table p [])
each_list P table none f p =
    elim (cases_lt p (length table)) [
      | inl l ↦ f p l
      | inr past ↦ subst P (sym (get_or_past table p [] past)) none
    ]
