-- The classes of a kernel: each package is of one, each has a package, and there are no more of them than packages. And the
-- package that is named where a round passes the clause limit.
use Rattle.std.proofs.Common.{◌≡◌, ℕ, zero, suc, ◌+◌, ◌<◌, ◌≤◌, Bool, true, false, cond, eqb, List, [], ◌∷◌, length, map, Option, Some, None, refl, sym, ◌∙◌}
use Rattle.std.proofs.{Common.{ap, subst, arith, inl, inr, eq-eqb}, lemmas.List.{length-map}}
use Rattle.std.specs.{Prelude.{ltb}, List.{find}, Option.{option_map}}
use Rattle.row_book.specs.{Numbers.{numbers}, Flattening.{Passed, first_some, flat, packages, passed_at, passes, remaining_after, row_length}}
use Rattle.row_book.specs.{Merging.{class_of, first_of, firsts, place_of}, Pruning.{prune}, Repository.{Repository}}
use Rattle.row_book.specs.Rounds.{PassedRound, class_after, in_round, least_member, limit_at, passed_in_round, round, round_count, rounds}
use Rattle.row_book.specs.{Sound.{SoundRepository}, Thinning.{thin}}
use Rattle.listed.specs.Lists.{In, here, there}
use Rattle.listed.proofs.Lists.{In_cases, In_none, In_map_cases, find_some}
use Rattle.row_book.proofs.Numbers.{length_numbers, numbers_from, numbers_parts}
use Rattle.class_merge.proofs.{Classes.{alike_self, first_within, has_class_lem}, Groups.{class_unique}, Plain.{firsts_le}}
use Rattle.clause_flatten.proofs.TidyFlat.{flat_size}
use Rattle.kernel_rounds.proofs.Tails.{round_size, round_sound, thin_tail}

-- a round has a package for each class of the flattened repository, and stays sound
pub sized : (limit : ℕ) (hold : Bool) → (R : Repository) → SoundRepository R → length (round limit hold R).clauses ≡ length (firsts (flat limit hold R))
unfolding round
sized limit hold R s = round_size limit hold (λ R. thin (prune R)) thin_tail R s

stays_sound : (limit : ℕ) (hold : Bool) → (R : Repository) → SoundRepository R → SoundRepository (round limit hold R)
unfolding round
stays_sound limit hold R s = round_sound limit hold (λ R. thin (prune R)) thin_tail R s

-- each package is of a class
pub class_within : (limit : ℕ) (hold : Bool) → (n : ℕ) (R : Repository) → SoundRepository R → (p : ℕ) → p < length R.clauses → class_after limit hold R n p < length (rounds limit hold R n).clauses
class_within limit hold zero R s p l = l
class_within limit hold (suc n) R s p l =
    let own : p < length (flat limit hold R).clauses = subst (λ k. p < k) (sym (flat_size limit hold R)) l in
    class_within limit hold n (round limit hold R) (stays_sound limit hold R s) (class_of (flat limit hold R) p) (subst (λ k. class_of (flat limit hold R) p < k) (sym (sized limit hold R s)) (has_class_lem (flat limit hold R) p own).within)

-- a package of a class
pub record HasPackage (limit : ℕ) (hold : Bool) (R : Repository) (n k : ℕ) : Type 0 where
  pub by : ℕ
  pub within : by < length R.clauses
  pub class : class_after limit hold R n by ≡ k

-- each class has one: the least package of the class that it was before
pub class_met : (limit : ℕ) (hold : Bool) → (n : ℕ) (R : Repository) → SoundRepository R → (k : ℕ) → k < length (rounds limit hold R n).clauses → HasPackage limit hold R n k
class_met limit hold zero R s k l = record { by = k; within = l; class = refl }
class_met limit hold (suc n) R s k l =
    let w : HasPackage limit hold (round limit hold R) n k = class_met limit hold n (round limit hold R) (stays_sound limit hold R s) k l in
    let named : w.by < length (firsts (flat limit hold R)) = subst (λ k. w.by < k) (sized limit hold R s) w.within in
    let least : first_of (flat limit hold R) w.by < length (flat limit hold R).clauses = first_within (flat limit hold R) w.by named in
    record {
      by = first_of (flat limit hold R) w.by;
      within = subst (λ k. first_of (flat limit hold R) w.by < k) (flat_size limit hold R) least;
      class = ap (class_after limit hold (round limit hold R) n) (sym (class_unique (flat limit hold R) (first_of (flat limit hold R) w.by) w.by least named (alike_self (flat limit hold R) (first_of (flat limit hold R) w.by)))) ∙ w.class;
    }

-- there are no more classes than packages
pub classes_few : (limit : ℕ) (hold : Bool) → (n : ℕ) (R : Repository) → SoundRepository R → length (rounds limit hold R n).clauses ≤ length R.clauses
classes_few limit hold zero R s = omega arith
classes_few limit hold (suc n) R s =
    let later : length (rounds limit hold (round limit hold R) n).clauses ≤ length (round limit hold R).clauses = classes_few limit hold n (round limit hold R) (stays_sound limit hold R s) in
    let few : length (firsts (flat limit hold R)) ≤ length (flat limit hold R).clauses = firsts_le (flat limit hold R) in
    omega (arith, sized limit hold R s, flat_size limit hold R)

-- the first of some options is one of them
first_in : {A : Type 0} (xs : List (Option A)) (x : A) → first_some xs ≡ Some x → In (Some x) xs
first_in [] x e = absurd (let k : ⊥ = cc in k)
first_in (None ∷ xs) x e = there (first_in xs x e)
first_in (Some y ∷ xs) x e = subst (λ o. In o (Some y ∷ xs)) e here

-- the row that passes a limit is that of a package
passed_row : (R : Repository) (count : ℕ → ℕ) (limit i : ℕ) (p : Passed) (found : Option ℕ) → find (λ q. ltb limit (count q)) (packages R) ≡ found →
    option_map (λ q. record { gone = i; over = q; count = count q }) found ≡ Some p → p.over < length R.clauses
passed_row R count limit i p None is e = absurd (let k : ⊥ = cc in k)
passed_row R count limit i p (Some q) is e =
    let inside : In q (packages R) = (find_some (λ q. ltb limit (count q)) (packages R) q is).0 in
    let same : q ≡ p.over = let made : record { gone = i; over = q; count = count q } ≡ p = cc in ap (λ (x : Passed). x.over) made in
    let low : (0 ≤ q) × (q < 0 + length R.clauses) = numbers_parts (length R.clauses) 0 q inside in
    omega arith

passed_inside : (limit : ℕ) (hold : Bool) (R : Repository) (p : Passed) → passes limit hold R ≡ Some p → p.over < length R.clauses
unfolding passes
passed_inside limit hold R p e =
    let stages : List ℕ = numbers (cond hold 1 (suc (length R.clauses))) 0 in
    let stage : (i : ℕ) × In i stages × (Some p ≡ passed_at limit hold R i) =
    In_map_cases (passed_at limit hold R) stages (Some p) (first_in (map (passed_at limit hold R) stages) p e) in
    passed_row R (row_length R (remaining_after limit hold R stage.0).left) limit stage.0 p (find (λ q. ltb limit (row_length R (remaining_after limit hold R stage.0).left q)) (packages R)) refl (sym stage.2)

place_inside : (test : ℕ → Bool) (xs : List ℕ) (x : ℕ) → In x xs → test x ≡ true → place_of test xs < length xs
place_inside test [] x i h = absurd (In_none i)
place_inside test (y ∷ ys) x i h = by_test (test y) refl (λ j. place_inside test ys x j h)
  where
    by_test : (b : Bool) → test y ≡ b → (In x ys → place_of test ys < length ys) → cond b 0 (suc (place_of test ys)) < suc (length ys)
    by_test true e later = omega arith
    by_test false e later =
        let behind : In x ys = elim (In_cases i) [ inl same ↦ absurd (let k : true ≡ false = sym h ∙ ap test same ∙ e in cc) | inr j ↦ j ] in
        let l : place_of test ys < length ys = later behind in
        omega arith

-- the least package of a class is one of the packages
least_inside : (limit : ℕ) (hold : Bool) → (R : Repository) → SoundRepository R → (n k : ℕ) → k < length (rounds limit hold R n).clauses → least_member limit hold R n k < length R.clauses
least_inside limit hold R s n k l =
    let w : HasPackage limit hold R n k = class_met limit hold n R s k l in
    let found : least_member limit hold R n k < length (packages R) =
    place_inside (λ p. eqb (class_after limit hold R n p) k) (packages R) w.by (numbers_from (length R.clauses) 0 w.by (omega arith) (let m : w.by < length R.clauses = w.within in omega arith)) (eq-eqb (class_after limit hold R n w.by) k w.class) in
    let same : length (packages R) ≡ length R.clauses = sym (length-map (packages R) (λ p. p)) ∙ length_numbers (λ p. p) (length R.clauses) 0 in
    omega arith

-- the package that is named where a round passes the limit is one of the repository's
pub limit_inside : (limit : ℕ) (hold : Bool) (R : Repository) → SoundRepository R → (w : PassedRound) → limit_at limit hold R ≡ Some w → w.over < length R.clauses
unfolding limit_at
limit_inside limit hold R s w e =
    let stage : (i : ℕ) × In i (numbers (suc (round_count limit hold R)) 0) × (Some w ≡ passed_in_round limit hold R i) =
    In_map_cases (passed_in_round limit hold R) (numbers (suc (round_count limit hold R)) 0) (Some w) (first_in (map (passed_in_round limit hold R) (numbers (suc (round_count limit hold R)) 0)) w e) in
    by_round stage.0 (passes limit hold (rounds limit hold R stage.0)) refl (sym stage.2)
  where
    by_round : (i : ℕ) (found : Option Passed) → passes limit hold (rounds limit hold R i) ≡ found → option_map (in_round limit hold R i) found ≡ Some w → w.over < length R.clauses
    by_round i None is e = absurd (let k : ⊥ = cc in k)
    by_round i (Some p) is e =
        let made : in_round limit hold R i p ≡ w = cc in
        subst (λ (v : PassedRound). v.over < length R.clauses) made (least_inside limit hold R s i p.over (passed_inside limit hold (rounds limit hold R i) p is))
