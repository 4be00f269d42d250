-- Families of clauses: those apart from a number, and the minimal ones.
use Rattle.std.proofs.Common.{◌≡◌, ℕ, true, not, ◌||◌, List, [], ◌∷◌, inl, inr, sym, subst}
use Rattle.std.proofs.lemmas.Bool.{both_ways, cases_Bool, or_cases, or_left, or_right, not_from_false, not-true}
use Rattle.std.specs.List.{list_all}
use Rattle.listed.specs.Lists.{In, here, there, has, Inside, is_inside}
use Rattle.clause_pool.specs.Clauses.{apart_from, minimal_of}
use Rattle.listed.proofs.Lists.{In_has, has_In, has_not, In_cases, In_none, filter_from, filter_cases, all_from, all_at}

pub inside_from : (S T : List ℕ) → Inside S T → is_inside S T ≡ true
inside_from S T f = all_from (λ n. has T n) S (λ n i. In_has (f n i))

pub inside_at : (S T : List ℕ) → is_inside S T ≡ true → Inside S T
inside_at S T h n i = has_In T n (all_at (λ k. has T k) S h n i)

pub apart_cases : (p : ℕ) (cs : List (List ℕ)) (c : List ℕ) → In c (apart_from p cs) → In c cs × (In p c → ⊥)
apart_cases p cs c i =
    let w : In c cs × (not (has c p) ≡ true) = filter_cases (λ d. not (has d p)) cs c i in
    (w.0, λ j. both_ways (has c p) (not-true (has c p) w.1) (In_has j))

pub apart_in : (p : ℕ) (cs : List (List ℕ)) (c : List ℕ) → In c cs → (In p c → ⊥) → In c (apart_from p cs)
apart_in p cs c i f = filter_from (λ d. not (has d p)) cs c i (not_from_false (has c p) (has_not c p f))

-- the least ones
pub minimal_of_parts : (cs : List (List ℕ)) (T : List ℕ) → In T (minimal_of cs) → In T cs × ((S : List ℕ) → In S cs → Inside S T → Inside T S)
minimal_of_parts cs T i =
    let w : In T cs × (list_all (λ S. not (is_inside S T) || is_inside T S) cs ≡ true) = filter_cases (λ T. list_all (λ S. not (is_inside S T) || is_inside T S) cs) cs T i in (
      w.0,
      λ S j f.
          elim (or_cases (not (is_inside S T)) (is_inside T S) (all_at (λ S. not (is_inside S T) || is_inside T S) cs w.1 S j)) [
            | inl h ↦ absurd (both_ways (is_inside S T) (not-true (is_inside S T) h) (inside_from S T f))
            | inr h ↦ inside_at T S h
          ],
    )

pub minimal_of_from : (cs : List (List ℕ)) (T : List ℕ) → In T cs → ((S : List ℕ) → In S cs → Inside S T → Inside T S) → In T (minimal_of cs)
minimal_of_from cs T i f =
    filter_from (λ T. list_all (λ S. not (is_inside S T) || is_inside T S) cs) cs T i
    (all_from (λ S. not (is_inside S T) || is_inside T S) cs (λ S j.
    elim (cases_Bool (is_inside S T)) [
      | inl h ↦ or_right (not (is_inside S T)) (is_inside T S) (inside_from T S (f S j (inside_at S T h)))
      | inr h ↦ or_left (not (is_inside S T)) (is_inside T S) (not_from_false (is_inside S T) h)
    ]))

record Low (cs ds : List (List ℕ)) (T : List ℕ) : Type 0 where
  low : List ℕ
  one : In low cs
  part : Inside low T
  tight : (S : List ℕ) → In S ds → Inside S low → Inside low S

lower : (cs ds : List (List ℕ)) → ((c : List ℕ) → In c ds → In c cs) → (T : List ℕ) → In T cs → Low cs ds T
lower cs [] f T i = record { low = T; one = i; part = λ n j. j; tight = λ S j. absurd (In_none j) }
lower cs (D ∷ ds) f T i =
    elim (cases_Bool (is_inside D T)) [
      | inl y ↦
          let s : Low cs ds D = lower cs ds (λ c j. f c (there j)) D (f D here) in
          record {
            low = s.low;
            one = s.one;
            part = λ n j. inside_at D T y n (s.part n j);
            tight = λ S j g. elim (In_cases j) [
              | inl e ↦ subst (λ k. Inside s.low k) (sym e) s.part
              | inr k ↦ s.tight S k g
            ];
          }
      | inr no_d ↦
          let s : Low cs ds T = lower cs ds (λ c j. f c (there j)) T i in
          record {
            low = s.low;
            one = s.one;
            part = s.part;
            tight = λ S j g. elim (In_cases j) [
              | inl e ↦ absurd (both_ways (is_inside D T) no_d (inside_from D T (λ n l. s.part n (g n (subst (λ k. In n k) (sym e) l)))))
              | inr k ↦ s.tight S k g
            ];
          }
    ]

pub minimal_below : (cs : List (List ℕ)) (T : List ℕ) → In T cs → (S : List ℕ) × In S (minimal_of cs) × Inside S T
minimal_below cs T i =
    let s : Low cs cs T = lower cs cs (λ c j. j) T i in
    (s.low, minimal_of_from cs s.low s.one s.tight, s.part)
