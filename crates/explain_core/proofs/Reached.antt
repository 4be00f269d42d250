-- Reach as a test is the least set.
use Rattle.std.proofs.{Common.{◌≡◌, ℕ, ◌<◌, Bool, true, not, ◌||◌, List, inl, inr, length, arith, filter}, Math.Path.{fun_ext}}
use Rattle.std.proofs.lemmas.Bool.{cases_Bool, and_parts, and_from, or_cases, or_left, or_right, both_ways, not-true, not_from_false}
use Rattle.std.specs.List.{list_all}
use Rattle.listed.proofs.{Bools.{same_bool}, Lists.{In_has, has_In, all_from, all_at, filter_from, filter_cases}, Orders.{ascending_filter}}
use Rattle.listed.specs.Lists.{is_inside, In, has}
use Rattle.row_book.specs.{Numbers.{numbers, subsets}, Needs.{NeedsFit}, Repository.{Repository, clauses_of}, Sets.{NumSet, Is}, Sound.{SoundRepository}}
use Rattle.clause_pool.proofs.Clauses.{inside_from, inside_at}
use Rattle.row_book.proofs.Numbers.{numbers_from, numbers_parts, numbers_ascending, subsets_has}
use Rattle.explain_core.specs.{Reach.{HoldsNeeds, IsReach, holds_needs, reach_of}, Laws.{ReachIsLeast}}

-- the test of a list is that of its set
needs_from : (R : Repository) (goals : List (List ℕ)) (S : List ℕ) → HoldsNeeds R goals (has S) → holds_needs R goals S ≡ true
needs_from R goals S h =
    and_from (list_all (λ g. is_inside g S) goals) (list_all (λ p. list_all (λ c. is_inside c S) (clauses_of R p)) S)
    (all_from (λ g. is_inside g S) goals (λ g i. inside_from g S (λ n j. has_In S n (h.of_goals g i n j))))
    (all_from (λ p. list_all (λ c. is_inside c S) (clauses_of R p)) S
    (λ p i. all_from (λ c. is_inside c S) (clauses_of R p) (λ c j. inside_from c S (λ n k. has_In S n (h.of_clauses p (In_has i) c j n k)))))

needs_to : (R : Repository) (goals : List (List ℕ)) (S : List ℕ) → holds_needs R goals S ≡ true → HoldsNeeds R goals (has S)
needs_to R goals S t =
    let both = and_parts (list_all (λ g. is_inside g S) goals) (list_all (λ p. list_all (λ c. is_inside c S) (clauses_of R p)) S) t in
    record {
      of_goals = λ g i n j. In_has (inside_at g S (all_at (λ g. is_inside g S) goals both.0 g i) n j);
      of_clauses = λ p t c i n j. In_has (inside_at c S (all_at (λ c. is_inside c S) (clauses_of R p) (all_at (λ p. list_all (λ c. is_inside c S) (clauses_of R p)) S both.1 p (has_In S p t)) c i) n j);
    }

module _ (R : Repository) (goals : List (List ℕ)) where
  -- what the test asks of a set
  abbrev asks : ℕ → List ℕ → Bool
  asks n S = not (holds_needs R goals S) || has S n

  -- a package is within reach where each list that holds what is needed has it
  reach_from : (n : ℕ) → ((S : List ℕ) → HoldsNeeds R goals (has S) → Is (has S) n) → Is (reach_of R goals) n
  unfolding reach_of
  reach_from n h = all_from (asks n) (subsets (length R.clauses)) (λ S i. elim (cases_Bool (holds_needs R goals S)) [
    | inl t ↦ or_right (not (holds_needs R goals S)) (has S n) (h S (needs_to R goals S t))
    | inr f ↦ or_left (not (holds_needs R goals S)) (has S n) (not_from_false (holds_needs R goals S) f)
  ])

  reach_at : (n : ℕ) → Is (reach_of R goals) n → (S : List ℕ) → In S (subsets (length R.clauses)) → HoldsNeeds R goals (has S) → Is (has S) n
  unfolding reach_of
  reach_at n r S i h = elim (or_cases (not (holds_needs R goals S)) (has S n) (all_at (asks n) (subsets (length R.clauses)) r S i)) [
    | inl f ↦ absurd (both_ways (holds_needs R goals S) (not-true (holds_needs R goals S) f) (needs_from R goals S h))
    | inr t ↦ t
  ]

  -- the packages of a set, as a list
  abbrev packages_in : NumSet → List ℕ
  packages_in T = filter T (numbers (length R.clauses) 0)

  module _ (sound : SoundRepository R) (fit : NeedsFit (length R.clauses) goals) where
    put_in : (T : NumSet) (n : ℕ) → n < length R.clauses → Is T n → Is (has (packages_in T)) n
    put_in T n l t = In_has (filter_from T (numbers (length R.clauses) 0) n (numbers_from (length R.clauses) 0 n (omega arith) (omega arith)) t)

    taken : (T : NumSet) (n : ℕ) → Is (has (packages_in T)) n → Is T n
    taken T n h = (filter_cases T (numbers (length R.clauses) 0) n (has_In (packages_in T) n h)).1

    listed : (T : NumSet) → In (packages_in T) (subsets (length R.clauses))
    listed T = subsets_has (length R.clauses) (packages_in T) (ascending_filter T (numbers (length R.clauses) 0) (numbers_ascending (length R.clauses) 0))
        (λ m i. let w = numbers_parts (length R.clauses) 0 m (filter_cases T (numbers (length R.clauses) 0) m i).0 in omega (arith, w.1))

    holds_listed : (T : NumSet) → HoldsNeeds R goals T → HoldsNeeds R goals (has (packages_in T))
    holds_listed T h = record {
      of_goals = λ g i n j. put_in T n (fit g i n j) (h.of_goals g i n j);
      of_clauses = λ p t c i n j. put_in T n ((sound.clauses p c i).1 n j) (h.of_clauses p (taken T p t) c i n j);
    }

    pub reach_is : IsReach R goals (reach_of R goals)
    reach_is = record {
      holds = record {
        of_goals = λ g i n j. reach_from n (λ S h. h.of_goals g i n j);
        of_clauses = λ p t c i n j. reach_from n (λ S h. h.of_clauses p (reach_all p t S h) c i n j);
      };
      least = λ T h n r. taken T n (reach_at n r (packages_in T) (listed T) (holds_listed T h));
    }
      where
        -- so it is for any list, by its packages
        reach_all : (p : ℕ) → Is (reach_of R goals) p → (S : List ℕ) → HoldsNeeds R goals (has S) → Is (has S) p
        reach_all p t S h = taken (has S) p (reach_at p t (packages_in (has S)) (listed (has S)) (holds_listed (has S) h))

    -- there is one least set
    pub reach_one : (S : NumSet) → IsReach R goals S → S ≡ reach_of R goals
    reach_one S w = fun_ext (λ n. same_bool (S n) (reach_of R goals n) (w.least (reach_of R goals) reach_is.holds n) (reach_is.least S w.holds n))

pub reach_is_least : ReachIsLeast
reach_is_least R goals sound fit = reach_is R goals sound fit
