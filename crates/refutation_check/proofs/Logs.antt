-- The entries of a log, one after another.
use Rattle.std.proofs.Common.{Bool, true, false, ◌≡◌, ℕ, ◌+◌, ◌-◌, ◌<◌, ◌≤◌, List, [], ◌++◌, length, get_or, take, refl, ◌∙◌, arith, Some, subst, below_more}
use Rattle.std.proofs.lemmas.Option.{slice_get_within, get_or_from_slice_get, slice_get_read}
use Rattle.std.specs.{Prelude.{All, map, slice_get, IsTrue, ◌↔◌}, Bool.{OnTrue}}
use Rattle.search_terms.specs.{declared.literals.Literal.{Literal}, Closure.{negation, Clashes}, Derives.{Derives}, Form.{form}, Laws.{HasNoSolution}}
use Rattle.row_book.specs.Repository.{Repository}
use Rattle.search_terms.proofs.{Found.{derives_no_solution}, Least.{negated_range}}

-- the classes of negated literals
pub range_of : (xs entry : List Literal) (n : ℕ) → xs ≡ map negation entry → All (λ l. l.class < n) entry → All (λ l. l.class < n) xs
range_of xs entry n e range = rw e (negated_range entry n range)

-- each entry before the k-th follows
abbrev pub FollowsBelow : List (List Literal) → List (List Literal) → ℕ → Type 0
FollowsBelow formula log k = (j : ℕ) (entry : List Literal) → j < k → slice_get log j ≡ Some entry → Clashes (formula ++ take j log) (map negation entry)

-- one more entry follows
pub follows_more : (formula log : List (List Literal)) (k : ℕ) (entry : List Literal) → k < length log → entry ≡ get_or log k entry
    → Clashes (formula ++ take k log) (map negation entry) → FollowsBelow formula log k → FollowsBelow formula log (k + 1)
follows_more formula log k entry lt e clash before j other jlt h =
    below_more (λ i. (x : List Literal) → slice_get log i ≡ Some x → Clashes (formula ++ take i log) (map negation x)) k
    (λ i ilt x. before i x ilt)
    (λ x same. let eq : entry ≡ x = e ∙ get_or_from_slice_get log k x entry same in subst (λ y. Clashes (formula ++ take k log) (map negation y)) eq clash)
    j jlt other h

-- all entries follow, and the last is empty
pub derives_from : (formula log : List (List Literal)) (k : ℕ) → slice_get log (length log - 1) ≡ Some [] → length log ≤ k → FollowsBelow formula log k → Derives formula log
derives_from formula log k last le below = record {
  last = last;
  each = λ j entry h. let lt : j < length log = slice_get_within log j entry h in let jk : j < k = omega arith in below j entry jk h;
}

-- one entry does not follow
pub derives_not : (formula log : List (List Literal)) (k : ℕ) (entry : List Literal) → k < length log → entry ≡ get_or log k entry
    → (Clashes (formula ++ take k log) (map negation entry) → ⊥) → Derives formula log → ⊥
derives_not formula log k entry lt e no-clash d = no-clash (d.each k entry (slice_get_read log (length log) k entry refl lt e))

-- where the answer is yes, there is no solution
pub refutes_where : (R : Repository) (goals : List (List ℕ)) (log : List (List Literal)) (r : Bool) → (IsTrue r ↔ Derives (form R goals) log) → OnTrue r (HasNoSolution R goals)
refutes_where R goals log true h = derives_no_solution R goals log (h.0 refl)
refutes_where R goals log false h = tt
