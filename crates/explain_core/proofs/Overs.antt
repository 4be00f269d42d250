-- Searches over packages with chosen conflicts.
use Rattle.std.proofs.Common.{◌≡◌, ℕ, ◌<◌, Bool, true, false, ◌&&◌, ◌||◌, eqb, List, [], inl, inr, length, filter, refl, ap, ◌∙◌, arith, Some, None, zero-add}
use Rattle.std.proofs.lemmas.Bool.{cases_Bool, both_ways, false_from_ne_true}
use Rattle.std.specs.Prelude.{ltb}
use Rattle.listed.proofs.{Bools.{cases_Option}, Lists.{In_has, any_cases, any_from}}
use Rattle.clause_solver.specs.declared.outcomes.Verdict.TheVariants.{Yes, No, Spent}
use Rattle.row_book.specs.{Book.{are_paired, listed_for, lists_of_pairs, PairsFit}, Numbers.{numbers}, Flags.{flag}, Needs.{NeedsFit}}
use Rattle.row_book.specs.{Repository.{Repository, against}, Sets.{NumSet}, Sound.{SoundRepository}, declared.pair.Pair.{Pair}}
use Rattle.listed.specs.Lists.{In, has}
use Rattle.row_book.proofs.{Numbers.{at_numbers, numbers_from}, Pairs.{length_pairs, pairs_conflict, at_pairs}, Repositories.{has_filter}}
use Rattle.search_terms.specs.{Closure.{InRange}, Form.{form}, Laws.{HasNoSolution, Solves}, Tree.{Tree, IsTree, failed_leaves, found_of}}
use Rattle.search_terms.proofs.{Computed.{search_tree_is}, Found.{finds_healthy}}
use Rattle.suite_compare.specs.Asking.{tree_of, verdict_of}
use Rattle.suite_compare.proofs.Ranged.{formula_ranged}
use Rattle.explain_core.specs.{Only.{only}, Reasons.{tree_over, verdict_over}}

-- what a verdict tells of a tree
yes_found : (budget : ℕ) (tree : Tree) → verdict_of budget tree ≡ Yes → (chosen : List Bool) × (found_of tree ≡ Some chosen)
yes_found budget tree e = elim (cases_Bool (ltb budget (failed_leaves tree))) [
  | inl t ↦ absurd (let s : Spent ≡ Yes = rw t at e in cc s)
  | inr n ↦ elim (cases_Option (found_of tree)) [
    | inr some ↦ some
    | inl none ↦ absurd (let s : No ≡ Yes = rw (n, none) at e in cc s)
  ]
]

pub no_none : (budget : ℕ) (tree : Tree) → verdict_of budget tree ≡ No → found_of tree ≡ None
no_none budget tree e = elim (cases_Bool (ltb budget (failed_leaves tree))) [
  | inl t ↦ absurd (let s : Spent ≡ No = rw t at e in cc s)
  | inr n ↦ elim (cases_Option (found_of tree)) [
    | inr some ↦ absurd (let s : Yes ≡ No = rw (n, some.1) at e in cc s)
    | inl none ↦ none
  ]
]

pub no_from : (budget : ℕ) (tree : Tree) → ltb budget (failed_leaves tree) ≡ false → found_of tree ≡ None → verdict_of budget tree ≡ No
no_from budget tree few none = rw (few, none) refl

-- pairs of a repository's packages
module _ (R : Repository) (sound : SoundRepository R) (pairs : List Pair) (fit : PairsFit pairs (length R.clauses)) where
  pub only_sound : SoundRepository (only R pairs)
  only_sound = record {
    clauses = sound.clauses;
    count = length_pairs pairs (length R.clauses);
    conflicts = pairs_conflict pairs (length R.clauses) fit;
  }

  module _ (budget : ℕ) (goals : List (List ℕ)) (needs : NeedsFit (length R.clauses) goals) where
    range : InRange (length R.clauses) (form (only R pairs) goals)
    range = formula_ranged (only R pairs) goals only_sound needs

    tree_is : IsTree (length R.clauses) (form (only R pairs) goals) [] (tree_over R goals pairs)
    unfolding tree_of
    tree_is = search_tree_is (length R.clauses) (form (only R pairs) goals) range

    pub over_yes : verdict_over R budget goals pairs ≡ Yes → (I : NumSet) × Solves (only R pairs) goals I
    over_yes e =
        let w = yes_found budget (tree_over R goals pairs) e in
        (flag w.0, (finds_healthy (only R pairs) goals (tree_over R goals pairs) range tree_is).1 w.0 w.1)

    pub none_solved : found_of (tree_over R goals pairs) ≡ None → HasNoSolution (only R pairs) goals
    none_solved none I healthy hits =
        let w = (finds_healthy (only R pairs) goals (tree_over R goals pairs) range tree_is).0 (I, healthy, hits) in
        cc (none, w.1)

    pub over_no : verdict_over R budget goals pairs ≡ No → HasNoSolution (only R pairs) goals
    over_no e = none_solved (no_none budget (tree_over R goals pairs) e)

    pub solved_none : HasNoSolution (only R pairs) goals → found_of (tree_over R goals pairs) ≡ None
    solved_none none = elim (cases_Option (found_of (tree_over R goals pairs))) [
      | inl e ↦ e
      | inr some ↦ absurd (let w = (finds_healthy (only R pairs) goals (tree_over R goals pairs) range tree_is).1 some.0 some.1 in none (flag some.0) w.0 w.1)
    ]

-- more pairs pair what fewer do
pub paired_more : (fewer more : List Pair) → ((x : Pair) → In x fewer → In x more) → (m n : ℕ) → are_paired fewer m n ≡ true → are_paired more m n ≡ true
paired_more fewer more h m n t =
    let test = λ (x : Pair). (eqb x.low m && eqb x.high n) || (eqb x.low n && eqb x.high m) in
    let w = any_cases test fewer t in any_from test more w.0 (h w.0 w.1) w.2

-- of two packages one of the pairs tells whether they conflict
pub only_against : (R : Repository) (pairs : List Pair) (m n : ℕ) → m < length R.clauses → n < length R.clauses → against (only R pairs) m n ≡ are_paired pairs m n
only_against R pairs m n lm ln =
    let size : ℕ = length R.clauses in
    let inside : has (numbers size 0) n ≡ true = In_has (numbers_from size 0 n (omega arith) (omega arith)) in
    ap (λ xs. has xs n) (at_pairs pairs (length R.clauses) m lm)
    ∙ has_filter (are_paired pairs m) (numbers size 0) n ∙ ap (λ b. b && are_paired pairs m n) inside

-- where fewer pairs conflict, what was healthy is
pub fewer_pairs : (R : Repository) (more fewer : List Pair) (goals : List (List ℕ)) (I : NumSet) → ((x : Pair) → In x fewer → In x more) → Solves (only R more) goals I → Solves (only R fewer) goals I
fewer_pairs R more fewer goals I h s = (
  record {
    packages = s.0.packages;
    abundance = s.0.abundance;
    peace = λ m n i j.
        let lm : m < length R.clauses = s.0.packages m i in
        let ln : n < length R.clauses = s.0.packages n j in
        only_against R fewer m n lm ln ∙ false_from_ne_true (are_paired fewer m n) (λ t.
        both_ways (against (only R more) m n) (s.0.peace m n i j) (only_against R more m n lm ln ∙ paired_more fewer more h m n t));
  },
  s.1,
)
