-- What goes down from round to round, in numbers.
use Rattle.std.proofs.Common.{◌≡◌, ℕ, Bool, ◌<◌, ◌+◌, List, [], ◌∷◌, inl, inr, refl, ap, arith}
use Rattle.clause_pool.specs.Lists.{Before}
use Rattle.row_book.specs.{Repository.{Repository}, Sound.{SoundRepository}, Flattening.{flat}, Merging.{quotient}, Pruning.{prune}, Thinning.{thin}}
use Rattle.row_book.specs.Rounds.{round, weigh}
use Rattle.kernel_rounds.specs.Laws.{RoundsGoDown, RowsInOrder, measures, total_weight}
use Rattle.kernel_rounds.proofs.{Ending.{Less, Same, outcome, sorted_after, tail_lighter, total}, Tails.{thin_tail}, Thins.{count_same}}

weight_is : (t : List (List (List ℕ))) → total t ≡ total_weight t
unfolding total
weight_is [] = refl
weight_is (row ∷ rows) = ap (λ n. weigh row + n) (weight_is rows)

-- fewer packages, conflicts, or packages without conflicts in clauses
less_before : (R T : Repository) → Less R T → Before (measures T) (measures R)
unfolding Less
less_before R T less = elim less [
  | inl packages ↦ inl packages
  | inr same_size ↦ elim same_size.1 [
    | inl conflicts ↦ inr (same_size.0, inl conflicts)
    | inr standing ↦ inr (same_size.0, inr (standing.0, inl standing.1))
  ]
]

-- or as many of each, and lighter clauses
lighter_before : (limit : ℕ) (hold : Bool) (t : Repository → Repository) (R T : Repository) → Same limit hold t R T → total T.clauses < total R.clauses → Before (measures T) (measures R)
lighter_before limit hold t R T same l =
    let weight : total_weight T.clauses < total_weight R.clauses = omega (arith, l, weight_is T.clauses, weight_is R.clauses) in
    inr (same.size, inr (count_same T R same.size same.conflicts, inr (same.standing, inl weight)))

goes_down : (limit : ℕ) (hold : Bool) (R : Repository) → SoundRepository R → RowsInOrder R → (round limit hold R ≡ R → ⊥) → Before (measures (round limit hold R)) (measures R)
unfolding round
goes_down limit hold R s sorted changes =
    let T : Repository = thin (prune (quotient (flat limit hold R))) in
    elim (outcome limit hold (λ F. thin (prune F)) thin_tail R s) [
      | inl less ↦ less_before R T less
      | inr same ↦ elim (tail_lighter limit hold (λ F. thin (prune F)) thin_tail R T s sorted same) [
        | inl e ↦ absurd (changes e)
        | inr lighter ↦ lighter_before limit hold (λ F. thin (prune F)) R T same lighter
      ]
    ]

sorted_rows : (limit : ℕ) (hold : Bool) (R : Repository) → SoundRepository R → RowsInOrder (round limit hold R)
unfolding round
sorted_rows limit hold R s = sorted_after limit hold (λ F. thin (prune F)) thin_tail R s

pub rounds_go_down_lem : RoundsGoDown
rounds_go_down_lem limit hold R s = record { sorted = sorted_rows limit hold R s; lower = goes_down limit hold R s }
