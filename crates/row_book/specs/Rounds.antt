-- Rounds of reduction, and the kernel: what no further round changes. All rounds have one clause
-- limit, and hold or not.
use Rattle.std.specs.Prelude.{◌≡◌, ◌⊎◌, ℕ, zero, suc, ◌<◌, ◌+◌, ◌*◌, Bool, true, false, ◌&&◌, eqb}
use Rattle.std.specs.Prelude.{cond, min, List, [], ◌∷◌, ◌++◌, map, length, Option}
use Rattle.std.specs.{Option.{option_map}, Cmp.Lexicographic.{pointwise}}
use Rattle.row_book.specs.{Sets.{NumSet}, Repository.{Repository, against, clauses_of}}
use Rattle.row_book.specs.Numbers.{numbers, subsets}
use Rattle.row_book.specs.Flattening.{flat, has_conflict, held_of, is_held, packages, Passed}
use Rattle.row_book.specs.Flattening.{passes, first_some}
use Rattle.row_book.specs.Merging.{are_alike, class_of, class_list, image, quotient, place_of}
use Rattle.row_book.specs.Pruning.{IdleClause, is_dropped, idle_steps, is_dead, prune}
use Rattle.row_book.specs.Thinning.{is_redundant, thin}
use Rattle.listed.specs.Lists.{In}

-- a round: flattening, then merging, pruning and thinning
unfoldable pub round : ℕ → Bool → Repository → Repository
round limit hold R = thin (prune (quotient (flat limit hold R)))

-- the repository after this number of rounds
abbrev pub rounds : ℕ → Bool → Repository → ℕ → Repository
rounds limit hold R zero = R
rounds limit hold R (suc n) = rounds limit hold (round limit hold R) n

-- the class of a package after this number of rounds
abbrev pub class_after : ℕ → Bool → Repository → ℕ → ℕ → ℕ
class_after limit hold R zero p = p
class_after limit hold R (suc n) p =
    class_after limit hold (round limit hold R) n (class_of (flat limit hold R) p)

-- the image of a set after this number of rounds
abbrev pub image_after : ℕ → Bool → Repository → ℕ → NumSet → NumSet
image_after limit hold R zero S = S
image_after limit hold R (suc n) S =
    image_after limit hold (round limit hold R) n (image (flat limit hold R) S)

-- What a healthy set of the kernel is taken back through: flattening, with the repository before
-- it; merging, with the class of each package; the dropping of an idle clause.
pub data RoundStep : Type 0 where
  FlatStep : Repository → RoundStep
  MergeStep : List ℕ → RoundStep
  IdleStep : IdleClause → RoundStep

abbrev pub round_steps : ℕ → Bool → Repository → List RoundStep
round_steps limit hold R = FlatStep R ∷ (MergeStep (class_list (flat limit hold R))
    ∷ map IdleStep (idle_steps (quotient (flat limit hold R))))

-- the steps of this number of rounds, in order
abbrev pub steps_after : ℕ → Bool → Repository → ℕ → List RoundStep
steps_after limit hold R zero = []
steps_after limit hold R (suc n) =
    round_steps limit hold R ++ steps_after limit hold (round limit hold R) n

-- whether a round leaves the repository as it is
abbrev pub is_same_repository : Repository → Repository → Bool
is_same_repository R F =
    pointwise (pointwise (pointwise eqb)) R.clauses F.clauses
    && pointwise (pointwise eqb) R.conflicts F.conflicts

-- how many numbers a row of clauses has, with one more for each clause
abbrev pub weigh : List (List ℕ) → ℕ
weigh [] = 0
weigh (c ∷ cs) = suc (length c + weigh cs)

-- This number of rounds always reaches the kernel. Each round that changes something has fewer
-- packages, or as many and fewer conflicts. Or it has as many of both, and fewer packages without
-- conflicts that are in clauses. Or it has as many of these too, and rows that weigh less, but for
-- the first of such rounds.
unfoldable pub enough_rounds : ℕ → ℕ
enough_rounds n = suc n * (suc (n * n) * (suc n * (2 + n * weigh (subsets n))))

-- after how many rounds, at most the given number, no round changes anything
abbrev pub rounds_until : ℕ → Bool → ℕ → Repository → ℕ
rounds_until limit hold zero R = 0
rounds_until limit hold (suc n) R = cond (is_same_repository (round limit hold R) R) 0
    (suc (rounds_until limit hold n (round limit hold R)))

-- how many rounds change something
unfoldable pub round_count : ℕ → Bool → Repository → ℕ
round_count limit hold R = rounds_until limit hold (enough_rounds (length R.clauses)) R

-- the kernel: the first that a round leaves as it is, of the repository, its round, the round of
-- that, and so on
abbrev pub kernel : ℕ → Bool → Repository → Repository
kernel limit hold R = rounds limit hold R (round_count limit hold R)

-- the class of a package in the kernel
abbrev pub kernel_class : ℕ → Bool → Repository → ℕ → ℕ
kernel_class limit hold R p = class_after limit hold R (round_count limit hold R) p

-- the image of a set of packages in the kernel
abbrev pub kernel_image : ℕ → Bool → Repository → NumSet → NumSet
kernel_image limit hold R S = image_after limit hold R (round_count limit hold R) S

-- the trail of the kernel
abbrev pub kernel_steps : ℕ → Bool → Repository → List RoundStep
kernel_steps limit hold R = steps_after limit hold R (round_count limit hold R)

-- the least package that is of the class after this number of rounds
abbrev pub least_member : ℕ → Bool → Repository → ℕ → ℕ → ℕ
least_member limit hold R n k = place_of (λ p. eqb (class_after limit hold R n p) k) (packages R)

-- The clause limit is passed: in the round of the number, counted from 1, and with the least
-- package of the class. The number stays at the greatest number of 32 bits.
pub record PassedRound : Type 0 where
  pub number : ℕ
  pub gone : ℕ
  pub over : ℕ
  pub count : ℕ

abbrev pub in_round : ℕ → Bool → Repository → ℕ → Passed → PassedRound
in_round limit hold R i w = record {
  number = min (suc i) 4294967295;
  gone = w.gone;
  over = least_member limit hold R i w.over;
  count = w.count;
}

abbrev pub passed_in_round : ℕ → Bool → Repository → ℕ → Option PassedRound
passed_in_round limit hold R i =
    option_map (in_round limit hold R i) (passes limit hold (rounds limit hold R i))

-- the first round, up to the one that changes nothing, whose flattening passes the clause limit
unfoldable pub limit_at : ℕ → Bool → Repository → Option PassedRound
limit_at limit hold R =
    first_some (map (passed_in_round limit hold R) (numbers (suc (round_count limit hold R)) 0))

-- the held packages of the kernel
abbrev pub kernel_held : ℕ → Bool → Repository → List ℕ
kernel_held limit hold R = held_of limit hold (kernel limit hold R)

-- Nothing more can go: each package that is in a clause has a conflict or is held. No two packages
-- are alike. A dead package has the empty clause alone. No clause is forced or idle, and no
-- conflict is redundant.
pub record Settled (limit : ℕ) (hold : Bool) (K : Repository) : Type 0 where
  pub stays : (p : ℕ) (c : List ℕ) (n : ℕ) → In c (clauses_of K p) → In n c →
      (has_conflict K n ≡ true) ⊎ (is_held limit hold K n ≡ true)
  pub unlike : (p q : ℕ) → p < length K.clauses → q < length K.clauses →
      are_alike K p q ≡ true → q ≡ p
  pub dead : (p : ℕ) → p < length K.clauses → is_dead K p ≡ true → clauses_of K p ≡ [] ∷ []
  pub needed : (p : ℕ) (d : List ℕ) → In d (clauses_of K p) → is_dropped K p d ≡ false
  pub irredundant : (a b : ℕ) → a < b → b < length K.clauses → against K a b ≡ true →
      is_redundant K a b ≡ false
