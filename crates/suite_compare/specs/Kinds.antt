-- A kind is a list of classes. Names whose packages are of the same classes are of one kind, and
-- have the same verdicts.
use Rattle.std.specs.Prelude.{◌≡◌, ℕ, ◌<◌, true, List, [], ◌∷◌, length, map, slice_index_or}
use Rattle.listed.specs.Lists.{In, has}
use Rattle.row_book.specs.{Book.{listed_for}, Lent.{repository_in}, Repository.{Repository}}
use Rattle.suite_compare.specs.{Asking.{tree_of, verdict_of}, Groups.{AreEach}}
use Rattle.suite_compare.specs.declared.judge.Judge.{Judge}
use Rattle.clause_solver.specs.declared.outcomes.Verdict.{Verdict}

-- the verdict of a search in a kernel, for goals as lists of classes
abbrev pub kernel_verdict : Repository → ℕ → List (List ℕ) → Verdict
kernel_verdict K budget goals = verdict_of budget (tree_of K goals)

abbrev pub alone : Repository → ℕ → List ℕ → Verdict
alone K budget goal = kernel_verdict K budget (goal ∷ [])

abbrev pub together : Repository → ℕ → List ℕ → List ℕ → Verdict
together K budget first second = kernel_verdict K budget (first ∷ (second ∷ []))

-- two goals of one class each, and these conflict
pub record AreRivals (conflicts : List (List ℕ)) (first second : List ℕ) : Type 0 where
  pub one : ℕ
  pub other : ℕ
  pub first_is : first ≡ one ∷ []
  pub second_is : second ≡ other ∷ []
  pub against : has (listed_for conflicts one) other ≡ true

-- a goal of one class
abbrev pub IsOneClass : List ℕ → Type 0
IsOneClass goal = (c : ℕ) × (goal ≡ c ∷ [])

-- the keys of the first n items, each once in the order in which they came, the item with which
-- each came first, and the number of each item's key
pub record AreNumbered (key : ℕ → List ℕ) (n : ℕ) (seen : List (List ℕ))
    (firsts of : List ℕ) : Type 0 where
  pub are : seen ≡ map key firsts
  pub below : (i : ℕ) → In i firsts → i < n
  pub each : AreEach (λ i k. (k < length firsts) × (key (slice_index_or firsts k 0) ≡ key i)) 0 n of

-- for each list the number of a kind that is the same list, and no other kinds
pub record AreKinds (lists kinds : List (List ℕ)) (kind_of : List ℕ) : Type 0 where
  pub long : length kind_of ≡ length lists
  pub within : (i : ℕ) → i < length lists → slice_index_or kind_of i 0 < length kinds
  pub each : (i : ℕ) → i < length lists →
      listed_for kinds (slice_index_or kind_of i 0) ≡ listed_for lists i
  pub only : (c : List ℕ) → In c kinds → In c lists

-- for each name the number of the pair of its kinds, and no other pairs
pub record ArePaired (old_of new_of olds news kind_pair_of : List ℕ) : Type 0 where
  pub long : length kind_pair_of ≡ length new_of
  pub same : length olds ≡ length news
  pub within : (i : ℕ) → i < length new_of → slice_index_or kind_pair_of i 0 < length news
  pub each_old : (i : ℕ) → i < length new_of →
      slice_index_or olds (slice_index_or kind_pair_of i 0) 0 ≡ slice_index_or old_of i 0
  pub each_new : (i : ℕ) → i < length new_of →
      slice_index_or news (slice_index_or kind_pair_of i 0) 0 ≡ slice_index_or new_of i 0
  pub only_old : (k : ℕ) → In k olds → In k old_of
  pub only_new : (k : ℕ) → In k news → In k new_of

-- the pair of the kinds of a name
abbrev pub kind_pair_key : List ℕ → List ℕ → ℕ → List ℕ
kind_pair_key old_of new_of i = slice_index_or old_of i 0 ∷ (slice_index_or new_of i 0 ∷ [])

-- the kernel that a judge is asked of
abbrev pub kernel_in : Judge → Repository
kernel_in judge = repository_in judge.kernel

-- the verdict on one of its kinds by itself, and on two together
abbrev pub alone_in : Judge → ℕ → Verdict
alone_in judge k = alone (kernel_in judge) judge.budget (listed_for judge.kinds.items k)

abbrev pub together_in : Judge → ℕ → ℕ → Verdict
together_in judge first second = together (kernel_in judge) judge.budget
    (listed_for judge.kinds.items first) (listed_for judge.kinds.items second)
