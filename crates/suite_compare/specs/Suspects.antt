-- for the bodies of this crate alone
-- Which kinds may fail to go together.
use Rattle.std.specs.Prelude.{◌≡◌, ℕ, ◌<◌, ◌==◌, ◌⊎◌, List, [], filter, length}
use Rattle.std.specs.List.{flat_map, range_with_len}
use Rattle.listed.specs.Lists.{In}
use Rattle.row_book.specs.{Book.{listed_for}, Repository.{Repository}}
use Rattle.suite_compare.specs.{Choices.{ArePeaceful, IsChosen}, Groups.{AreEach}}
use Rattle.suite_compare.specs.declared.suspect.Choices.{Choices}

-- a first choice for each of the first n kinds; empty if it has none
abbrev pub AreAllChosen : Repository → List (List ℕ) → ℕ → List (List ℕ) → Type 0
AreAllChosen R kinds n choices =
    AreEach (λ k choice. IsChosen R (listed_for kinds k) choice) [] n choices

-- the kind is entered under each of the classes, and nothing else is new
pub record AreHeld (old new : List (List ℕ)) (classes : List ℕ) (kind : ℕ) : Type 0 where
  pub kept : (c k : ℕ) → In k (listed_for old c) → In k (listed_for new c)
  pub all : (c : ℕ) → In c classes → In kind (listed_for new c)
  pub only : (c k : ℕ) → In k (listed_for new c) → In k (listed_for old c) ⊎ (k ≡ kind)

-- under each class those of the first n kinds whose first choice has it, and no later kinds
pub record AreHolders (n : ℕ) (choices table : List (List ℕ)) : Type 0 where
  pub all : (k c : ℕ) → k < n → In c (listed_for choices k) → In k (listed_for table c)
  pub only : (c k : ℕ) → In k (listed_for table c) → k < n

-- those of the first n kinds that have no first choice
abbrev pub without_choice : List (List ℕ) → ℕ → List ℕ
without_choice choices n = filter (λ k. length (listed_for choices k) == 0) (range_with_len 0 n)

-- the first choices of the kinds of a repository, with their tables
pub record AreChoices (R : Repository) (kinds : List (List ℕ)) (choices : Choices) : Type 0 where
  pub chosen : AreAllChosen R kinds (length kinds) choices.firsts.items
  pub holders : AreHolders (length choices.firsts.items) choices.firsts.items choices.holders.items
  pub size : length choices.holders.items ≡ length R.clauses
  pub without : choices.without.items
      ≡ without_choice choices.firsts.items (length choices.firsts.items)

-- both have members, and no member of the one conflicts with one of the other
pub record AreJoinable (conflicts : List (List ℕ)) (S T : List ℕ) : Type 0 where
  pub first : (n : ℕ) × In n S
  pub second : (n : ℕ) × In n T
  pub peace : ArePeaceful conflicts S T

-- kinds, and each kind whose first choice is not known to be at peace with that of the given one
pub record AreSuspects (conflicts choices : List (List ℕ)) (kind : ℕ)
    (suspects : List ℕ) : Type 0 where
  pub all : (k : ℕ) → k < length choices →
      In k suspects ⊎ AreJoinable conflicts (listed_for choices kind) (listed_for choices k)
  pub only : (k : ℕ) → In k suspects → k < length choices

-- the kinds under the classes that conflict with one of some classes
abbrev pub facing : List (List ℕ) → List (List ℕ) → List ℕ → List ℕ
facing conflicts table classes =
    flat_map (λ c. flat_map (listed_for table) (listed_for conflicts c)) classes
