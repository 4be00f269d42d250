-- The lines of a class: what stands in them, and what is known of it.
use Rattle.std.proofs.Common.{◌≡◌, ℕ, suc, ◌<◌, Bool, true, false, List, [], ◌∷◌, ◌++◌, length, map}
use Rattle.listed.specs.Lists.{Ascending, In}
use Rattle.clause_pool.specs.Lists.{InOrder}
use Rattle.listed.proofs.Lists.{In_none}
use Rattle.kernel_text.specs.{declared.member.Member.{Member}, KernelLines.{KernelLine, ClassLine, NeedsLine, AgainstLine}}
use Rattle.kernel_text.specs.{KernelText.{held_lines, line_of_member}, Reading.{IsNamed}}
use Rattle.kernel_text.proofs.Allowed.{IsClauseOf}

-- the members, clauses and greater conflicts of a class, and whether it is held
pub record Block : Type 0 where
  pub members : List Member
  pub held : Bool
  pub clauses : List (List ℕ)
  pub conflicts : List ℕ

abbrev pub block_lines : ℕ → Block → List KernelLine
block_lines n b = ClassLine n ∷ (map line_of_member b.members ++ (held_lines b.held ++ (map NeedsLine b.clauses ++ map AgainstLine b.conflicts)))

-- what the blocks give, one behind the other, from the number k on
abbrev pub over_blocks : {A : Type 0} → (ℕ → Block → List A) → ℕ → List Block → List A
over_blocks f k [] = []
over_blocks f k (b ∷ bs) = f k b ++ over_blocks f (suc k) bs

-- what is known of the block of a class
pub record FitBlock (n : ℕ) (b : Block) : Type 0 where
  pub members : (m : Member) → In m b.members → m.class ≡ n
  pub named : (m : Member) → In m b.members → IsNamed m.name m.version
  pub order : InOrder b.clauses
  pub clauses : (c : List ℕ) → In c b.clauses → IsClauseOf n c
  pub up : Ascending b.conflicts
  pub above : (m : ℕ) → In m b.conflicts → n < m

abbrev pub FitBlocks : ℕ → List Block → Type 0
FitBlocks n [] = Unit {0}
FitBlocks n (b ∷ bs) = FitBlock n b × FitBlocks (suc n) bs

-- each block has a member
abbrev pub ArePopulated : List Block → Type 0
ArePopulated [] = Unit {0}
ArePopulated (b ∷ bs) = (0 < length b.members) × ArePopulated bs

-- in format 2 alone blocks are held
abbrev pub HeldInSecond : ℕ → List Block → Type 0
HeldInSecond f [] = Unit {0}
HeldInSecond f (b ∷ bs) = (b.held ≡ true → f ≡ 2) × HeldInSecond f bs

abbrev pub empty : Block
empty = record { members = []; held = false; clauses = []; conflicts = [] }

pub empty_fits : (n : ℕ) → FitBlock n empty
empty_fits n = record {
  members = λ m i. absurd (In_none i);
  named = λ m i. absurd (In_none i);
  order = tt;
  clauses = λ c i. absurd (In_none i);
  up = tt;
  above = λ m i. absurd (In_none i);
}
